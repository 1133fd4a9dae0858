-- Each round keeps what `Round` says; each way out is one law of `Ends`.
use Rattle.reroute.proofs.Rounds.{Round}
use Rattle.reroute.proofs.reroute.Given as goal

abbrev pub invariant-loop-left : goal.invariant-loop-left
invariant-loop-left l = Round l.wires l.initial.latent l.initial.rest l.latent l.rest l.row l.left

abbrev pub decreases-loop-left : goal.decreases-loop-left
decreases-loop-left l = l.left
