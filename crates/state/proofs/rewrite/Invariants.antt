-- The loop over the branches: listed records are written, the rest are passed.
use Rattle.state.proofs.Rewriting.{Going}
use Rattle.state.proofs.rewrite.Given as goal

abbrev pub invariant-loop-k : goal.invariant-loop-k
invariant-loop-k l = Going l.wires l.served l.live l.latent l.listed l.initial.table l.table l.judged l.k
