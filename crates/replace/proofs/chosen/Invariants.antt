-- The branches below k are chosen: where a branch is named, both its rows are those of `inside`.
use Rattle.replace.proofs.Choosing.{Choosing}
use Rattle.replace.proofs.chosen.Given as goal

abbrev pub invariant-loop-k : goal.invariant-loop-k
invariant-loop-k l = Choosing l.branches l.named l.inside l.initial.outside l.outside l.k
