-- The loop over the branches: x at the one end, y at the other.
use Rattle.fit.proofs.Tallying.{Tallying}
use Rattle.fit.proofs.tally.Given as goal

abbrev pub invariant-loop-k : goal.invariant-loop-k
invariant-loop-k l = Tallying l.branches l.one l.x l.other l.y l.initial.sums l.sums l.k
