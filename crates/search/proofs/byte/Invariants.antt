-- After i turns the first i bits stand in x.
use Rattle.search.proofs.Bytes.{FirstBits}
use Rattle.search.proofs.byte.Given as goal

abbrev pub invariant-loop-mark : goal.invariant-loop-mark
invariant-loop-mark l = FirstBits l.fn.marks l.fn.at l.x l.mark-index
