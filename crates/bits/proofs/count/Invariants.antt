-- `count` sums the ones of the group's bytes.
use Rattle.bits.proofs.Counting.{Counting}
use Rattle.bits.proofs.count.Given as goal

abbrev pub invariant-loop-x : goal.invariant-loop-x
invariant-loop-x l = Counting l.fn.group l.total l.x-index
