-- `count` sums the ones of the group's bytes.
use borrow.Author.Rules.{rules}
use native.Mathlib.Omega.{arith}
use Rattle.bits.proofs.Counting.{counting_none, counting_more}
use Rattle.bits.proofs.count.Goals as goal

pub loop-x-init : goal.loop-x-init
loop-x-init c = counting_none _

pub loop-x-preserved : goal.loop-x-preserved
loop-x-preserved c = counting_more _ c.loop-x.invariant (omega arith) (search rules)
