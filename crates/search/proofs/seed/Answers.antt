-- The starts below v are marked and queued.
use borrow.Author.Rules.{rules}
use Rattle.search.proofs.Sowing.{sow_none, sow_skip, sow_mark, sow_end}
use Rattle.search.proofs.seed.Goals as goal
use Rattle.search.proofs.seed.Goals.{then-roles-v-eq1, else-roles-v-eq1}

pub loop-v-init : goal.loop-v-init
loop-v-init c = sow_none c.requires (search rules)

pub loop-v-preserved : goal.loop-v-preserved
loop-v-preserved c =
    elim c.if-roles-v-eq1.branch [
      | then-roles-v-eq1 w ↦ rw (w.marks-is, w.queue-is, w.origin-is, w.count-is) (sow_mark c.loop-v.invariant c.loop-v-test.true w.if-roles-v-eq1.true)
      | else-roles-v-eq1 w ↦ rw (w.marks-is, w.queue-is, w.origin-is, w.count-is) (sow_skip c.loop-v.invariant c.loop-v-test.true w.if-roles-v-eq1.false)
    ]

pub returns : goal.returns
returns c = sow_end c.loop-v.invariant c.loop-v-test.false
