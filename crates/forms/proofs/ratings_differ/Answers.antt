-- `ratings_differ` is true exactly where the ratings of some branch differ.
use Rattle.forms.proofs.Scan.{alike_start, alike_more, alike_not}
use Rattle.forms.proofs.ratings_differ.Goals as goal

pub loop-k-init : goal.loop-k-init
loop-k-init c = alike_start _ _

pub returns-then-x : goal.returns-then-x
returns-then-x c =
    alike_not _ _ _ _ c.loop-k-test.true c.loop-k.invariant c.branch_at-x.ensures c.if-x.true

pub loop-k-preserved : goal.loop-k-preserved
loop-k-preserved c =
    alike_more _ _ _ _ c.loop-k-test.true c.loop-k.invariant c.branch_at-x.ensures c.if-x.false
