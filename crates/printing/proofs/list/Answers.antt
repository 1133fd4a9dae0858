-- `list` prints the head line and then the line of each branch of the book.
use native.Mathlib.Omega.{arith}
use Rattle.printing.proofs.Counted.{printing_none, printing_more}
use Rattle.printing.proofs.list.Goals as goal

pub loop-k-init : goal.loop-k-init
loop-k-init g c = printing_none _ _ c.in_ok-length.ensures

pub loop-k-preserved : goal.loop-k-preserved
loop-k-preserved g c =
    let head = c.head_of-branches.ensures in
    printing_more _ _ c.loop-k.invariant (omega (arith, c.loop-k-test.true, head.branches_are)) c.in_ok-length-2.ensures
