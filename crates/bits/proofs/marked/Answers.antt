-- Each bit is told by its own call.
use native.Mathlib.Omega.{arith}
use Rattle.bits.proofs.Marking.{marked_none, marked_set, marked_skip}
use Rattle.bits.proofs.marked.Goals as goal
use Rattle.bits.proofs.marked.Goals.{then-test, else-test}

pub loop-k-init : goal.loop-k-init
loop-k-init g c = marked_none

pub loop-k-preserved : goal.loop-k-preserved
loop-k-preserved g c =
    let m = c.loop-k.invariant in
    let said = c.test.ensures in
    elim c.if-test.branch [
      | then-test w ↦ rw (w.row-is, w.set_bit.ensures) (marked_set m (omega arith) (rw w.if-test.true at said))
      | else-test w ↦ rw w.row-is (marked_skip m (rw w.if-test.false at said))
    ]
