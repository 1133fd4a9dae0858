-- `fill_branches` fills a table with the numbers of the branches, stretch by stretch.
use native.Mathlib.Omega.{arith}
use mathlib.Core.Path.{refl}
use Prim.Native.Nat.{◌+◌, ◌-◌}
use Rattle.book.proofs.Filling.{table_start, table_turn}
use Rattle.book.proofs.fill_branches.Goals as goal

pub loop-k-init : goal.loop-k-init
loop-k-init c = table_start _ _ _ _

pub loop-k-preserved : goal.loop-k-preserved
loop-k-preserved c =
    let a = c.numbers-a.result in
    table_turn _ _ _ _ _ _ _ a (a + c.fields.result - a) _ c.loop-k-test.true c.requires.1 c.loop-k.invariant
    c.numbers-a.ensures.count_is (omega (arith, c.fields.ensures.count_is)) c.branch_at-x.ensures (rw c.fill_row.ensures refl)
