-- `totals` gives what all buses but the supply import and export, or that an advance among them is too large.
use native.Mathlib.Omega.{arith}
use mathlib.Core.Path.{◌≡◌}
use lib.ListN.{length}
use Rattle.meters.proofs.TotalsSoFar.{adding_none, adding_supply, adding_more, far_import, far_export, added}
use Rattle.meters.proofs.Readings.totals.Goals as goal
use Rattle.meters.proofs.Readings.totals.Goals.{then-i-supply+else-a-gt1000000+else-a-gt1000000-2, else-i-supply, then-a-gt1000000-via-then-a-gt1000000, then-a-gt1000000-via-else-a-gt1000000+then-a-gt1000000-2}

pub loop-i-init : goal.loop-i-init
loop-i-init c = adding_none _ c.requires

pub returns-then-a-gt1000000 : goal.returns-then-a-gt1000000
returns-then-a-gt1000000 c =
    let e = c.advances-a.ensures in
    elim c.then-a-gt1000000.branch [
      | then-a-gt1000000-via-then-a-gt1000000 w ↦ far_import _ c.loop-i.i c.loop-i-test.true c.if-i-supply.true (rw e.0 at w.if-a-gt1000000.true)
      | then-a-gt1000000-via-else-a-gt1000000+then-a-gt1000000-2 w ↦ far_export _ c.loop-i.i c.loop-i-test.true c.if-i-supply.true (rw e.1 at w.if-a-gt1000000-2.true)
    ]

pub loop-i-preserved : goal.loop-i-preserved
loop-i-preserved c =
    let a = c.loop-i.invariant in
    let l = c.loop-i-test.true in
    elim c.if-i-supply.branch [
      | then-i-supply+else-a-gt1000000+else-a-gt1000000-2 w ↦
          let e = w.advances-a.ensures in
          rw (w.imported-is, w.exported-is) (adding_more _ a l w.if-i-supply.true e.0 e.1 w.if-a-gt1000000.false w.if-a-gt1000000-2.false)
      | else-i-supply w ↦ rw (w.imported-is, w.exported-is) (adding_supply _ a l w.if-i-supply.false)
    ]

pub returns : goal.returns
returns c =
    let e : c.loop-i.i ≡ length c.args.self.import_start.now = omega arith in
    added _ (rw e at c.loop-i.invariant)
