-- `fill` writes the injection of every bus, with the supply's own at its place.
use borrow.Author.Rules.{rules}
use native.Mathlib.Omega.{arith}
use mathlib.Core.Path.{◌≡◌}
use lib.ListN.{length}
use mir.Syntax.{w32}
use mir.Val.{SFits}
use mir.Facts.{to_z-of_z}
use Rattle.meters.proofs.Filling.{near, filling_none, filling_supply, filling_other}
use Rattle.meters.proofs.Readings.fill.Goals as goal
use Rattle.meters.proofs.Readings.fill.Goals.{then-i-self, else-i-self}

pub loop-i-init : goal.loop-i-init
loop-i-init c = filling_none _ _ c.requires

pub difference-requires : goal.difference-requires
difference-requires c =
    let e = c.advances-a.ensures in
    let n = near _ c.args.own c.loop-i.invariant.ready c.loop-i-test.true c.if-i-self.false in
    (omega (arith, e.1, n.gave), omega (arith, e.0, n.took))

pub loop-i-preserved : goal.loop-i-preserved
loop-i-preserved c =
    let f = c.loop-i.invariant in
    let l = c.loop-i-test.true in
    elim c.if-i-self.branch [
      | then-i-self w ↦ rw w.out-is (filling_supply _ _ f l w.if-i-self.true)
      | else-i-self w ↦
          let fit : SFits w32 w.difference.result = search rules in
          let e = w.advances-a.ensures in
          rw (w.out-is, to_z-of_z fit) (filling_other _ _ f l w.if-i-self.false e.1 e.0 w.difference.ensures)
    ]
