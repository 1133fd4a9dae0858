-- `put_buses` puts the fields of every bus.
use borrow.Author.Rules.{rules}
use mathlib.Core.Path.{ap}
use mir.Syntax.{w32}
use mir.Val.{SFits}
use mir.Facts.{to_z-of_z}
use lib.IntN.{ℤ}
use Rattle.layout.specs.Inside.{bus_fields}
use Rattle.pack.specs.Write.{entry}
use Rattle.pack.proofs.Packing.{packing_start, packing_more}
use Rattle.pack.proofs.Tables.put_buses.Goals as goal

pub loop-k-init : goal.loop-k-init
loop-k-init c = packing_start _ _ _ _ _

pub loop-k-preserved : goal.loop-k-preserved
loop-k-preserved c =
    let z : ℤ = entry c.args.self.injections.now c.loop-k.k in
    let fit : SFits w32 z = search rules in
    packing_more _ _ _ _ _ _ _ _ _ c.loop-k-test.true c.loop-k.invariant (ap bus_fields (rw (to_z-of_z fit) at c.bus_of.ensures)) c.put_bus.ensures
