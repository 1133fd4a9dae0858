-- `move_buses` puts the fields of every bus.
use mathlib.Core.Path.{ap}
use Rattle.layout.specs.Inside.{bus_fields}
use Rattle.pack.proofs.Packing.{packing_start, packing_more}
use Rattle.forms.proofs.move_buses.Goals as goal

pub loop-k-init : goal.loop-k-init
loop-k-init c = packing_start _ _ _ _ _

pub loop-k-preserved : goal.loop-k-preserved
loop-k-preserved c =
    packing_more _ _ _ _ _ _ _ _ _ c.loop-k-test.true c.loop-k.invariant (ap bus_fields c.bus_at.ensures) c.put_bus.ensures
