-- `put_buses` puts the fields of every bus.
use Prim.Native.Nat.{◌-◌}
use Rattle.layout.specs.Layout.{bus_widths, bus_start, bus_values}
use Rattle.pack.specs.Write.{entry}
use Rattle.pack.proofs.Packing.{Packing}
use Rattle.pack.proofs.Tables.put_buses.Given as goal

abbrev pub invariant-loop-k : goal.invariant-loop-k
invariant-loop-k l = Packing bus_widths l.initial.out bus_start (λ i. bus_values (entry l.self.injections.now i)) l.self.buses l.out l.k

abbrev pub decreases-loop-k : goal.decreases-loop-k
decreases-loop-k l = l.self.buses - l.k
