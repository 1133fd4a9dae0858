-- `move_buses` puts the fields of every bus.
use Rattle.layout.specs.Layout.{bus_widths, bus_start, bus_at}
use Rattle.pack.proofs.Packing.{Packing}
use Rattle.forms.proofs.move_buses.Given as goal

abbrev pub invariant-loop-k : goal.invariant-loop-k
invariant-loop-k l = Packing bus_widths l.initial.out bus_start (bus_at l.book) l.fn.h.buses l.out l.k
