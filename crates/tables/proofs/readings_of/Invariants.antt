-- `readings_of` fills the first numbers with the readings of the command.
use Prim.Native.Nat.{◌-◌}
use Prim.Native.Nat.{◌+◌, ◌*◌}
use Rattle.book.proofs.Filling.{Filling}
use Rattle.spaces.specs.InsideStream.{four_at}
use Rattle.tables.proofs.readings_of.Given as goal

abbrev pub invariant-loop-i : goal.invariant-loop-i
invariant-loop-i l = Filling (λ j. four_at l.rest (7 + 4 * j)) l.count l.initial.readings l.readings l.i

abbrev pub decreases-loop-i : goal.decreases-loop-i
decreases-loop-i l = l.count - l.i
