-- `put` leaves the low bits of the number in the bits from its place on: the last bit first, and each step by one law.
use mathlib.Core.Path.{◌≡◌}
use Rattle.bits.specs.Field.{put}
use Rattle.bits.proofs.put.Given as goal

abbrev pub invariant-loop-i : goal.invariant-loop-i
invariant-loop-i l = put l.out l.at l.i l.x ≡ put l.fn.out l.at l.width l.v
