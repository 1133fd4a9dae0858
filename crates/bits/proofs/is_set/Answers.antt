-- One bit of a row, out of its byte.
use mathlib.Core.Path.{refl}
use Rattle.rows.specs.Bit.{bit_at}
use Rattle.bits.proofs.is_set.Goals as goal

pub returns : goal.returns
unfolding bit_at
returns c = rw c.byte.ensures.0 refl
