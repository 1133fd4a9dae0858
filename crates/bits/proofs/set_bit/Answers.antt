-- `set_bit` makes one bit b; past the end nothing is changed.
use mathlib.Core.Path.{sym}
use lib.Seq.{set_out}
use Rattle.bits.specs.Field.{set_bit}
use Rattle.bits.proofs.set_bit.Goals as goal

pub returns-then-k-out : goal.returns-then-k-out
unfolding set_bit
returns-then-k-out c = rw c.with_bit.ensures

pub returns-else-k-out : goal.returns-else-k-out
unfolding set_bit
returns-else-k-out c = sym (set_out _ _ _ c.if-k-out.false)
