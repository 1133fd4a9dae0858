-- `with_bit` changes one bit of a byte, and no step of it wraps.
use borrow.Author.Rules.{rules}
use mathlib.Core.Path.{◌∙◌}
use Rattle.bits.proofs.Low.{shifted, with_bit_low, set_low_lt}
use Rattle.bits.proofs.with_bit.Goals as goal

pub overflow_add-result : goal.overflow_add-result
overflow_add-result c =
    let e = (shifted c.args.x c.args.k c.args.b (search rules) (search rules)).1 ∙ with_bit_low c.args.x c.args.k c.args.b in
    record { fits = rw e (set_low_lt 8 _ _ _ (search rules) (search rules) (search rules)) }

pub returns : goal.returns
returns c = (shifted c.args.x c.args.k c.args.b (search rules) (search rules)).1
