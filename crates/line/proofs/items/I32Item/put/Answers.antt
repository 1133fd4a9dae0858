-- A number below 0 is added with a minus before its size.
use native.Mathlib.Omega.{arith}
use mathlib.Core.Path.{ap, ◌∙◌}
use lib.IntN.{nat_abs}
use mir.Facts.{to_z-of_z}
use Rattle.line.proofs.Adding.{adds_as, adds_then}
use Rattle.line.proofs.FewestDigits.{signed_below}
use Rattle.line.proofs.items.I32Item.put.Goals as goal

pub returns-else-self-ge0 : goal.returns-else-self-ge0
returns-else-self-ge0 c =
    let size = c.from-else-self-ge0.ensures ∙ c.unsigned_abs-else-self-ge0.ensures.value ∙ ap nat_abs (to_z-of_z c.ranges.self) in
    adds_as (signed_below c.args.self _ (rw (to_z-of_z c.ranges.self) at c.if-self-ge0.false) size) (omega arith) (adds_then c.put.ensures c.put_decimal.ensures)
