-- A byte is added as its two hex digits.
use native.Mathlib.Omega.{arith}
use mathlib.Core.Path.{◌≡◌, ap, ◌∙◌}
use Prim.Native.Nat.{ℕ}
use Rattle.io.specs.Digits.{last_digits}
use Rattle.line.proofs.Adding.{adds_as}
use Rattle.line.proofs.FewestDigits.{hex_two}
use Rattle.line.proofs.items.U8Item.put.Goals as goal

pub put-requires : goal.put-requires
put-requires c =
    let w = c.hex-k.ensures in
    let h : c.hex-k.result ≡ 2 = hex_two _ _ (omega arith) w.len in
    omega (arith, h, w.in_bounds.1, c.requires)

pub returns : goal.returns
returns c =
    let w = c.hex-k.ensures in
    let h : c.hex-k.result ≡ 2 = hex_two _ _ (omega arith) w.len in
    adds_as (w.digits ∙ ap (λ (k : ℕ). last_digits 16 k c.from.result) h ∙ ap (last_digits 16 2) c.from.ensures) (omega (arith, h, w.in_bounds.1)) c.put.ensures
