-- A field read out of a window of four bytes.
use mathlib.Core.Path.{◌≡◌, ap, ◌∙◌}
use mathlib.Core.List.{List}
use Prim.Native.Nat.{ℕ, ◌+◌, ◌-◌, ◌*◌, ◌/◌, ◌%◌, ◌^◌, ◌<◌, ◌≤◌}
use native.Mathlib.Omega.{arith}
use lib.Pow.{high, low}
use Rattle.rows.specs.Row.{nth}
use Rattle.rows.specs.Bit.{bit_at}
use Rattle.bits.specs.Field.{Bytes, field}
use Rattle.bits.proofs.Low as one
use Rattle.bits.proofs.ReadAsPut.{bit_low, field_lt, field_append}

bit_of : (bs : List ℕ) (k j : ℕ) → j < 8 → bit_at bs (8 * k + j) ≡ one.low (nth bs k) (7 - j)
bit_of bs k j h =
    let p : (8 * k + j) / 8 ≡ k = omega arith in
    let q : (8 * k + j) % 8 ≡ j = omega arith in
    rw (bit_low bs (8 * k + j), p, q)

digits : (x : ℕ) → x < 256 → (((((((0 * 2 + one.low x 7) * 2 + one.low x 6) * 2 + one.low x 5) * 2 + one.low x 4) * 2 + one.low x 3) * 2 + one.low x 2) * 2 + one.low x 1) * 2 + one.low x 0 ≡ x
unfolding one.low
digits x h = omega arith

field_byte : (bs : List ℕ) (k : ℕ) → nth bs k < 256 → field bs (8 * k) 8 ≡ nth bs k
unfolding field
field_byte bs k h =
    rw (bit_of bs k 0 (omega arith), bit_of bs k 1 (omega arith), bit_of bs k 2 (omega arith), bit_of bs k 3 (omega arith), bit_of bs k 4 (omega arith), bit_of bs k 5 (omega arith), bit_of bs k 6 (omega arith), bit_of bs k 7 (omega arith))
    (digits (nth bs k) h)

pub window : (bs : List ℕ) (k : ℕ) → Bytes bs → field bs (8 * k) 32 ≡ nth bs k * 16777216 + nth bs (k + 1) * 65536 + nth bs (k + 2) * 256 + nth bs (k + 3)
window bs k g =
    let p₁ : 8 * k + 8 ≡ 8 * (k + 1) = omega arith in
    let p₂ : 8 * k + 16 ≡ 8 * (k + 2) = omega arith in
    let p₃ : 8 * k + 24 ≡ 8 * (k + 3) = omega arith in
    let e₁ = rw (p₁, field_byte bs k (g k), field_byte bs (k + 1) (g (k + 1))) at (field_append bs (8 * k) 8 8) in
    let e₂ = rw (p₂, field_byte bs (k + 2) (g (k + 2))) at (field_append bs (8 * k) 16 8) in
    let e₃ = rw (p₃, field_byte bs (k + 3) (g (k + 3))) at (field_append bs (8 * k) 24 8) in
    omega arith

pub in_window : (bs : List ℕ) (at w : ℕ) → at % 8 + w ≤ 32 → field bs (8 * (at / 8)) 32 / 2 ^ (32 - at % 8 - w) % 2 ^ w ≡ field bs at w
in_window bs at w h =
    let k = at / 8 in
    let o = at % 8 in
    let r = 32 - o - w in
    let p : 32 ≡ o + w + r = omega arith in
    let q : 8 * k + o ≡ at = omega arith in
    let e : field bs (8 * k) 32 ≡ (field bs (8 * k) o * 2 ^ w + field bs at w) * 2 ^ r + field bs (8 * k + (o + w)) r =
    ap (λ (n : ℕ). field bs (8 * k) n) p
    ∙ field_append bs (8 * k) (o + w) r
    ∙ ap (λ (x : ℕ). x * 2 ^ r + field bs (8 * k + (o + w)) r) (field_append bs (8 * k) o w ∙ ap (λ (n : ℕ). field bs (8 * k) o * 2 ^ w + field bs n w) q) in
    rw e (ap (λ (x : ℕ). x % 2 ^ w) (high _ r (field_lt bs (8 * k + (o + w)) r)) ∙ low _ w (field_lt bs at w))
