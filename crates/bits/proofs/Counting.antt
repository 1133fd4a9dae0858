-- The ones of the bytes of a group, summed, are the number of its members.
use mathlib.Core.Path.{◌≡◌, refl, ap, ◌∙◌}
use mathlib.Core.List.{List}
use Prim.Native.Nat.{ℕ, zero, suc, ◌+◌, ◌-◌, ◌*◌, ◌/◌, ◌%◌, ◌^◌, ◌<◌, ◌≤◌}
use native.Mathlib.Nat.{add-suc, add-zero, div-one}
use native.Mathlib.Omega.{arith}
use lib.Dec.{eqb}
use lib.Count.{ones, ones_step, ones-le}
use lib.Pow.{shr-shr}
use mir.Syntax.{w8, w64}
use mir.Val.{Fits}
use Rattle.rows.specs.Row.{nth}
use Rattle.rows.specs.Bit.{bit_at, has}
use Rattle.rows.specs.Sum.{pick, over, size}

pick_bit : (b : ℕ) → b < 2 → pick (eqb b 1) 1 ≡ b
pick_bit zero h = refl
pick_bit (suc zero) h = refl
pick_bit (suc (suc b)) h = absurd (omega arith)

-- A byte without any of its bits, and with one more of them, the highest first.
ones_none : (x : ℕ) → x < 256 → ones (x / 2 ^ 8) ≡ 0
unfolding ones
ones_none x h =
    let e : x / 2 ^ 8 ≡ 0 = omega arith in
    ap ones e

ones_more : (x m : ℕ) → m < 8 → ones (x / 2 ^ (7 - m)) ≡ x / 2 ^ (7 - m) % 2 + ones (x / 2 ^ (8 - m))
ones_more x m h =
    let e : 7 - m + 1 ≡ 8 - m = omega arith in
    ones_step (x / 2 ^ (7 - m)) ∙ ap (λ (y : ℕ). x / 2 ^ (7 - m) % 2 + ones y) (shr-shr x (7 - m) 1 ∙ ap (λ (n : ℕ). x / 2 ^ n) e)

bit_in : (row : List ℕ) (k m : ℕ) → m < 8 → bit_at row (8 * k + m) ≡ nth row k / 2 ^ (7 - m) % 2
unfolding bit_at
bit_in row k m h =
    let p : (8 * k + m) / 8 ≡ k = omega arith in
    let q : 7 - (8 * k + m) % 8 ≡ 7 - m = omega arith in
    rw (p, q) refl

module _ (row : List ℕ) (k : ℕ) (byte : nth row k < 256) where
  -- The first m bits of byte k are counted on top of all bytes before it.
  size_bits : (m : ℕ) → m ≤ 8 → size (8 * k + m) (has row) ≡ size (8 * k) (has row) + ones (nth row k / 2 ^ (8 - m))
  unfolding over
  size_bits zero h = rw (add-zero (8 * k)) (omega (arith, ones_none (nth row k) byte))
  size_bits (suc m) h =
      let b : ℕ = nth row k / 2 ^ (7 - m) % 2 in
      let p : pick (has row (8 * k + m)) 1 ≡ b = ap (λ (x : ℕ). pick (eqb x 1) 1) (bit_in row k m (omega arith)) ∙ pick_bit b (omega arith) in
      let e : 8 - suc m ≡ 7 - m = omega arith in
      rw (add-suc (8 * k) m, e) (omega (arith, size_bits m (omega arith), p, ones_more (nth row k) m (omega arith)))

  -- The ones of byte k are the members among its eight numbers.
  pub size_byte : size (8 * (k + 1)) (has row) ≡ size (8 * k) (has row) + ones (nth row k)
  size_byte =
      let e : 8 * (k + 1) ≡ 8 * k + 8 = omega arith in
      ap (λ (n : ℕ). size n (has row)) e ∙ size_bits 8 (omega arith) ∙ ap (λ (x : ℕ). size (8 * k) (has row) + ones x) (div-one (nth row k))

-- The members among the bits of the first k bytes are counted.
pub record Counting (group : List ℕ) (total k : ℕ) : Type 0 where
  pub upto : k ≤ 16
  pub few : total ≤ 8 * k
  pub so_far : total ≡ size (8 * k) (has group)

module _ (group : List ℕ) where
  pub counting_none : Counting group 0 0
  unfolding over
  counting_none = record { upto = omega arith; few = omega arith; so_far = refl }

  -- A need that holds whatever the byte is.
  pub counting_room : {total k x : ℕ} → Counting group total k → k < 16 → Fits w8 x → Fits w64 (total + ones x)
  counting_room {x = x} c h b = record { fits = omega (arith, c.few, ones-le 8 x b.fits) }

  pub counting_more : {total k : ℕ} → Counting group total k → k < 16 → Fits w8 (nth group k)
      → Counting group (total + ones (nth group k)) (k + 1)
  counting_more {total} {k} c h b = record {
    upto = omega arith;
    few = omega (arith, c.few, ones-le 8 (nth group k) b.fits);
    so_far = omega (arith, c.so_far, size_byte group k b.fits);
  }
