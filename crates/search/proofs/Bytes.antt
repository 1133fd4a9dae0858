-- Marks as the bits of bytes, the first of eight the highest.
use mathlib.Core.Path.{◌≡◌, refl, sym, ap, ◌∙◌}
use mathlib.Core.List.{List}
use Prim.Native.Nat.{ℕ, zero, suc, ◌+◌, ◌-◌, ◌*◌, ◌/◌, ◌%◌, ◌^◌, ◌<◌, ◌≤◌}
use native.Mathlib.Omega.{arith}
use native.Mathlib.Nat.{two-pow-succ}
use native.Mathlib.Numerals.{add-one}
use borrow.Author.Count.{below_more}
use borrow.Author.Tests.{lt-ltb}
use lib.Dec.{eqb, ltb}
use lib.ListN.{length, take, drop}
use lib.Seq.{get_or-take, get_or-drop}
use mir.Val.{bool_byte}
use lib.Pow.{shr-shr}
use Rattle.rows.specs.Row.{nth}
use Rattle.rows.specs.Bit.{bit_at, has}
use Rattle.search.specs.InsideSearch.{marked, Bits}
use Rattle.search.specs.Inside.{flag_of, Byte}

flag_below : (x : ℕ) → flag_of x < 2
flag_below zero = omega arith
flag_below (suc x) = omega arith

flag_is : (x : ℕ) → bool_byte (ltb 0 x) ≡ flag_of x
flag_is zero = refl
flag_is (suc x) = rw (lt-ltb 0 (suc x) (omega arith)) refl

-- A mark out of the eight from `at` on.
pub flag_at : (m : List ℕ) (at i : ℕ) → i < 8 → bool_byte (ltb 0 (nth (take (at + 8 - at) (drop at m)) i)) ≡ flag_of (nth m (at + i))
flag_at m at i h =
    let e : at + 8 - at ≡ 8 = omega arith in
    rw (e, get_or-take 8 (drop at m) i 0 h, get_or-drop at m i 0) (flag_is (nth m (at + i)))

flag_marked : (x : ℕ) → eqb (flag_of x) 1 ≡ ltb 0 x
flag_marked zero = refl
flag_marked (suc x) = sym (lt-ltb 0 (suc x) (omega arith))

-- One bit more at the low end moves every other up by one place.
shifted : (x b e : ℕ) → b < 2 → (x * 2 + b) / 2 ^ (1 + e) ≡ x / 2 ^ e
shifted x b e h = sym (shr-shr (x * 2 + b) 1 e) ∙ ap (λ (y : ℕ). y / 2 ^ e) half
  where
    half : (x * 2 + b) / 2 ^ 1 ≡ x
    half = omega arith

-- Of the byte at `at`, the first i bits stand in x.
pub record FirstBits (m : List ℕ) (at x i : ℕ) : Type 0 where
  pub within : i ≤ 8
  pub low : x < 2 ^ i
  pub bit : (t : ℕ) → t < i → x / 2 ^ (i - 1 - t) % 2 ≡ flag_of (nth m (at + t))

module _ {m : List ℕ} {at x i : ℕ} (P : FirstBits m at x i) (l : i < 8) where
  pub first_bits_more : {b : ℕ} → b ≡ flag_of (nth m (at + i)) → FirstBits m at (x * 2 + b) (i + 1)
  first_bits_more {b} e =
      record {
        within = omega arith;
        low = rw add-one (omega (arith, P.low, two-pow-succ i, two));
        bit = below_more (λ (t : ℕ). (x * 2 + b) / 2 ^ (i + 1 - 1 - t) % 2 ≡ flag_of (nth m (at + t))) i old new;
      }
    where
      two : b < 2
      two = rw e (flag_below (nth m (at + i)))

      old : (t : ℕ) → t < i → (x * 2 + b) / 2 ^ (i + 1 - 1 - t) % 2 ≡ flag_of (nth m (at + t))
      old t h =
          let s : i + 1 - 1 - t ≡ 1 + (i - 1 - t) = omega arith in
          rw (s, shifted x b (i - 1 - t) two) (P.bit t h)

      new : (x * 2 + b) / 2 ^ (i + 1 - 1 - i) % 2 ≡ flag_of (nth m (at + i))
      new = let s : i + 1 - 1 - i ≡ 0 = omega arith in rw s (omega (arith, two))

-- The first j bytes are filled.
pub record FirstBytes (m g : List ℕ) (j : ℕ) : Type 0 where
  pub within : j ≤ 16
  pub long : length g ≡ 16
  pub bytes : (i : ℕ) → i < j → Byte m (8 * i) (nth g i)

pub first_bytes_end : {m g : List ℕ} {j : ℕ} → FirstBytes m g j → 16 ≤ j → Bits m g
unfolding bit_at
first_bytes_end {m} {g} F l = record { bit = each; byte = λ i h. (F.bytes i (omega arith)).low }
  where
    each : (v : ℕ) → v < 128 → has g v ≡ marked m v
    each v h =
        let s : 8 * (v / 8) + v % 8 ≡ v = omega arith in
        let e : nth g (v / 8) / 2 ^ (7 - v % 8) % 2 ≡ flag_of (nth m v) = rw s at ((F.bytes (v / 8) (omega arith)).bit (v % 8) (omega arith)) in
        rw e (flag_marked (nth m v))
