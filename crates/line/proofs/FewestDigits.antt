-- The fewest decimal digits are the digits as defined, and a byte has two of base 16.
use mathlib.Core.Path.{◌≡◌, refl, sym, ap, ◌∙◌}
use mathlib.Core.Bool.{Bool, true, false, cond, false≢true}
use mathlib.Core.List.{List, [], ◌∷◌, ◌++◌}
use Prim.Native.Nat.{ℕ, zero, suc, ◌+◌, ◌-◌, ◌*◌, ◌/◌, ◌%◌, ◌^◌, ◌<◌, ◌≤◌}
use native.Mathlib.Omega.{arith}
use native.Mathlib.Nat.{pow-zero, pow-suc, mul-pos}
use borrow.Author.Tests.{lt-ltb, le-ltb, le-leb, ne_eqb}
use lib.Dec.{ltb}
use lib.Pow.{pow-add}
use lib.IntN.{ℤ, pos, negsuc, nat_abs}
use lib.Signed.{le_z}
use lib.ListN.{length, length-append}
use Rattle.rows.proofs.Sum.{side, below, equal, above}
use Rattle.io.specs.Digits.{hex_digit_ascii, last_digits, IsDigitCount}
use Rattle.line.specs.Text.{digits_in, decimal_of, signed_of, next_of}

one_up : (b : ℕ) (k : ℕ) → 0 < b → 0 < b ^ k
one_up b zero h = rw (pow-zero b) (omega arith)
one_up b (suc k) h = rw (pow-suc b k) (mul-pos (one_up b k h) h)

pub fewest_decimal : (most k n : ℕ) → k ≤ most → IsDigitCount 10 1 n k → last_digits 10 k n ≡ digits_in most n
unfolding digits_in
fewest_decimal most zero n h w = absurd (omega (arith, w.0))
fewest_decimal zero (suc k) n h w = absurd (omega arith)
fewest_decimal (suc most) (suc zero) n h w =
    let l : n < 10 = w.1 in
    rw (lt-ltb n 10 l) refl
fewest_decimal (suc most) (suc (suc k)) n h w =
    let u : n < 10 ^ suc k * 10 = rw (pow-suc 10 (suc k)) at w.1 in
    let e : suc (suc k) - 1 ≡ suc k = omega arith in
    let v : 10 ^ k * 10 ≤ n = rw (e, pow-suc 10 k) at (w.2 (omega arith)) in
    let d : suc k - 1 ≡ k = omega arith in
    let p : 0 < 10 ^ k = one_up 10 k (omega arith) in
    rw (le-ltb n 10 (omega arith))
    (ap (λ (l : List ℕ). l ++ (hex_digit_ascii (n % 10) ∷ []))
    (fewest_decimal most (suc k) (n / 10) (omega arith) (omega arith, omega arith, λ q. rw d (omega arith))))

-- A number of 64 bits has at most 20 digits.
pub few_decimal : (k n : ℕ) → n < 18446744073709551616 → IsDigitCount 10 1 n k → k ≤ 20
few_decimal k n l w = elim (side k 21) [ below h ↦ omega arith | equal h ↦ many (omega arith) | above h ↦ many (omega arith) ]
  where
    many : 21 ≤ k → k ≤ 20
    many h =
        let e : k - 1 ≡ 20 + (k - 21) = omega arith in
        let v : 10 ^ 20 * 10 ^ (k - 21) ≤ n = rw (e, pow-add 10 20 (k - 21)) at (w.2 (omega arith)) in
        let p : 0 < 10 ^ (k - 21) = one_up 10 (k - 21) (omega arith) in
        absurd (omega arith)

pub hex_two : (k byte : ℕ) → byte < 256 → IsDigitCount 16 2 byte k → k ≡ 2
hex_two zero byte l w = absurd (omega (arith, w.0))
hex_two (suc zero) byte l w = absurd (omega (arith, w.0))
hex_two (suc (suc zero)) byte l w = refl
hex_two (suc (suc (suc k))) byte l w =
    let e : suc (suc (suc k)) - 1 ≡ suc (suc k) = omega arith in
    let v : 16 ^ k * 16 * 16 ≤ byte = rw (e, pow-suc 16 (suc k), pow-suc 16 k) at (w.2 (omega arith)) in
    let p : 0 < 16 ^ k = one_up 16 k (omega arith) in
    absurd (omega arith)

pub length_digits : (most n : ℕ) → length (digits_in most n) ≤ most
unfolding digits_in
length_digits zero n = omega arith
length_digits (suc most) n = rw (length-append (cond (ltb n 10) [] (digits_in most (n / 10))) (hex_digit_ascii (n % 10) ∷ [])) (few (ltb n 10) (length_digits most (n / 10)))
  where
    few : (t : Bool) → length (digits_in most (n / 10)) ≤ most → length (cond t [] (digits_in most (n / 10))) + 1 ≤ suc most
    few true h = omega arith
    few false h = omega arith

pub length_next : (n : ℕ) → length (next_of n) ≤ 21
length_next n = omega (arith, length_digits 20 n)

-- The text of a number below 0.
pub signed_below : (z : ℤ) (b : ℕ) → le_z (pos 0) z ≡ false → b ≡ nat_abs z → 32 ∷ 45 ∷ decimal_of b ≡ 32 ∷ signed_of z
signed_below (pos n) b h e = absurd (false≢true (sym h ∙ le-leb 0 n (omega arith)))
signed_below (negsuc n) b h e = rw (ne_eqb (suc n) 0 (λ q. omega arith), e) refl
