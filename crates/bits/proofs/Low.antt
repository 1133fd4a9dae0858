-- The bits of one number, by halving: the form in which their laws are proved.
use mathlib.Core.Path.{◌≡◌, refl, sym, ap, ◌∙◌}
use mathlib.Core.Logic.{◌≢◌}
use Prim.Native.Nat.{ℕ, zero, suc, ◌+◌, ◌-◌, ◌*◌, ◌/◌, ◌%◌, ◌^◌, ◌<◌, ◌≤◌}
use native.Mathlib.Nat.{div-eq_of_lt, pow-suc, pow-zero, not-suc-le-zero, div-one, mul-one, mul_assoc}
use native.Mathlib.Numerals.{one-add}
use native.Mathlib.Omega.{arith}
use lib.Pow.{shr-shr, shl_exact}
use Rattle.bits.specs.Field.{with_bit}

-- Bit k of x, the lowest first, and x with it made b.
unfoldable pub low : ℕ → ℕ → ℕ
low x zero = x % 2
low x (suc k) = low (x / 2) k

unfoldable pub set_low : ℕ → ℕ → ℕ → ℕ
set_low x zero b = x / 2 * 2 + b
set_low x (suc k) b = set_low (x / 2) k b * 2 + x % 2

pub low_lt : (x k : ℕ) → low x k < 2
unfolding low
low_lt x zero = omega arith
low_lt x (suc k) = low_lt (x / 2) k

pub low_shift : (x k : ℕ) → low x k ≡ x / 2 ^ k % 2
unfolding low
low_shift x zero = rw (pow-zero 2, div-one)
low_shift x (suc k) = low_shift (x / 2) k ∙ ap (λ (n : ℕ). n % 2) (shr-shr x 1 k ∙ ap (λ (n : ℕ). x / 2 ^ n) (one-add k))

set_low_add : (x k b : ℕ) → set_low x k b + low x k * 2 ^ k ≡ x + b * 2 ^ k
unfolding low set_low
set_low_add x zero b = simp (pow-zero 2, mul-one) (omega arith)
set_low_add x (suc k) b = rw (pow-suc 2 k, ← mul_assoc, ← mul_assoc) (omega (arith, set_low_add (x / 2) k b))

pub with_bit_low : (x k b : ℕ) → with_bit x k b ≡ set_low x k b
unfolding with_bit
with_bit_low x k b = simp (← low_shift) (omega (arith, set_low_add x k b, set_low_add x k 0))

-- In a byte the machine's shifts lose nothing, and the bit taken away was there.
pub shifted : (x k b : ℕ) → k < 8 → b < 2 → (x / 2 ^ k % 2 * 2 ^ k % 256 ≤ x) × (x - x / 2 ^ k % 2 * 2 ^ k % 256 + b * 2 ^ k % 256 ≡ with_bit x k b)
shifted x k b h l =
    rw (with_bit_low x k b)
    (simp (← low_shift, shl_exact {a = low x k} 1 k 8 (low_lt x k) (omega arith), shl_exact {a = b} 1 k 8 l (omega arith))
    (omega (arith, set_low_add x k b, set_low_add x k 0)))

pub low_zero : (k : ℕ) → low 0 k ≡ 0
unfolding low
low_zero zero = refl
low_zero (suc k) = low_zero k

halved : (n x : ℕ) → x / 2 ^ suc n ≡ x / 2 / 2 ^ n
halved n x = sym (shr-shr x 1 n ∙ ap (λ (m : ℕ). x / 2 ^ m) (one-add n))

pub half_of : (s r : ℕ) → r < 2 → (s * 2 + r) / 2 ≡ s
half_of s r h = omega arith

pub odd_of : (s r : ℕ) → r < 2 → (s * 2 + r) % 2 ≡ r
odd_of s r h = omega arith

pub low_same : (x k b : ℕ) → b < 2 → low (set_low x k b) k ≡ b
unfolding low set_low
low_same x zero b h = odd_of (x / 2) b h
low_same x (suc k) b h =
    ap (λ (n : ℕ). low n k) (half_of (set_low (x / 2) k b) (x % 2) (omega arith)) ∙ low_same (x / 2) k b h

pub low_other : (x k j b : ℕ) → b < 2 → j ≢ k → low (set_low x k b) j ≡ low x j
unfolding low set_low
low_other x zero zero b h ne = absurd (ne refl)
low_other x zero (suc j) b h ne = ap (λ (n : ℕ). low n j) (half_of (x / 2) b h)
low_other x (suc k) zero b h ne = odd_of (set_low (x / 2) k b) (x % 2) (omega arith)
low_other x (suc k) (suc j) b h ne =
    ap (λ (n : ℕ). low n j) (half_of (set_low (x / 2) k b) (x % 2) (omega arith))
    ∙ low_other (x / 2) k j b h (λ e. ne (ap suc e))

pub set_low_lt : (n x k b : ℕ) → b < 2 → k < n → x < 2 ^ n → set_low x k b < 2 ^ n
unfolding set_low
set_low_lt zero x k b h kn xn = absurd (not-suc-le-zero kn)
set_low_lt (suc n) x zero b h kn xn = rw (pow-suc 2 n) (let f : x < 2 ^ n * 2 = rw (pow-suc 2 n) at xn in omega arith)
set_low_lt (suc n) x (suc k) b h kn xn =
    rw (pow-suc 2 n)
    (let f : x < 2 ^ n * 2 = rw (pow-suc 2 n) at xn in
    let g : set_low (x / 2) k b < 2 ^ n = set_low_lt n (x / 2) k b h (omega arith) (omega arith) in
    omega arith)

-- What stands above the n lowest bits stays when one of these is changed.
pub set_low_above : (n x k b : ℕ) → b < 2 → k < n → set_low x k b / 2 ^ n ≡ x / 2 ^ n
unfolding set_low
set_low_above zero x k b h kn = absurd (not-suc-le-zero kn)
set_low_above (suc n) x zero b h kn = halved n (x / 2 * 2 + b) ∙ ap (λ (y : ℕ). y / 2 ^ n) (half_of (x / 2) b h) ∙ sym (halved n x)
set_low_above (suc n) x (suc k) b h kn =
    halved n (set_low (x / 2) k b * 2 + x % 2)
    ∙ ap (λ (y : ℕ). y / 2 ^ n) (half_of (set_low (x / 2) k b) (x % 2) (omega arith))
    ∙ set_low_above n (x / 2) k b h (omega arith)
    ∙ sym (halved n x)

-- Numbers with the same n lowest bits and the same above them are equal.
pub low_ext_above : (n x y : ℕ) → x / 2 ^ n ≡ y / 2 ^ n → ((k : ℕ) → k < n → low x k ≡ low y k) → x ≡ y
unfolding low
low_ext_above zero x y h e = simp (pow-zero 2, div-one) at h
low_ext_above (suc n) x y h e =
    let f : x / 2 ≡ y / 2 = low_ext_above n (x / 2) (y / 2) (sym (halved n x) ∙ h ∙ halved n y) (λ k l. e (suc k) (omega arith)) in
    let z : x % 2 ≡ y % 2 = e zero (omega arith) in
    omega arith

-- So numbers below 2 ^ n with the same n bits are.
pub low_ext : (n x y : ℕ) → x < 2 ^ n → y < 2 ^ n → ((k : ℕ) → k < n → low x k ≡ low y k) → x ≡ y
low_ext n x y hx hy e = low_ext_above n x y (div-eq_of_lt hx ∙ sym (div-eq_of_lt hy)) e
