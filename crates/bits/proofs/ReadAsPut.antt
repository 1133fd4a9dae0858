-- Laws of bits and fields: reading what was put, other fields untouched, equal bits make equal bytes.
use mathlib.Core.Path.{◌≡◌, refl, sym, ap, ap₂, ◌∙◌}
use mathlib.Core.Logic.{◌≢◌}
use mathlib.Core.List.{List}
use Prim.Native.Nat.{ℕ, zero, suc, ◌+◌, ◌-◌, ◌*◌, ◌/◌, ◌%◌, ◌^◌, ◌<◌, ◌≤◌}
use native.Mathlib.Nat.{pow-suc, pow-zero, add-zero, add-suc, mul-one, mul_assoc}
use native.Mathlib.Decide.{ℕ_discrete, dec_lt}
use native.Mathlib.Omega.{arith}
use lib.ListN.{length, set, length-set, replicate, get_or-eq_default}
use lib.Seq.{ext_get_or, get_or-set_same, get_or-set_other, set_out}
use Rattle.rows.specs.Row.{nth}
use Rattle.rows.specs.Bit.{bit_at}
use Rattle.bits.specs.Field.{Bytes, field, set_bit, put, OneBit}
use Rattle.bits.proofs.Low.{low, set_low, low_shift, with_bit_low, low_lt, low_zero, half_of, odd_of, low_same, low_other}
use Rattle.bits.proofs.Low.{set_low_lt, set_low_above, low_ext_above}

pub bit_low : (bs : List ℕ) (i : ℕ) → bit_at bs i ≡ low (nth bs (i / 8)) (7 - i % 8)
unfolding bit_at
bit_low bs i = sym (low_shift _ _)

pub bit_lt : (bs : List ℕ) (i : ℕ) → bit_at bs i < 2
bit_lt bs i = rw (bit_low bs i) (low_lt (nth bs (i / 8)) (7 - i % 8))

-- ---- one bit made b

set_low_lem : (bs : List ℕ) (i b : ℕ) → set_bit bs i b ≡ set bs (i / 8) (set_low (nth bs (i / 8)) (7 - i % 8) b)
unfolding set_bit
set_low_lem bs i b = rw (with_bit_low (nth bs (i / 8)) (7 - i % 8) b)

pub length_set_bit : (bs : List ℕ) (i b : ℕ) → length (set_bit bs i b) ≡ length bs
length_set_bit bs i b = rw (set_low_lem bs i b) (length-set bs (i / 8) _)

pub bit_same : (bs : List ℕ) (i b : ℕ) → b < 2 → i < 8 * length bs → bit_at (set_bit bs i b) i ≡ b
bit_same bs i b h l =
    rw (bit_low (set_bit bs i b) i, set_low_lem bs i b)
    (ap (λ (x : ℕ). low x (7 - i % 8)) (get_or-set_same bs (i / 8) _ 0 (omega arith)) ∙ low_same _ (7 - i % 8) b h)

pub bit_other : (bs : List ℕ) (i j b : ℕ) → b < 2 → j ≢ i → bit_at (set_bit bs i b) j ≡ bit_at bs j
bit_other bs i j b h ne = rw (bit_low (set_bit bs i b) j, bit_low bs j, set_low_lem bs i b) (go (ℕ_discrete (j / 8) (i / 8)) (dec_lt (i / 8) (length bs)))
  where
    new : ℕ
    new = set_low (nth bs (i / 8)) (7 - i % 8) b

    go : Dec (j / 8 ≡ i / 8) → Dec (i / 8 < length bs) → low (nth (set bs (i / 8) new) (j / 8)) (7 - j % 8) ≡ low (nth bs (j / 8)) (7 - j % 8)
    go (no d) l = ap (λ (x : ℕ). low x (7 - j % 8)) (get_or-set_other bs (i / 8) (j / 8) new 0 d)
    go (yes e) (no l) = ap (λ (s : List ℕ). low (nth s (j / 8)) (7 - j % 8)) (set_out bs (i / 8) new (omega arith))
    go (yes e) (yes l) =
        rw e (ap (λ (x : ℕ). low x (7 - j % 8)) (get_or-set_same bs (i / 8) new 0 l) ∙ low_other _ (7 - i % 8) (7 - j % 8) b h (omega arith))

pub bytes_set_bit : (bs : List ℕ) (i b : ℕ) → b < 2 → Bytes bs → Bytes (set_bit bs i b)
bytes_set_bit bs i b h g k = rw (set_low_lem bs i b) (go (ℕ_discrete k (i / 8)) (dec_lt (i / 8) (length bs)))
  where
    new : ℕ
    new = set_low (nth bs (i / 8)) (7 - i % 8) b

    go : Dec (k ≡ i / 8) → Dec (i / 8 < length bs) → nth (set bs (i / 8) new) k < 256
    go (no d) l = rw (get_or-set_other bs (i / 8) k new 0 d) (g k)
    go (yes e) (no l) = rw (set_out bs (i / 8) new (omega arith)) (g k)
    go (yes e) (yes l) = rw (e, get_or-set_same bs (i / 8) new 0 l) (set_low_lt 8 _ (7 - i % 8) b h (omega arith) (g (i / 8)))

-- Exactly that bit changes.
pub set_bit_one : (bs : List ℕ) (i b : ℕ) → b < 2 → i < 8 * length bs → OneBit bs (set_bit bs i b) i b
set_bit_one bs i b h l = record {
  long = length_set_bit bs i b;
  there = bit_same bs i b h l;
  elsewhere = λ j ne. bit_other bs i j b h ne;
}

-- Whatever stands above the eight bits of a number stays.
pub set_bit_above : (bs : List ℕ) (i b k : ℕ) → b < 2 → nth (set_bit bs i b) k / 256 ≡ nth bs k / 256
set_bit_above bs i b k h = rw (set_low_lem bs i b) (go (ℕ_discrete k (i / 8)) (dec_lt (i / 8) (length bs)))
  where
    new : ℕ
    new = set_low (nth bs (i / 8)) (7 - i % 8) b

    go : Dec (k ≡ i / 8) → Dec (i / 8 < length bs) → nth (set bs (i / 8) new) k / 256 ≡ nth bs k / 256
    go (no d) l = rw (get_or-set_other bs (i / 8) k new 0 d) refl
    go (yes e) (no l) = rw (set_out bs (i / 8) new (omega arith)) refl
    go (yes e) (yes l) = rw (e, get_or-set_same bs (i / 8) new 0 l) (set_low_above 8 _ (7 - i % 8) b h (omega arith))

-- Rows with equal bits, and the same above the eight bits of each number, are equal; so rows of bytes with equal bits are.
pub ext_row : (xs ys : List ℕ) → length xs ≡ length ys → ((k : ℕ) → nth xs k / 256 ≡ nth ys k / 256)
    → ((i : ℕ) → i < 8 * length xs → bit_at xs i ≡ bit_at ys i) → xs ≡ ys
ext_row xs ys l a e = ext_get_or 0 xs ys l (λ k h. low_ext_above 8 _ _ (a k) (λ j n. at k h j n))
  where
    at : (k : ℕ) → k < length xs → (j : ℕ) → j < 8 → low (nth xs k) j ≡ low (nth ys k) j
    at k h j n =
        let i : ℕ = 8 * k + (7 - j) in
        let p : i / 8 ≡ k = omega arith in
        let q : 7 - i % 8 ≡ j = omega arith in
        rw (bit_low xs i, bit_low ys i, p, q) at (e i (omega arith))

pub ext_bits : (xs ys : List ℕ) → length xs ≡ length ys → Bytes xs → Bytes ys → ((i : ℕ) → i < 8 * length xs → bit_at xs i ≡ bit_at ys i) → xs ≡ ys
ext_bits xs ys l bx by e = ext_row xs ys l (λ k. omega (arith, bx k, by k)) e

-- ---- bits that are 0

pub bit_past : (bs : List ℕ) (i : ℕ) → 8 * length bs ≤ i → bit_at bs i ≡ 0
bit_past bs i h = rw (bit_low bs i, get_or-eq_default {A = ℕ} bs 0 {n = i / 8} (omega arith)) (low_zero (7 - i % 8))

nth_zeros : (n i : ℕ) → nth (replicate n 0) i ≡ 0
nth_zeros zero i = refl
nth_zeros (suc n) zero = refl
nth_zeros (suc n) (suc i) = nth_zeros n i

pub bit_zeros : (n i : ℕ) → bit_at (replicate n 0) i ≡ 0
bit_zeros n i = rw (bit_low (replicate n 0) i, nth_zeros n (i / 8)) (low_zero (7 - i % 8))

pub bytes_zeros : (n : ℕ) → Bytes (replicate n 0)
bytes_zeros n k = rw (nth_zeros n k) (omega arith)

-- ---- fields

pub field_lt : (bs : List ℕ) (at w : ℕ) → field bs at w < 2 ^ w
unfolding field
field_lt bs at zero = omega (arith, pow-zero 2)
field_lt bs at (suc w) = rw (pow-suc 2 w) (omega (arith, field_lt bs at w, bit_lt bs (at + w)))

pub field_one : (bs : List ℕ) (at : ℕ) → field bs at 1 ≡ bit_at bs at
unfolding field
field_one bs at = let e : at + 0 ≡ at = omega arith in rw e (omega arith)

-- A field is its bits.
pub field_same : (xs ys : List ℕ) (at w : ℕ) → ((i : ℕ) → at ≤ i → i < at + w → bit_at xs i ≡ bit_at ys i) → field xs at w ≡ field ys at w
unfolding field
field_same xs ys at zero e = refl
field_same xs ys at (suc w) e =
    ap₂ (λ (x y : ℕ). x * 2 + y) (field_same xs ys at w (λ i h k. e i h (omega arith))) (e (at + w) (omega arith) (omega arith))

pub field_zero : (bs : List ℕ) (at w : ℕ) → ((i : ℕ) → at ≤ i → bit_at bs i ≡ 0) → field bs at w ≡ 0
unfolding field
field_zero bs at zero h = refl
field_zero bs at (suc w) h = omega (arith, field_zero bs at w h, h (at + w) (omega arith))

pub zero_field : (bs : List ℕ) (at w i : ℕ) → field bs at w ≡ 0 → at ≤ i → i < at + w → bit_at bs i ≡ 0
unfolding field
zero_field bs at zero i e h k = absurd (omega arith)
zero_field bs at (suc w) i e h k = pick (zero_field bs at w i (omega arith) h) (dec_lt i (at + w))
  where
    pick : (i < at + w → bit_at bs i ≡ 0) → Dec (i < at + w) → bit_at bs i ≡ 0
    pick f (yes l) = f l
    pick f (no l) = let p : i ≡ at + w = omega arith in rw p (omega arith)

-- Two fields side by side.
pub field_append : (bs : List ℕ) (at w v : ℕ) → field bs at (w + v) ≡ field bs at w * 2 ^ v + field bs (at + w) v
unfolding field
field_append bs at w zero = rw (add-zero w, pow-zero 2, mul-one) (omega arith)
field_append bs at w (suc v) =
    let e : at + w + v ≡ at + (w + v) = omega arith in
    rw (add-suc w v, pow-suc 2 v, ← mul_assoc, e) (omega (arith, field_append bs at w v))

-- ---- fields put

pub length_put : (bs : List ℕ) (at w v : ℕ) → length (put bs at w v) ≡ length bs
unfolding put
length_put bs at zero v = refl
length_put bs at (suc w) v = length_put (set_bit bs (at + w) (v % 2)) at w (v / 2) ∙ length_set_bit bs (at + w) (v % 2)

pub bytes_put : (bs : List ℕ) (at w v : ℕ) → Bytes bs → Bytes (put bs at w v)
unfolding put
bytes_put bs at zero v g = g
bytes_put bs at (suc w) v g = bytes_put (set_bit bs (at + w) (v % 2)) at w (v / 2) (bytes_set_bit bs (at + w) (v % 2) (omega arith) g)

-- A put leaves every bit before it and every bit after it.
pub put_before : (bs : List ℕ) (at w v i : ℕ) → i < at → bit_at (put bs at w v) i ≡ bit_at bs i
unfolding put
put_before bs at zero v i h = refl
put_before bs at (suc w) v i h = put_before (set_bit bs (at + w) (v % 2)) at w (v / 2) i h ∙ bit_other bs (at + w) i (v % 2) (omega arith) (omega arith)

pub put_after : (bs : List ℕ) (at w v i : ℕ) → at + w ≤ i → bit_at (put bs at w v) i ≡ bit_at bs i
unfolding put
put_after bs at zero v i h = refl
put_after bs at (suc w) v i h = put_after (set_bit bs (at + w) (v % 2)) at w (v / 2) i (omega arith) ∙ bit_other bs (at + w) i (v % 2) (omega arith) (omega arith)

-- What was put is read.
pub field_put : (bs : List ℕ) (at w v : ℕ) → at + w ≤ 8 * length bs → v < 2 ^ w → field (put bs at w v) at w ≡ v
unfolding put field
field_put bs at zero v h l = omega (arith, pow-zero 2)
field_put bs at (suc w) v h l =
    let l' : v < 2 ^ w * 2 = rw (pow-suc 2 w) at l in
    let s : List ℕ = set_bit bs (at + w) (v % 2) in
    let a : field (put s at w (v / 2)) at w ≡ v / 2 = field_put s at w (v / 2) (omega (arith, length_set_bit bs (at + w) (v % 2))) (omega arith) in
    let b : bit_at (put s at w (v / 2)) (at + w) ≡ v % 2 =
    put_after s at w (v / 2) (at + w) (omega arith) ∙ bit_same bs (at + w) (v % 2) (omega arith) (omega arith) in
    omega arith

-- A field that is read from b and put into z has b's bits there.
pub put_field : (z b : List ℕ) (at w i : ℕ) → at + w ≤ 8 * length z → at ≤ i → i < at + w → bit_at (put z at w (field b at w)) i ≡ bit_at b i
unfolding put field
put_field z b at zero i h l k = absurd (omega arith)
put_field z b at (suc w) i h l k =
    let s : List ℕ = set_bit z (at + w) (bit_at b (at + w)) in
    rw (half_of (field b at w) _ (bit_lt b (at + w)), odd_of (field b at w) _ (bit_lt b (at + w)))
    (go (λ d. put_field s b at w i (omega (arith, length_set_bit z (at + w) (bit_at b (at + w)))) l (omega arith)) (ℕ_discrete i (at + w)))
  where
    goal : Type 0
    goal = bit_at (put (set_bit z (at + w) (bit_at b (at + w))) at w (field b at w)) i ≡ bit_at b i

    go : ((i ≢ at + w) → goal) → Dec (i ≡ at + w) → goal
    go f (yes e) = rw e (put_after _ at w _ (at + w) (omega arith) ∙ bit_same z (at + w) _ (bit_lt b (at + w)) (omega arith))
    go f (no d) = f d
