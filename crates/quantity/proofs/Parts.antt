-- Laws of the two parts of a signed number, and of signed sums read as sums of naturals.
use Rattle.std.proofs.Common.{◌≡◌, ℕ, zero, suc, ◌+◌, ◌-◌, ◌<◌, ◌≤◌, min, Bool, true, false, not, ltb, ◌↔◌, ℤ, pos, negsuc, ◌+ℤ◌, ◌-ℤ◌, neg_ℤ, nat_abs, ◌≤ℤ◌, refl, ap, arith, le→leb, leb→le, ltb-false, ltb-true}
use lib.IntN.{sub_ℕ}
use Rattle.rows.specs.Sum.{Group, pick, over, pick_ℤ, sum}
use Rattle.quantity.specs.Signed.{pos_part, neg_part, is_neg, of_size}

-- One of the two parts is 0, in a form that arithmetic reads.
pub one_side : (z : ℤ) → min (pos_part z) (neg_part z) ≡ 0
one_side (pos n) = omega arith
one_side (negsuc n) = omega arith

-- Two numbers with the same difference of their parts are equal.
pub by_parts : (x y : ℤ) → pos_part x + neg_part y ≡ neg_part x + pos_part y → x ≡ y
by_parts (pos a) (pos b) e = ap pos (omega arith)
by_parts (pos a) (negsuc b) e = absurd (omega arith)
by_parts (negsuc a) (pos b) e = absurd (omega arith)
by_parts (negsuc a) (negsuc b) e = ap negsuc (omega arith)

pub size_parts : (z : ℤ) → nat_abs z ≡ pos_part z + neg_part z
size_parts (pos n) = omega arith
size_parts (negsuc n) = omega arith

pub of_size_parts : (s : Bool) (n : ℕ) → (pos_part (of_size s n) ≡ pick (not s) n) × (neg_part (of_size s n) ≡ pick s n)
of_size_parts true zero = (refl, refl)
of_size_parts true (suc n) = (refl, refl)
of_size_parts false n = (refl, refl)

-- a - b of two naturals.
pub sub_parts : (a b : ℕ) → pos_part (sub_ℕ a b) + b ≡ neg_part (sub_ℕ a b) + a
sub_parts a b = go (ltb a b) refl
  where
    go : (t : Bool) → ltb a b ≡ t → pos_part (sub_ℕ a b) + b ≡ neg_part (sub_ℕ a b) + a
    go true e = let l = ltb-true a b e in rw e (omega arith)
    go false e = let l = ltb-false a b e in rw e (omega arith)

pub neg_pos : (y : ℤ) → pos_part (neg_ℤ y) ≡ neg_part y
neg_pos (pos zero) = refl
neg_pos (pos (suc n)) = refl
neg_pos (negsuc n) = refl

pub neg_neg : (y : ℤ) → neg_part (neg_ℤ y) ≡ pos_part y
neg_neg (pos zero) = refl
neg_neg (pos (suc n)) = refl
neg_neg (negsuc n) = refl

pub add_parts : (x y : ℤ) → pos_part (x +ℤ y) + neg_part x + neg_part y ≡ neg_part (x +ℤ y) + pos_part x + pos_part y
add_parts (pos a) (pos b) = omega arith
add_parts (pos a) (negsuc b) = omega (arith, sub_parts a (suc b))
add_parts (negsuc a) (pos b) = omega (arith, sub_parts b (suc a))
add_parts (negsuc a) (negsuc b) = omega arith

pub minus_parts : (x y : ℤ) → pos_part (x -ℤ y) + neg_part x + pos_part y ≡ neg_part (x -ℤ y) + pos_part x + neg_part y
minus_parts x y = omega (arith, add_parts x (neg_ℤ y), neg_pos y, neg_neg y)

-- x - y = z, without signs.
pub minus : (x y z : ℤ) → (x -ℤ y ≡ z) ↔ (pos_part x + neg_part y + neg_part z ≡ neg_part x + pos_part y + pos_part z)
minus x y z = (
  λ e. omega (arith, minus_parts x y, ap pos_part e, ap neg_part e),
  λ e. by_parts (x -ℤ y) z (omega (arith, minus_parts x y)),
)

pick_parts : (s : Bool) (x : ℤ) → (pos_part (pick_ℤ s x) ≡ pick s (pos_part x)) × (neg_part (pick_ℤ s x) ≡ pick s (neg_part x))
pick_parts true x = (refl, refl)
pick_parts false x = (refl, refl)

-- A signed sum is the sum of what is above 0 less the sum of what is below.
pub sum_parts : (n : ℕ) (S : Group) (h : ℕ → ℤ) → pos_part (sum n S h) + over n S (λ i. neg_part (h i)) ≡ neg_part (sum n S h) + over n S (λ i. pos_part (h i))
unfolding sum over
sum_parts zero S h = refl
sum_parts (suc n) S h =
    let p = pick_parts (S n) (h n) in
    omega (arith, sum_parts n S h, add_parts (sum n S h) (pick_ℤ (S n) (h n)), p.0, p.1)

-- Only what h and g have in S below n matters.
pub sum_same : (n : ℕ) (S : Group) (h g : ℕ → ℤ) → ((i : ℕ) → i < n → h i ≡ g i) → sum n S h ≡ sum n S g
unfolding sum
sum_same zero S h g e = refl
sum_same (suc n) S h g e = rw (sum_same n S h g (λ i l. e i (omega arith)), e n (omega arith)) refl

pub at_most : (x : ℤ) (v : ℕ) → (x ≤ℤ pos v) ↔ (pos_part x ≤ neg_part x + v)
at_most (pos a) v = (λ e. omega (arith, leb→le a v e.le), λ e. record { le = le→leb a v (omega arith) })
at_most (negsuc a) v = (λ e. omega arith, λ e. record { le = tt })

-- ---- A difference: its size, and when it is at most n.
pub size_apart : (a b : ℕ) → (a - b) + (b - a) ≡ pos_part (pos a -ℤ pos b) + neg_part (pos a -ℤ pos b)
size_apart a b = omega (arith, minus_parts (pos a) (pos b), one_side (pos a -ℤ pos b))

pub parts_difference : (z : ℤ) → pos (pos_part z) -ℤ pos (neg_part z) ≡ z
parts_difference z = by_parts _ _ (omega (arith, minus_parts (pos (pos_part z)) (pos (neg_part z))))

pub apart_at_most : (x y : ℤ) (n : ℕ)
    → (nat_abs (x -ℤ y) ≤ n) ↔ ((pos_part x + neg_part y ≤ neg_part x + pos_part y + n) × (neg_part x + pos_part y ≤ pos_part x + neg_part y + n))
apart_at_most x y n = (
  λ h. (omega (arith, size_parts (x -ℤ y), minus_parts x y), omega (arith, size_parts (x -ℤ y), minus_parts x y)),
  λ h. omega (arith, size_parts (x -ℤ y), one_side (x -ℤ y), minus_parts x y, h.0, h.1),
)

-- The sign of a difference: 1 only below 0.
pub less_sign : (a b : ℕ) → a < b → 1 ≡ pick (is_neg (pos a -ℤ pos b)) 1
less_sign a b l = signed (pos a -ℤ pos b) (omega (arith, minus_parts (pos a) (pos b)))
  where
    signed : (z : ℤ) → 0 < neg_part z → 1 ≡ pick (is_neg z) 1
    signed (pos n) h = absurd (omega arith)
    signed (negsuc n) h = refl

pub more_sign : (a b : ℕ) → b ≤ a → 0 ≡ pick (is_neg (pos a -ℤ pos b)) 1
more_sign a b l = unsigned (pos a -ℤ pos b) (omega (arith, minus_parts (pos a) (pos b), one_side (pos a -ℤ pos b)))
  where
    unsigned : (z : ℤ) → neg_part z ≡ 0 → 0 ≡ pick (is_neg z) 1
    unsigned (pos n) h = refl
    unsigned (negsuc n) h = absurd (omega arith)
