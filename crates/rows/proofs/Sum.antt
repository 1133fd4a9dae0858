-- Laws of sums over a group.
use mathlib.Core.Path.{◌≡◌, refl, ap}
use mathlib.Core.Bool.{Bool, true, false}
use Prim.Native.Nat.{ℕ, zero, suc, ◌+◌, ◌*◌, ◌≤◌, ◌<◌}
use native.Mathlib.Nat.{mul-suc}
use native.Mathlib.Omega.{arith}
use lib.Dec.{eqb}
use mathlib.Core.List.{List}
use lib.ListN.{length, get_or, set}
use lib.Seq.{get_or-set_same, get_or-set_other}
use borrow.Author.Tests.{eq-eqb, ne_eqb}
use Rattle.rows.specs.Sum.{Group, all, pick, over}

pub pick_add : (s : Bool) (x y : ℕ) → pick s (x + y) ≡ pick s x + pick s y
pick_add true x y = refl
pick_add false x y = refl

pub pick_le : (s : Bool) (x y : ℕ) → x ≤ y → pick s x ≤ pick s y
pick_le true x y h = h
pick_le false x y h = omega arith

pub pick_zero : (s : Bool) → pick s 0 ≡ 0
pick_zero true = refl
pick_zero false = refl

pub over_zero : (n : ℕ) (S : Group) → over n S (λ i. 0) ≡ 0
unfolding over
over_zero zero S = refl
over_zero (suc n) S = omega (arith, over_zero n S, pick_zero (S n))

pub over_add : (n : ℕ) (S : Group) (f g : ℕ → ℕ) → over n S (λ i. f i + g i) ≡ over n S f + over n S g
unfolding over
over_add zero S f g = refl
over_add (suc n) S f g = omega (arith, over_add n S f g, pick_add (S n) (f n) (g n))

-- Only what f and g, and S and T, have below n matters.
pub over_same : (n : ℕ) (S T : Group) (f g : ℕ → ℕ) → ((i : ℕ) → i < n → pick (S i) (f i) ≡ pick (T i) (g i)) → over n S f ≡ over n T g
unfolding over
over_same zero S T f g h = refl
over_same (suc n) S T f g h = omega (arith, over_same n S T f g (λ i l. h i (omega arith)), h n (omega arith))

pub over_le : (n : ℕ) (S T : Group) (f g : ℕ → ℕ) → ((i : ℕ) → i < n → pick (S i) (f i) ≤ pick (T i) (g i)) → over n S f ≤ over n T g
unfolding over
over_le zero S T f g h = omega arith
over_le (suc n) S T f g h = omega (arith, over_le n S T f g (λ i l. h i (omega arith)), h n (omega arith))

-- Where a lies against b.
pub data Side (a b : ℕ) : Type 0 where
  below : a < b → Side a b
  equal : a ≡ b → Side a b
  above : b < a → Side a b

pub side : (a b : ℕ) → Side a b
side zero zero = equal refl
side zero (suc b) = below (omega arith)
side (suc a) zero = above (omega arith)
side (suc a) (suc b) = elim (side a b) [ below h ↦ below (omega arith) | equal h ↦ equal (omega arith) | above h ↦ above (omega arith) ]

-- A sum with one term.
pub over_none : (n : ℕ) (S : Group) (j x : ℕ) → n ≤ j → over n S (λ i. pick (eqb j i) x) ≡ 0
unfolding over
over_none zero S j x h = refl
over_none (suc n) S j x h = rw (ne_eqb j n (omega arith)) (omega (arith, over_none n S j x (omega arith), pick_zero (S n)))

pub over_one : (n : ℕ) (S : Group) (j x : ℕ) → j < n → over n S (λ i. pick (eqb j i) x) ≡ pick (S j) x
unfolding over
over_one zero S j x h = omega arith
over_one (suc n) S j x h = elim (side j n) [
  | below l ↦ rw (ne_eqb j n (omega arith)) (omega (arith, over_one n S j x l, pick_zero (S n)))
  | equal l ↦ rw (eq-eqb j n l, l) (omega (arith, over_none n S n x (omega arith)))
  | above l ↦ absurd (omega arith)
]

-- The sums of a function of branches at their ends, over the buses of S, are the sum over the branches with that end in S.
pub over_ends : (n m : ℕ) (S : Group) (p x : ℕ → ℕ) → ((k : ℕ) → k < m → p k < n) → over n S (λ i. over m (λ k. eqb (p k) i) x) ≡ over m (λ k. S (p k)) x
unfolding over
over_ends n zero S p x h = over_zero n S
over_ends n (suc m) S p x h =
    omega (
      arith,
      over_add n S (λ i. over m (λ k. eqb (p k) i) x) (λ i. pick (eqb (p m) i) (x m)),
      over_ends n m S p x (λ k l. h k (omega arith)),
      over_one n S (p m) (x m) (h m (omega arith)),
    )

pub pick_part : (s : Bool) (x : ℕ) → pick s x ≤ x
pick_part true x = omega arith
pick_part false x = omega arith

pub over_all : (n : ℕ) (S : Group) (f : ℕ → ℕ) → over n S f ≤ over n all f
over_all n S f = over_le n S all f f (λ i l. pick_part (S i) (f i))

-- A term is at most the sum.
pub over_term : (n : ℕ) (S : Group) (f : ℕ → ℕ) (i : ℕ) → i < n → pick (S i) (f i) ≤ over n S f
unfolding over
over_term zero S f i h = omega arith
over_term (suc n) S f i h = elim (side i n) [
  | below l ↦ omega (arith, over_term n S f i l)
  | equal l ↦ rw l (omega arith)
  | above l ↦ absurd (omega arith)
]

-- A sum of small terms.
pub over_bound : (n : ℕ) (S : Group) (f : ℕ → ℕ) (b : ℕ) → ((i : ℕ) → i < n → pick (S i) (f i) ≤ b) → over n S f ≤ b * n
unfolding over
over_bound zero S f b h = omega arith
over_bound (suc n) S f b h = omega (arith, over_bound n S f b (λ i l. h i (omega arith)), h n (omega arith), mul-suc b n)

-- Where each term is at most the other's, and the sums are equal, so are the terms.
pub over_tight : (n : ℕ) (S T : Group) (f g : ℕ → ℕ) → ((i : ℕ) → i < n → pick (S i) (f i) ≤ pick (T i) (g i)) → over n S f ≡ over n T g → (i : ℕ) → i < n → pick (S i) (f i) ≡ pick (T i) (g i)
unfolding over
over_tight zero S T f g h e i u = absurd (omega arith)
over_tight (suc n) S T f g h e i u =
    let rest = over_le n S T f g (λ i l. h i (omega arith)) in
    let last = h n (omega arith) in
    elim (side i n) [
      | below l ↦ over_tight n S T f g (λ i l. h i (omega arith)) (omega arith) i l
      | equal l ↦ rw l (omega arith)
      | above l ↦ absurd (omega arith)
    ]

-- A sum over a row after a store.
pub over_apart : (n : ℕ) (S : Group) (a : List ℕ) (k y : ℕ) → n ≤ k → over n S (λ i. get_or (set a k y) i 0) ≡ over n S (λ i. get_or a i 0)
over_apart n S a k y h = over_same n S S (λ i. get_or (set a k y) i 0) (λ i. get_or a i 0) (λ i u. ap (pick (S i)) (get_or-set_other a k i y 0 (omega arith)))

pub over_set : (n : ℕ) (S : Group) (a : List ℕ) (k y : ℕ) → k < n → k < length a → over n S (λ i. get_or (set a k y) i 0) + pick (S k) (get_or a k 0) ≡ over n S (λ i. get_or a i 0) + pick (S k) y
unfolding over
over_set zero S a k y h b = absurd (omega arith)
over_set (suc n) S a k y h b = elim (side k n) [
  | below l ↦ omega (arith, over_set n S a k y l b, ap (pick (S n)) (get_or-set_other a k n y 0 (omega arith)))
  | equal l ↦ omega (
    arith,
    over_apart n S a k y (omega arith),
    ap (λ (j : ℕ). pick (S j) (get_or (set a k y) j 0)) l,
    ap (λ (j : ℕ). pick (S j) (get_or a j 0)) l,
    ap (pick (S k)) (get_or-set_same a k y 0 b),
  )
  | above l ↦ absurd (omega arith)
]
