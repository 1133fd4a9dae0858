-- Laws of faults: no fault is a good item, and the first fault of many, one by one.
use mathlib.Core.Path.{◌≡◌, refl, ap, ◌∙◌}
use mathlib.Core.Bool.{Bool, true, false, ◌&&◌}
use Prim.Native.Nat.{ℕ, zero, suc, ◌+◌, ◌<◌, ◌≤◌}
use native.Mathlib.Omega.{arith}
use native.Mathlib.Numerals.{add-one}
use borrow.Author.Tests.{ltb-false, leb-false, eqb-true, eqb-false, le-ltb, lt-leb, eq-eqb, ne_eqb}
use lib.Dec.{ltb, leb, eqb}
use Rattle.rows.proofs.Sum.{side, below, equal, above}
use Rattle.std.specs.Prelude.{Option, Some, None}
use Rattle.answer.specs.declared.Place.{Place}
use Rattle.answer.specs.Answer.{At, Nowhere, item_of, field_of}
use Rattle.layout.specs.declared.Form.{Form}
use Rattle.layout.specs.declared.Branch.{Branch}
use Rattle.layout.specs.Book.{GoodBranch}
use Rattle.layout.specs.Form.{fields}
use Rattle.layout.specs.Fault.{fault_if, bus_fault, branch_fault, fault_at, or_else, first_fault}

-- ---- one item

past_fault : (t : Bool) (field next : ℕ) → 0 < field → fault_if t field next ≡ 0 → (t ≡ false) × (next ≡ 0)
past_fault true field next h e = absurd (omega arith)
past_fault false field next h e = (refl, e)

not_both : (a b : Bool) → a && b ≡ false → a ≡ true → b ≡ true → ⊥
not_both true true e p q = let z : ◌≡◌ {A = ℕ} 0 1 = cc in omega arith
not_both true false e p q = let z : ◌≡◌ {A = ℕ} 0 1 = cc in omega arith
not_both false b e p q = let z : ◌≡◌ {A = ℕ} 0 1 = cc in omega arith

and_false : (a b : Bool) → (a ≡ true → b ≡ true → ⊥) → a && b ≡ false
and_false true true h = absurd (h refl refl)
and_false true false h = refl
and_false false b h = refl

pub record GoodBus (sign size : ℕ) : Type 0 where
  pub small : size ≤ 1000000
  pub not_minus_zero : sign ≡ 1 → size ≡ 0 → ⊥

pub sound_bus : (sign size : ℕ) → bus_fault sign size ≡ 0 → GoodBus sign size
unfolding bus_fault
sound_bus sign size e =
    let p = past_fault (ltb 1000000 size) 2 _ (omega arith) e in
    let q = past_fault (eqb sign 1 && eqb size 0) 2 0 (omega arith) p.1 in
    record {
      small = ltb-false 1000000 size p.0;
      not_minus_zero = λ a b. not_both (eqb sign 1) (eqb size 0) q.0 (eq-eqb sign 1 a) (eq-eqb size 0 b);
    }

pub bus_sound : (sign size : ℕ) → GoodBus sign size → bus_fault sign size ≡ 0
unfolding bus_fault
bus_sound sign size g =
    simp (
      le-ltb 1000000 size g.small,
      and_false (eqb sign 1) (eqb size 0) (λ a b. g.not_minus_zero (eqb-true sign 1 a) (eqb-true size 0 b)),
    )

pub sound_branch : (f : Form) (n : ℕ) (x : Branch) → branch_fault f n x ≡ 0 → GoodBranch n x
unfolding branch_fault
sound_branch f n x e =
    let p₁ = past_fault (leb n x.first) 1 _ (omega arith) e in
    let p₂ = past_fault (leb n x.second) 2 _ (omega arith) p₁.1 in
    let p₃ = past_fault (eqb x.first x.second) 2 _ (omega arith) p₂.1 in
    let p₄ = past_fault (ltb 1000000 x.kva.0) 3 _ (omega arith) p₃.1 in
    let p₅ = past_fault (ltb x.kva2.0 x.kva.0) 4 _ (omega arith) p₄.1 in
    let p₆ = past_fault (ltb 1000000 x.kva2.0) 4 _ (omega arith) p₅.1 in
    let p₇ = past_fault (ltb 1 x.status) (fields f) 0 (omega arith) p₆.1 in
    record {
      first_there = leb-false n x.first p₁.0;
      second_there = leb-false n x.second p₂.0;
      apart = eqb-false x.first x.second p₃.0;
      rating = ltb-false 1000000 x.kva.0 p₄.0;
      not_below = ltb-false x.kva2.0 x.kva.0 p₅.0;
      second_rating = ltb-false 1000000 x.kva2.0 p₆.0;
      flag = ltb-false 1 x.status p₇.0;
    }

pub branch_sound : (f : Form) (n : ℕ) (x : Branch) → GoodBranch n x → branch_fault f n x ≡ 0
unfolding branch_fault
branch_sound f n x g =
    simp (
      lt-leb n x.first g.first_there,
      lt-leb n x.second g.second_there,
      ne_eqb x.first x.second g.apart,
      le-ltb 1000000 x.kva.0 g.rating,
      le-ltb x.kva2.0 x.kva.0 g.not_below,
      le-ltb 1000000 x.kva2.0 g.second_rating,
      le-ltb 1 x.status g.flag,
    )

-- ---- the first of many

past_sound : (a b : Option Place) → or_else a b ≡ Nowhere → (a ≡ Nowhere) × (b ≡ Nowhere)
past_sound None b e = (refl, e)
past_sound (Some at) b e = absurd (cc)

no_fault : (i j : ℕ) → fault_at i j ≡ Nowhere → j ≡ 0
no_fault i zero e = refl
no_fault i (suc j) e = let z : ◌≡◌ {A = ℕ} 0 1 = cc in absurd (omega arith)

a_fault : (i j : ℕ) → 0 < j → fault_at i j ≡ At i j
a_fault i zero h = absurd (omega arith)
a_fault i (suc j) h = refl

-- The first fault is item i's, of field j: no item before it has one.
pub record First (f : ℕ → ℕ) (n i j : ℕ) : Type 0 where
  pub there : i < n
  pub its_field : f i ≡ j
  pub a_field : 0 < j
  pub before : (k : ℕ) → k < i → f k ≡ 0

module _ (f : ℕ → ℕ) where
  pub first_none : first_fault f 0 ≡ Nowhere
  unfolding first_fault
  first_none = refl

  pub first_more : (k : ℕ) → first_fault f k ≡ Nowhere → f k ≡ 0 → first_fault f (k + 1) ≡ Nowhere
  unfolding first_fault
  first_more k e h = rw (add-one, e, h) refl

  pub first_stops : (n k j : ℕ) → k < n → first_fault f k ≡ Nowhere → f k ≡ j → 0 < j → first_fault f n ≡ At k j
  unfolding first_fault
  first_stops zero k j l e h p = absurd (omega arith)
  first_stops (suc n) k j l e h p = elim (side k n) [
    | below u ↦ rw (first_stops n k j u e h p) refl
    | equal u ↦ rw (← u, e, h) (a_fault k j p)
    | above u ↦ absurd (omega arith)
  ]

  pub first_sound : (n : ℕ) → first_fault f n ≡ Nowhere → (k : ℕ) → k < n → f k ≡ 0
  unfolding first_fault
  first_sound zero e k h = absurd (omega arith)
  first_sound (suc n) e k h =
      let w = past_sound (first_fault f n) (fault_at n (f n)) e in
      elim (side k n) [ below u ↦ first_sound n w.0 k u | equal u ↦ rw u (no_fault n (f n) w.1) | above u ↦ absurd (omega arith) ]

  pub sound_first : (n : ℕ) → ((k : ℕ) → k < n → f k ≡ 0) → first_fault f n ≡ Nowhere
  unfolding first_fault
  sound_first zero h = refl
  sound_first (suc n) h = rw (sound_first n (λ k l. h k (omega arith)), h n (omega arith)) refl

  -- A fault that is found is the first, in layout order.
  pub first_is : (n i j : ℕ) → first_fault f n ≡ At i j → First f n i j
  unfolding first_fault
  first_is zero i j e = let z : ◌≡◌ {A = ℕ} 0 1 = cc in absurd (omega arith)
  first_is (suc n) i j e = go (first_fault f n) refl e (first_is n)
    where
      here : (v : ℕ) → f n ≡ v → first_fault f n ≡ Nowhere → fault_at n v ≡ At i j → First f (suc n) i j
      here zero h s q = let z : ◌≡◌ {A = ℕ} 0 1 = cc in absurd (omega arith)
      here (suc v) h s q =
          let a : n ≡ i = ap item_of q in
          let b : suc v ≡ j = ap field_of q in
          record {
            there = omega arith;
            its_field = rw (← a) (h ∙ b);
            a_field = omega arith;
            before = λ k l. first_sound n s k (omega arith);
          }

      go : (r : Option Place) → first_fault f n ≡ r → or_else r (fault_at n (f n)) ≡ At i j → ((i j : ℕ) → first_fault f n ≡ At i j → First f n i j) → First f (suc n) i j
      go None s q rec = here (f n) refl s q
      go (Some at) s q rec =
          let w = rec i j (s ∙ q) in
          record { there = omega (arith, w.there); its_field = w.its_field; a_field = w.a_field; before = w.before }
