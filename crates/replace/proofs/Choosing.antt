-- Latent capacities chosen branch by branch: one row's inside the named branches, another's outside.
use mathlib.Core.Path.{◌≡◌, refl, sym, ◌∙◌}
use mathlib.Core.Bool.{true, false, true≢false}
use mathlib.Core.List.{List}
use Prim.Native.Nat.{ℕ, ◌+◌, ◌<◌, ◌≤◌}
use native.Mathlib.Omega.{arith}
use lib.ListN.{length, set, length-set}
use lib.Seq.{get_or-set_same, get_or-set_other}
use Rattle.rows.specs.Row.{nth}
use Rattle.rows.specs.Bit.{has}
use Rattle.rows.proofs.Sum.{side, below, equal, above}
use Rattle.search.specs.declared.Latent.{Latent}
use Rattle.replace.specs.Inside.{Chosen}

-- A row after a store at i: what it has there, and elsewhere.
stored : (l : List ℕ) (i x : ℕ) (P : ℕ → ℕ → Type 0) → i < length l → P i x → ((j : ℕ) → (j ≡ i → ⊥) → P j (nth l j)) → (j : ℕ)
    → P j (nth (set l i x) j)
stored l i x P h here there j = elim (side j i) [
  | below u ↦ rw (get_or-set_other l i j x 0 (λ e. omega arith)) (there j (λ e. omega arith))
  | equal u ↦ rw (u, get_or-set_same l i x 0 h) here
  | above u ↦ rw (get_or-set_other l i j x 0 (λ e. omega arith)) (there j (λ e. omega arith))
]

module _ (named : List ℕ) where
  -- One row chosen so far: c on the named branches below i, and a elsewhere.
  record Picked (a c x : List ℕ) (i : ℕ) : Type 0 where
    long : length x ≡ 256
    inside : (j : ℕ) → j < i → has named j ≡ true → nth x j ≡ nth c j
    outside : (j : ℕ) → has named j ≡ false → nth x j ≡ nth a j
    beyond : (j : ℕ) → i ≤ j → nth x j ≡ nth a j

  picked_none : (a c : List ℕ) → length a ≡ 256 → Picked a c a 0
  picked_none a c l = record { long = l; inside = λ j u. absurd (omega arith); outside = λ j e. refl; beyond = λ j u. refl }

  picked_set : {a c x : List ℕ} {i : ℕ} → Picked a c x i → i < 256 → has named i ≡ true → Picked a c (set x i (nth c i)) (i + 1)
  picked_set {a} {c} {x} {i} m u e =
      let h : i < length x = omega (arith, m.long) in
      record {
        long = simp length-set m.long;
        inside = λ j v. stored x i (nth c i) (λ j y. j < i + 1 → has named j ≡ true → y ≡ nth c j) h (λ _ _. refl) (λ j q w. m.inside j (omega arith)) j v;
        outside = stored x i (nth c i) (λ j y. has named j ≡ false → y ≡ nth a j) h (λ q. absurd (true≢false (sym e ∙ q))) (λ j q. m.outside j);
        beyond = λ j v. get_or-set_other x i j (nth c i) 0 (λ q. omega arith) ∙ m.beyond j (omega arith);
      }

  picked_skip : {a c x : List ℕ} {i : ℕ} → Picked a c x i → has named i ≡ false → Picked a c x (i + 1)
  picked_skip {a} {c} {x} {i} m e = record {
    long = m.long;
    inside = λ j v q. elim (side j i) [
      | below u ↦ m.inside j u q
      | equal u ↦ absurd (true≢false (sym q ∙ rw u e))
      | above u ↦ absurd (omega arith)
    ];
    outside = m.outside;
    beyond = λ j v. m.beyond j (omega arith);
  }

-- Both rows of r, for the first i of n branches.
pub record Choosing (n : ℕ) (named : List ℕ) (x y r : Latent) (i : ℕ) : Type 0 where
  pub few : n ≤ 256
  pub within : i ≤ n
  ahead_row : Picked named y.ahead x.ahead r.ahead i
  back_row : Picked named y.back x.back r.back i

pub choosing_none : {n : ℕ} {named : List ℕ} {x y : Latent} → n ≤ 256 → length y.ahead ≡ 256 → length y.back ≡ 256 → Choosing n named x y y 0
choosing_none {named = named} f a b = record {
  few = f;
  within = omega arith;
  ahead_row = picked_none named _ _ a;
  back_row = picked_none named _ _ b;
}

module _ {n : ℕ} {named : List ℕ} {x y r : Latent} {i : ℕ} (C : Choosing n named x y r i) where
  pub choosing_set : i < n → has named i ≡ true
      → Choosing n named x y (record { ahead = set r.ahead i (nth x.ahead i); back = set r.back i (nth x.back i) }) (i + 1)
  choosing_set u e = record {
    few = C.few;
    within = omega arith;
    ahead_row = picked_set named C.ahead_row (omega (arith, C.few)) e;
    back_row = picked_set named C.back_row (omega (arith, C.few)) e;
  }

  pub choosing_skip : i < n → has named i ≡ false → Choosing n named x y r (i + 1)
  choosing_skip u e = record {
    few = C.few;
    within = omega arith;
    ahead_row = picked_skip named C.ahead_row e;
    back_row = picked_skip named C.back_row e;
  }

  pub choosing_end : n ≤ i → Chosen n named x y r
  choosing_end h =
      let a = C.ahead_row in
      let b = C.back_row in
      record {
        inside = λ j v e. (a.inside j (omega arith) e, b.inside j (omega arith) e);
        outside = λ j e. (a.outside j e, b.outside j e);
        beyond = λ j v. (a.beyond j (omega (arith, C.within)), b.beyond j (omega (arith, C.within)));
      }
