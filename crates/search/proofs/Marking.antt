-- What storing a mark does to a row: one zero fewer, and what was marked stays so. Numbers that stand once.
use mathlib.Core.Path.{◌≡◌, refl}
use mathlib.Core.List.{List, [], ◌∷◌}
use mathlib.Core.Logic.{◌⊎◌, inl, inr}
use Prim.Native.Nat.{ℕ, zero, suc, ◌+◌, ◌<◌}
use native.Mathlib.Omega.{arith}
use native.Mathlib.Decide.{ℕ_discrete}
use lib.ListN.{length, set, replicate}
use lib.Seq.{get_or-set_same, get_or-set_other}
use Rattle.rows.specs.Row.{nth}
use Rattle.search.specs.InsideSearch.{Distinct}
use Rattle.search.specs.Inside.{none, zeros}

none_pos : (x : ℕ) → 0 < x → none x ≡ 0
none_pos zero h = omega arith
none_pos (suc x) h = refl

pub zeros_set : (l : List ℕ) (i x : ℕ) → i < length l → nth l i ≡ 0 → 0 < x → zeros (set l i x) + 1 ≡ zeros l
zeros_set [] i x h e p = omega arith
zeros_set (zero ∷ l) zero x h e p = omega (arith, none_pos x p)
zeros_set (suc y ∷ l) zero x h e p = omega arith
zeros_set (y ∷ l) (suc i) x h e p = omega (arith, zeros_set l i x (omega arith) e p)

pub blank : (n u : ℕ) → nth (replicate n 0) u ≡ 0
blank zero u = refl
blank (suc n) zero = refl
blank (suc n) (suc u) = blank n u

-- A number above 0 after a store was stored there or was above 0 before.
pub either_place : (l : List ℕ) (i x v : ℕ) → 0 < nth (set l i x) v → (v ≡ i) ⊎ (0 < nth l v)
either_place l i x v g = which (ℕ_discrete v i)
  where
    which : Dec (v ≡ i) → (v ≡ i) ⊎ (0 < nth l v)
    which (yes e) = inl e
    which (no d) = inr (rw (get_or-set_other l i v x 0 d) at g)

pub still_positive : (l : List ℕ) (i x v : ℕ) → i < length l → 0 < x → 0 < nth l v → 0 < nth (set l i x) v
still_positive l i x v h p g = which (ℕ_discrete v i)
  where
    which : Dec (v ≡ i) → 0 < nth (set l i x) v
    which (yes e) = rw (e, get_or-set_same l i x 0 h) p
    which (no d) = rw (get_or-set_other l i v x 0 d) g

pub distinct_cons : (x : ℕ) (xs : List ℕ) → ((j : ℕ) → j < length xs → x ≡ nth xs j → ⊥) → Distinct xs → Distinct (x ∷ xs)
distinct_cons x xs new D = record { once = go }
  where
    go : (i j : ℕ) → i < j → j < length (x ∷ xs) → nth (x ∷ xs) i ≡ nth (x ∷ xs) j → ⊥
    go zero zero l b e = omega arith
    go (suc i) zero l b e = omega arith
    go zero (suc j) l b e = new j (omega arith) e
    go (suc i) (suc j) l b e = D.once i j (omega arith) (omega arith) e
