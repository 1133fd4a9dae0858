-- A sum over branches, taken apart: those kept, one other, and the rest.
use mathlib.Core.Path.{◌≡◌, refl, ap, sym}
use mathlib.Core.Bool.{Bool, true, false, not, ◌&&◌}
use Prim.Native.Nat.{ℕ, ◌+◌, ◌<◌}
use native.Mathlib.Omega.{arith}
use borrow.Author.Tests.{eqb-true, eq-eqb, ne_eqb, eqb-false}
use lib.Dec.{eqb}
use Rattle.rows.specs.Sum.{Group, pick, over}
use Rattle.rows.proofs.Sum.{over_add, over_same, over_one}

-- The branches that are neither kept nor k.
abbrev pub rest : Group → ℕ → Group
rest keep k j = not (keep j) && not (eqb j k)

abbrev pub only : Group → (ℕ → ℕ) → ℕ → ℕ
only S x j = pick (S j) (x j)

module _ (keep : Group) (k : ℕ) (out : keep k ≡ false) where
  one : (x : ℕ → ℕ) (j : ℕ) → x j ≡ only keep x j + only (rest keep k) x j + pick (eqb k j) (x k)
  one x j = go (eqb j k) refl (keep j) refl
    where
      go : (t : Bool) → eqb j k ≡ t → (s : Bool) → keep j ≡ s → x j ≡ only keep x j + only (rest keep k) x j + pick (eqb k j) (x k)
      go true e s q =
          let i : j ≡ k = eqb-true j k e in
          rw (i, out, eq-eqb k k refl) (omega arith)
      go false e true q = rw (q, ne_eqb k j (λ i. eqb-false j k e (sym i))) (omega arith)
      go false e false q = rw (q, e, ne_eqb k j (λ i. eqb-false j k e (sym i))) (omega arith)

  pub split : (n : ℕ) (S : Group) (x : ℕ → ℕ) → k < n → over n S x ≡ over n S (only keep x) + over n S (only (rest keep k) x) + pick (S k) (x k)
  split n S x h =
      omega (
        arith,
        over_same n S S x (λ j. only keep x j + only (rest keep k) x j + pick (eqb k j) (x k)) (λ j u. ap (pick (S j)) (one x j)),
        over_add n S (λ j. only keep x j + only (rest keep k) x j) (λ j. pick (eqb k j) (x k)),
        over_add n S (only keep x) (only (rest keep k) x),
        over_one n S k (x k) h,
      )
