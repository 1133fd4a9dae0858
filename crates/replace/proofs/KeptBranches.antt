-- The branches that the first attempt may use: the named ones other than the lost branch k.
use mathlib.Core.Path.{◌≡◌, refl}
use mathlib.Core.Bool.{Bool, true, false, not, ◌&&◌}
use mathlib.Core.List.{List}
use Prim.Native.Nat.{ℕ}
use native.Mathlib.Omega.{arith}
use borrow.Author.Tests.{eq-eqb, ne_eqb}
use lib.Dec.{eqb}
use Rattle.rows.specs.Bit.{has}
use Rattle.rows.specs.Sum.{Group}
use Rattle.rows.proofs.Sum.{side, below, equal, above}
use Rattle.rows.proofs.Row.{and_false}
use Rattle.replace.proofs.Split.{rest}

abbrev pub keep_of : List ℕ → ℕ → Group
keep_of named k j = has named j && not (eqb j k)

pub keep_k : (named : List ℕ) (k : ℕ) → keep_of named k k ≡ false
keep_k named k = rw (eq-eqb k k refl) (and_false (has named k))

pub data Kind (named : List ℕ) (k j : ℕ) : Type 0 where
  kept : (j ≡ k → ⊥) → has named j ≡ true → keep_of named k j ≡ true → rest (keep_of named k) k j ≡ false → Kind named k j
  lost : j ≡ k → Kind named k j
  other : (j ≡ k → ⊥) → has named j ≡ false → keep_of named k j ≡ false → rest (keep_of named k) k j ≡ true → Kind named k j

pub kind : (named : List ℕ) (k j : ℕ) → Kind named k j
kind named k j = elim (side j k) [ below l ↦ go (λ e. omega arith) (has named j) refl | equal l ↦ lost l | above l ↦ go (λ e. omega arith) (has named j) refl ]
  where
    go : (j ≡ k → ⊥) → (t : Bool) → has named j ≡ t → Kind named k j
    go n true e = kept n e (rw (e, ne_eqb j k n) refl) (rw (e, ne_eqb j k n) refl)
    go n false e = other n e (rw e refl) (rw (e, ne_eqb j k n) refl)
