-- The largest excess is one number, and its smallest group is one group.
use mathlib.Core.Path.{◌≡◌, refl, sym}
use mathlib.Core.Bool.{Bool, true, false}
use Prim.Native.Nat.{ℕ, ◌<◌}
use native.Mathlib.Omega.{arith}
use Rattle.rows.specs.Sum.{Group}
use Rattle.grid.proofs.Net.{Net}
use Rattle.grid.proofs.Excess.{SmallestOf}

-- Two truth values, each true where the other is, are equal.
pub same_truth : (s t : Bool) → (s ≡ true → t ≡ true) → (t ≡ true → s ≡ true) → s ≡ t
same_truth true t h g = sym (h refl)
same_truth false true h g = g refl
same_truth false false h g = refl

module _ {N : Net} {among : Group → Bool} {S R : Group} {v w : ℕ} (s : SmallestOf N among S v) (r : SmallestOf N among R w) where
  pub excess_unique : v ≡ w
  excess_unique = omega (arith, s.largest R r.listed, r.largest S s.listed, s.reaches, r.reaches)

  pub group_unique : (i : ℕ) → i < N.buses → S i ≡ R i
  group_unique i h = same_truth (S i) (R i) (s.least R r.listed (rw excess_unique r.reaches) i h) (r.least S s.listed (rw (← excess_unique) s.reaches) i h)
