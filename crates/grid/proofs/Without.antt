-- The network without one branch: its ratings leave that branch out, and no excess grows by more than its limit.
use mathlib.Core.Path.{◌≡◌, refl}
use mathlib.Core.Bool.{Bool, true, false, not, ◌&&◌, cond}
use Prim.Native.Nat.{ℕ, zero, suc, ◌+◌, ◌≤◌, ◌<◌}
use native.Mathlib.Omega.{arith}
use borrow.Author.Tests.{eq-eqb, ne_eqb}
use lib.Dec.{eqb}
use Rattle.rows.specs.Sum.{Group, pick, over}
use Rattle.rows.proofs.Sum.{over_same, pick_part, pick_zero, below, equal, above, side}
use Rattle.grid.proofs.Net.{Net, EndsThere, crosses, ratings, without}
use Rattle.grid.proofs.Excess.{AtMost}

-- A sum without k.
pub over_without : (n : ℕ) (S : Group) (f : ℕ → ℕ) (k : ℕ) → k < n → over n S (λ i. cond (eqb i k) 0 (f i)) + pick (S k) (f k) ≡ over n S f
unfolding over
over_without zero S f k h = absurd (omega arith)
over_without (suc n) S f k h = elim (side k n) [
  | below l ↦ rw (ne_eqb n k (omega arith)) (omega (arith, over_without n S f k l))
  | equal l ↦ rw (l, eq-eqb n n refl) (omega (arith, rest n S f n (omega arith), pick_zero (S n)))
  | above l ↦ absurd (omega arith)
]
  where
    rest : (m : ℕ) (S : Group) (f : ℕ → ℕ) (k : ℕ) → m ≤ k → over m S (λ i. cond (eqb i k) 0 (f i)) ≡ over m S f
    rest m S f k l = over_same m S S _ _ (λ i u. rw (ne_eqb i k (omega arith)))

pub ratings_without : (N : Net) (b : ℕ) (S : Group) → ratings (without N b) S ≡ over N.branches (λ k. crosses N S k && not (eqb k b)) N.limit
ratings_without N b S = over_same _ _ _ _ _ (λ k h. one (crosses N S k) (eqb k b) (N.limit k))
  where
    one : (s t : Bool) (x : ℕ) → pick s (cond t 0 x) ≡ pick (s && not t) x
    one true true x = refl
    one true false x = refl
    one false true x = refl
    one false false x = refl

pub ends_without : (N : Net) (b : ℕ) → EndsThere N → EndsThere (without N b)
ends_without N b e = record { first_in = e.first_in; second_in = e.second_in }

pub at_most_without : (N : Net) (b : ℕ) (S : Group) (v : ℕ) → b < N.branches → AtMost N S v → AtMost (without N b) S (v + N.limit b)
at_most_without N b S v h m = omega (arith, over_without N.branches (crosses N S) N.limit b h, pick_part (crosses N S b) (N.limit b))
