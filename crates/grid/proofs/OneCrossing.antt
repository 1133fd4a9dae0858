-- Where one branch alone crosses a group with a flow, that flow is what the group brings more than it takes.
use mathlib.Core.Path.{◌≡◌, refl}
use mathlib.Core.Bool.{Bool, true, false}
use Prim.Native.Nat.{ℕ, zero, suc, ◌+◌, ◌≤◌, ◌<◌}
use native.Mathlib.Omega.{arith}
use Rattle.rows.specs.Sum.{Group, differ, pick, over}
use Rattle.rows.proofs.Sum.{over_zero, side, below, equal, above}
use Rattle.grid.proofs.Net.{Net, EndsThere, crosses, gains, loads}
use Rattle.grid.proofs.Flow.{Flow, Balanced}
use Rattle.grid.proofs.Cut.{whole}

-- A branch that doesn't cross, or without flow, brings as much as it takes.
even : (s t : Bool) (a b : ℕ) → (differ s t ≡ true → a ≡ b) → pick s a + pick t b ≡ pick t a + pick s b
even true true a b h = refl
even true false a b h = omega (arith, h refl)
even false true a b h = omega (arith, h refl)
even false false a b h = refl

module _ (N : Net) (f : Flow) (U : Group) (j : ℕ)
    (others : (k : ℕ) → k < N.branches → (k ≡ j → ⊥) → crosses N U k ≡ true → f.ahead k ≡ f.back k) where
  out_of : ℕ → ℕ
  out_of m = over m (λ k. U (N.first k)) f.ahead + over m (λ k. U (N.second k)) f.back

  in_to : ℕ → ℕ
  in_to m = over m (λ k. U (N.second k)) f.ahead + over m (λ k. U (N.first k)) f.back

  before : (m : ℕ) → m ≤ N.branches → m ≤ j → out_of m ≡ in_to m
  unfolding over out_of in_to
  before zero h l = refl
  before (suc m) h l =
      omega (arith, before m (omega arith) (omega arith), even (U (N.first m)) (U (N.second m)) (f.ahead m) (f.back m) (others m h (λ e. omega arith)))

  after : (m : ℕ) → m ≤ N.branches → j < m
      → out_of m + (pick (U (N.second j)) (f.ahead j) + pick (U (N.first j)) (f.back j))
      ≡ in_to m + (pick (U (N.first j)) (f.ahead j) + pick (U (N.second j)) (f.back j))
  unfolding over out_of in_to
  after zero h l = absurd (omega arith)
  after (suc m) h l = elim (side j m) [
    | below d ↦
        omega (arith, after m (omega arith) d, even (U (N.first m)) (U (N.second m)) (f.ahead m) (f.back m) (others m h (λ e. omega arith)))
    | equal e ↦ rw e (omega (arith, before m (omega arith) (omega arith)))
    | above d ↦ absurd (omega arith)
  ]

  pub one_crossing : j < N.branches → EndsThere N → Balanced N f (λ i. 0) (λ i. 0)
      → gains N U + (pick (U (N.first j)) (f.back j) + pick (U (N.second j)) (f.ahead j))
      ≡ loads N U + (pick (U (N.first j)) (f.ahead j) + pick (U (N.second j)) (f.back j))
  unfolding out_of in_to
  one_crossing l e b =
      omega (arith, whole N f (λ i. 0) (λ i. 0) e b U, over_zero N.buses U, after N.branches (omega arith) l)
