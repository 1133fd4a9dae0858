-- The buses that are reached over a step, and no others; a step over a branch with capacity to spare is one such step.
use mathlib.Core.Path.{◌≡◌}
use mathlib.Core.Bool.{true}
use Prim.Native.Nat.{ℕ, ◌+◌, ◌<◌}
use Rattle.rows.specs.Sum.{Group}
use Rattle.grid.specs.Reach.{Reach}
use Rattle.grid.proofs.Net.{Net}
use Rattle.grid.proofs.Flow.{Flow}

-- Of the n buses, R has those that are reached and no others.
pub record Reached (step : ℕ → ℕ → Type 0) (start : ℕ → Type 0) (n : ℕ) (R : Group) : Type 0 where
  pub sound : (i : ℕ) → i < n → R i ≡ true → Reach step start i
  pub complete : (i : ℕ) → Reach step start i → R i ≡ true

-- A branch from bus u to bus v could carry more that way.
pub data Roomy (N : Net) (f : Flow) (u v : ℕ) : Type 0 where
  along : (k : ℕ) → k < N.branches → N.first k ≡ u → N.second k ≡ v → f.ahead k < f.back k + N.limit k → Roomy N f u v
  against : (k : ℕ) → k < N.branches → N.second k ≡ u → N.first k ≡ v → f.back k < f.ahead k + N.limit k → Roomy N f u v

-- A bus with surplus left.
pub record Surplus (n : ℕ) (l : ℕ → ℕ) (i : ℕ) : Type 0 where
  pub bus : i < n
  pub some : 0 < l i
