-- Laws of reach over any step.
use mathlib.Core.Path.{◌≡◌}
use mathlib.Core.Bool.{true}
use Prim.Native.Nat.{ℕ}
use Rattle.rows.specs.Sum.{Group}
use Rattle.grid.specs.Reach.{Reach, here, onward}

-- A reached bus is in every group that has the starts and that no step leaves.
pub reach_within : {step : ℕ → ℕ → Type 0} {start : ℕ → Type 0} (R : Group) → ((i : ℕ) → start i → R i ≡ true) → ((u v : ℕ) → step u v → R u ≡ true → R v ≡ true) → {i : ℕ} → Reach step start i → R i ≡ true
reach_within R from keep (here {i} s) = from i s
reach_within R from keep (onward {u} {v} r s) = keep u v s (reach_within R from keep r)

-- With more starts and more steps, no less is reached.
pub reach_more : {step step' : ℕ → ℕ → Type 0} {start start' : ℕ → Type 0} → ((i : ℕ) → start i → start' i) → ((u v : ℕ) → step u v → step' u v) → {i : ℕ} → Reach step start i → Reach step' start' i
reach_more from by (here {i} s) = here (from i s)
reach_more from by (onward {u} {v} r s) = onward (reach_more from by r) (by u v s)
