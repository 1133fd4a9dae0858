-- Reach over a step from bus to bus; and the island of a bus, reached over branches in service.
use Rattle.std.specs.Prelude.{◌≡◌, true, ℕ, ◌<◌}
use Rattle.rows.specs.Sum.{Group}

pub data Reach (step : ℕ → ℕ → Type 0) (start : ℕ → Type 0) : ℕ → Type 0 where
  here : {i : ℕ} → start i → Reach step start i
  onward : {u v : ℕ} → Reach step start u → step u v → Reach step start v

-- One of the first n branches is in service and has the ends u and v. Its limit isn't asked for: a branch of limit 0 joins.
pub data Tied (n : ℕ) (first second : ℕ → ℕ) (served : Group) (u v : ℕ) : Type 0 where
  along : (k : ℕ) → k < n → served k ≡ true → first k ≡ u → second k ≡ v → Tied n first second served u v
  against : (k : ℕ) → k < n → served k ≡ true → second k ≡ u → first k ≡ v → Tied n first second served u v

-- Bus v stands on the island of bus u: a path of branches in service, or none at all where they are the same, leads from u to v.
abbrev pub OnIsland : ℕ → (ℕ → ℕ) → (ℕ → ℕ) → Group → ℕ → ℕ → Type 0
OnIsland n first second served u v = Reach (Tied n first second served) (λ i. i ≡ u) v
