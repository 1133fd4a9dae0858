-- What `marked` promises: a row of 256 bits, by what a test answers of each.
use Rattle.std.specs.Prelude.{◌≡◌, Bool, false, List, ℕ, ◌<◌, ◌≤◌, length}
use Rattle.rows.specs.Bit.{has}
use Rattle.bits.specs.Field.{Bytes}

-- What the test may answer of k is bit k, for each k below n; no other bit is 1.
pub record Marked (n : ℕ) (answers : ℕ → Bool → Type 0) (row : List ℕ) : Type 0 where
  pub long : length row ≡ 32
  pub bytes : Bytes row
  pub told : (k : ℕ) → k < n → answers k (has row k)
  pub beyond : (k : ℕ) → n ≤ k → has row k ≡ false
