-- A number of a command: when it is good, and what is asked with it.
use Rattle.std.specs.Prelude.{◌≡◌, Bool, true, ◌&&◌, List, ℕ, ◌+◌, ◌≤◌, leb, length}
use Rattle.rows.specs.Row.{two_at}

-- The place is not the letter's, the stream has both bytes, and the number is not above the most that it may be.
abbrev pub good : List ℕ → ℕ → ℕ → Bool
good rest at most = leb 1 at && (leb (at + 2) (length rest) && leb (two_at rest at) most)

-- A good number.
pub record Asked (rest : List ℕ) (at most n : ℕ) : Type 0 where
  pub fine : good rest at most ≡ true
  pub is : n ≡ two_at rest at
  pub few : n ≤ most
  pub within : at + 2 ≤ length rest
