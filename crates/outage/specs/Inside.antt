-- The branches that an outage touches, in bits; what it tells by how it ended.
use Rattle.std.specs.Prelude.{◌≡◌, true, ◌⊎◌, List, ℕ, ◌<◌, Result, Ok, Err}
use Rattle.rows.specs.Row.{nth}
use Rattle.rows.specs.Bit.{has}
use Rattle.answer.specs.declared.Refusal.{Refusal}
use Rattle.answer.specs.Answer.{Accepted, refused}
use Rattle.state.specs.Inside.{Differs}
use Rattle.outage.specs.declared.Taken.{Taken}

-- `touch`: the bits of branch k and of the branches below n whose number in one row differs from that in the other.
pub record Marked (n : ℕ) (a b : List ℕ) (k : ℕ) (bits : List ℕ) : Type 0 where
  pub itself : has bits k ≡ true
  pub differing : (j : ℕ) → j < n → (nth a j ≡ nth b j → ⊥) → has bits j ≡ true
  pub only : (j : ℕ) → has bits j ≡ true → (j ≡ k) ⊎ Differs n a b k j

-- The losses that were judged, or the refusal that none was judged for.
abbrev pub taken : Result ℕ Refusal → Taken
taken (Ok n) = record { answer = Accepted; judged = n }
taken (Err why) = record { answer = refused why; judged = 0 }
