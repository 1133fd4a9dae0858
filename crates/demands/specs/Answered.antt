-- What demand 1 asks of every result of a public call, and of one that rests on a limit.
use Rattle.std.specs.Prelude.{◌≡◌, true, false, List, ◌∷◌, ℕ, is_some}
use Rattle.rows.specs.Row.{member}
use Rattle.answer.specs.declared.Refusal.TheVariants.{PercentOutside}
use Rattle.answer.specs.Answer.{Answer, Accepted, SaidBy, number_of, place_of, placed, refused}
use Rattle.quantity.specs.Rating.{percent_out}
use Rattle.verdict.specs.Update.{Lent}

-- The number is 0, an accepted call, or one of these; all but 12 carry shortage 0 and an empty group; an answer has a place exactly if its number
-- is 4 or 5; a refusal keeps what was lent.
pub record Answered (numbers : List ℕ) (kept : Type 0) (r : Answer) : Type 0 where
  pub given : member (number_of r) (0 ∷ numbers) ≡ true
  pub silent : (number_of r ≡ 12 → ⊥) → SaidBy r r
  pub place_given : is_some (place_of r) ≡ member (number_of r) placed
  pub refused_keeps : (r ≡ Accepted → ⊥) → kept

-- A percentage outside 50 to 100 is refused with 21 before all others, and nothing lent changes; one within is never refused so.
pub record PercentFirst (percent : ℕ) (before after : Lent) (r : Answer) : Type 0 where
  pub outside : percent_out percent ≡ true → SaidBy (refused PercentOutside) r
  pub kept : percent_out percent ≡ true → after ≡ before
  pub within : percent_out percent ≡ false → number_of r ≡ 21 → ⊥
