-- What every call answers to a book that is wrong.
use Rattle.std.specs.Prelude.{◌≡◌, List, ℕ}
use Rattle.answer.specs.Answer.{Answer, Accepted, At, SaidBy, number_of, place_of}
use Rattle.layout.specs.Rule.{WrongIn}
use Rattle.layout.specs.Check.{check_of}

-- A refused book is answered as its own check says, place and all; and a place that an answer has is right.
pub record Tells (bs : List ℕ) (r : Answer) : Type 0 where
  pub whole : (check_of bs ≡ Accepted → ⊥) → SaidBy (check_of bs) r
  pub right : {i j : ℕ} → place_of r ≡ At i j → WrongIn bs (number_of r) i j
