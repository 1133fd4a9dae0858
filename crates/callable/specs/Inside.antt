-- The parts of an answer.
use Rattle.std.specs.Prelude.{◌≡◌, List, ℕ}
use Rattle.answer.specs.Answer.{Answer, group_of, number_of, place_of, shortage_of}
use Rattle.callable.specs.Promise.{PlaceTold}

-- `tell`
pub record Parts (answer : Answer) (number shortage : ℕ) (group : List ℕ) (item field : ℕ) : Type 0 where
  pub number_is : number ≡ number_of answer
  pub shortage_is : shortage ≡ shortage_of answer
  pub group_is : group ≡ group_of answer
  pub place_told : PlaceTold (place_of answer) item field
