-- What the exported calls promise: those of `screen`, `outage`, `restore`, `transfer` and `forms`, with the answer in its parts.
use Rattle.std.specs.Prelude.{◌≡◌, List, ℕ, Option}
use Rattle.answer.specs.declared.Place.{Place}
use Rattle.answer.specs.Answer.{Answer, Said, field_of, item_of}

-- A place in its two numbers.
pub record PlaceTold (place : Option Place) (item field : ℕ) : Type 0 where
  pub item_is : item ≡ item_of place
  pub field_is : field ≡ field_of place

-- The number, shortage, group and place are those of an answer that the call may end with.
pub record SaidInParts (ends : Answer → Type 0) (number shortage : ℕ) (group : List ℕ) (item field : ℕ) : Type 0 where
  pub answer : Answer
  pub place : Option Place
  pub ended : ends answer
  pub said : Said answer number shortage group place
  pub place_told : PlaceTold place item field
