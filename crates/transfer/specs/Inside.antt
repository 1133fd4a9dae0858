-- What the inner functions of a move of load ask of the book.
use Rattle.std.specs.Prelude.{◌≡◌, List, ℕ, ◌≤◌, ◌<◌}
use Rattle.answer.specs.Answer.{Accepted}
use Rattle.layout.specs.Book.{size}
use Rattle.layout.specs.Layout.{buses_in}
use Rattle.layout.specs.Check.{check_of}
use Rattle.transfer.specs.Promise.{risen, fallen}

-- Two buses of an accepted book.
pub record TwoBuses (bs : List ℕ) (up down : ℕ) : Type 0 where
  pub book : check_of bs ≡ Accepted
  pub up_there : up < buses_in bs
  pub down_there : down < buses_in bs

-- And kw that keeps both injections within their range.
pub record Shiftable (bs : List ℕ) (up down kw : ℕ) : Type 0 where
  pub buses : TwoBuses bs up down
  pub rises : size (risen bs up kw) ≤ 1000000
  pub falls : size (fallen bs down kw) ≤ 1000000
