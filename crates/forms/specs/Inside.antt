-- What an inner function of the move asks: an accepted book with its header, and its exact room.
use Rattle.std.specs.Prelude.{◌≡◌, List, ℕ}
use Rattle.answer.specs.Answer.{Accepted}
use Rattle.layout.specs.declared.Form.{Form}
use Rattle.layout.specs.declared.Head.{Head}
use Rattle.layout.specs.Layout.{bytes_for}
use Rattle.layout.specs.Inside.{HeadRead}
use Rattle.layout.specs.Check.{check_of}

-- Room of exactly the length of the book in form f.
pub record Movable (bs : List ℕ) (h : Head) (f : Form) (room : ℕ) : Type 0 where
  pub head : HeadRead bs h
  pub book : check_of bs ≡ Accepted
  pub exact : room ≡ bytes_for f h.buses h.branches
