-- What moving a book to a form promises.
use Rattle.std.specs.Prelude.{◌≡◌, Bool, false, not, List, ◌∷◌, ◌++◌, ℕ, ltb, eqb, length, drop}
use Rattle.rows.specs.Row.{some}
use Rattle.answer.specs.declared.Refusal.TheVariants.{TooShort, RatingsLost}
use Rattle.answer.specs.Answer.{Answer, Accepted, SaidBy, and_then, refuse_if, settled}
use Rattle.bits.specs.Field.{Bytes}
use Rattle.layout.specs.declared.Form.{Form}
use Rattle.layout.specs.declared.Form.TheVariants.{Old, New}
use Rattle.layout.specs.declared.Branch.{Branch}
use Rattle.layout.specs.Book.{Book, count, branch, in_form}
use Rattle.layout.specs.Layout.{bytes_for, buses_in, branches_in, book_of, encode}
use Rattle.layout.specs.Check.{check_of, check_numbers}

-- The two ratings of a branch differ; those of some branch do.
abbrev pub differs : Branch → Bool
differs x = not (eqb x.kva.0 x.kva2.0)

abbrev pub ratings_differ : Book → Bool
ratings_differ b = some (count b) (λ k. differs (branch b k))

-- The old form has no place for a second rating.
abbrev pub would_lose : Form → Bool → Bool
would_lose Old t = t
would_lose New t = false

-- Refusals of a move: the book's, then 18 where the old form is asked for and the ratings of some branch differ, then 8 where the output is
-- too short.
unfoldable pub move_check : List ℕ → Form → ℕ → Answer
move_check bs f room =
    and_then (check_of bs)
    (refuse_if (would_lose f (ratings_differ (book_of bs))) RatingsLost
    (refuse_if (ltb room (bytes_for f (buses_in bs) (branches_in bs))) TooShort
    Accepted))

abbrev pub move_numbers : List ℕ
move_numbers = 18 ∷ 8 ∷ check_numbers

-- The answer to moving bs to form f into lent bytes, and every byte that these then hold.
pub record BookMoved (bs : List ℕ) (f : Form) (out out' : List ℕ) (r : Answer) : Type 0 where
  pub bytes : Bytes bs
  pub answer : SaidBy (move_check bs f (length out)) r
  pub left : out'
      ≡ settled (move_check bs f (length out)) out (encode (in_form f (book_of bs)) ++ drop (bytes_for f (buses_in bs) (branches_in bs)) out)
