-- What reading a packed book promises.
use Rattle.std.specs.Prelude.{◌≡◌, ◌||◌, List, [], ◌∷◌, ◌++◌, ℕ, ◌*◌, ltb, ℤ, length, drop}
use Rattle.answer.specs.declared.Refusal.TheVariants.{TooShort}
use Rattle.answer.specs.Answer.{Answer, Accepted, SaidBy, and_then, refuse_if, settled}
use Rattle.bits.specs.Field.{Bytes}
use Rattle.layout.specs.Form.{fields}
use Rattle.layout.specs.Layout.{buses_in, branches_in, form_in, book_of, table_of}
use Rattle.layout.specs.Check.{check_of}

-- Refusals of the reader: the book's, then 8 where a lent table is too short for the book's form.
unfoldable pub read_check : List ℕ → ℕ → ℕ → Answer
read_check bs i j = and_then (check_of bs) (refuse_if (ltb i (buses_in bs) || ltb j (fields (form_in bs) * branches_in bs)) TooShort Accepted)

abbrev pub read_numbers : List ℕ
read_numbers = 1 ∷ 2 ∷ 3 ∷ 4 ∷ 5 ∷ 6 ∷ 7 ∷ 8 ∷ []

-- The answer to reading bs into two lent tables, and every number that the tables then hold: four or five a branch, by the book's own form.
pub record BookRead (bs : List ℕ) (injections injections' : List ℤ) (branches branches' : List ℕ) (r : Answer) : Type 0 where
  pub bytes : Bytes bs
  pub answer : SaidBy (read_check bs (length injections) (length branches)) r
  pub injections_left : injections'
      ≡ settled (read_check bs (length injections) (length branches)) injections ((book_of bs).injections ++ drop (buses_in bs) injections)
  pub branches_left : branches'
      ≡ settled (read_check bs (length injections) (length branches)) branches
      (table_of (form_in bs) (book_of bs).branches ++ drop (fields (form_in bs) * branches_in bs) branches)
