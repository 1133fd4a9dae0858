-- Refusals 1 to 7 of a book in document 01's order, and what a book decodes to.
use Rattle.std.specs.Prelude.{Bool, not, ◌||◌, List, [], ◌∷◌, ℕ, ltb, eqb, ℤ, length, Option, Ok, Err}
use Rattle.rows.specs.Row.{nth}
use Rattle.rows.specs.Sum.{all, over}
use Rattle.answer.specs.declared.Place.{Place}
use Rattle.answer.specs.declared.Refusal.TheVariants.{WrongLength, CountsOutside, HeaderFill, BusWrong, BranchWrong, TailFill, NotBalanced}
use Rattle.answer.specs.Answer.{Answer, Accepted, number, place, and_then, refuse_at, refuse_if}
use Rattle.quantity.specs.Signed.{pos_part, neg_part}
use Rattle.layout.specs.Fault.{bus_fault, branch_fault, first_fault}
use Rattle.layout.specs.Book.{Book}
use Rattle.layout.specs.Layout.{bytes_for, buses_in, branches_in, factor_in, form_in, spare_in, bus_at, injection_at, branch_at, tail_in, book_of}

-- A count or the power factor is outside its range.
abbrev pub outside : ℕ → ℕ → ℕ → Bool
outside n m factor = ltb n 1 || (ltb 128 n || (ltb 256 m || (ltb factor 1 || ltb 1000 factor)))

-- What enters over n buses is what leaves.
abbrev pub balances : ℕ → (ℕ → ℤ) → Bool
balances n h = eqb (over n all (λ k. pos_part (h k))) (over n all (λ k. neg_part (h k)))

abbrev pub bus_fault_at : List ℕ → ℕ → ℕ
bus_fault_at bs k = bus_fault (nth (bus_at bs k) 0) (nth (bus_at bs k) 1)

abbrev pub branch_fault_at : List ℕ → ℕ → ℕ
branch_fault_at bs k = branch_fault (form_in bs) (buses_in bs) (branch_at bs k)

abbrev pub head_check : List ℕ → Answer
head_check bs =
    refuse_if (ltb (length bs) 4) WrongLength
    (refuse_if (outside (buses_in bs) (branches_in bs) (factor_in bs)) CountsOutside
    (refuse_if (not (eqb (spare_in bs) 0)) HeaderFill
    (refuse_if (not (eqb (length bs) (bytes_for (form_in bs) (buses_in bs) (branches_in bs)))) WrongLength
    Accepted)))

abbrev pub body_check : List ℕ → Answer
body_check bs =
    refuse_at (first_fault (bus_fault_at bs) (buses_in bs)) BusWrong
    (refuse_at (first_fault (branch_fault_at bs) (branches_in bs)) BranchWrong
    (refuse_if (not (eqb (tail_in bs) 0)) TailFill
    (refuse_if (not (balances (buses_in bs) (injection_at bs))) NotBalanced
    Accepted)))

unfoldable pub check_of : List ℕ → Answer
check_of bs = and_then (head_check bs) (body_check bs)

abbrev pub check_numbers : List ℕ
check_numbers = 1 ∷ 2 ∷ 3 ∷ 4 ∷ 5 ∷ 6 ∷ 7 ∷ []

-- A book, or the number of the refusal and its place.
pub data Decoded : Type 0 where
  book : Book → Decoded
  refused : ℕ → Option Place → Decoded

abbrev pub decided : Answer → Book → Decoded
decided (Ok _) b = book b
decided (Err why) b = refused (number why) (place why)

unfoldable pub decode : List ℕ → Decoded
decode bs = decided (check_of bs) (book_of bs)
