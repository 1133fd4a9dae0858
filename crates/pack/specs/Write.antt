-- What writing a packed book promises.
use Rattle.std.specs.Prelude.{◌≡◌, not, ◌||◌, List, [], ◌∷◌, ◌++◌, ℕ, ◌+◌, ◌*◌, ltb, ℤ, pos, length, get_or, drop}
use Rattle.answer.specs.declared.Refusal.TheVariants.{CountsOutside, BusWrong, BranchWrong, NotBalanced, TooShort}
use Rattle.answer.specs.Answer.{Answer, Accepted, SaidBy, refuse_at, refuse_if, settled}
use Rattle.rows.specs.Row.{nth, up_to}
use Rattle.layout.specs.declared.Form.{Form}
use Rattle.layout.specs.declared.Branch.{Branch}
use Rattle.layout.specs.Form.{fields, branch_of}
use Rattle.layout.specs.Book.{Book}
use Rattle.layout.specs.Fault.{bus_fault, branch_fault, first_fault}
use Rattle.layout.specs.Layout.{bytes_for, bus_values, encode}
use Rattle.layout.specs.Rule.{Wrong}
use Rattle.layout.specs.Check.{outside, balances}

-- An injection and a branch of the tables beside a book.
abbrev pub entry : List ℤ → ℕ → ℤ
entry injections k = get_or injections k (pos 0)

abbrev pub row_at : Form → List ℕ → ℕ → Branch
row_at f branches k = branch_of f (λ i. nth branches (fields f * k + i))

-- The book in form f, of n buses and m branches, that the tables hold.
unfoldable pub book_from : Form → ℕ → ℕ → ℕ → List ℤ → List ℕ → Book
book_from f n m power injections branches = record {
  form = f;
  factor = power;
  injections = up_to n (entry injections);
  branches = up_to m (row_at f branches);
}

abbrev pub entry_fault : List ℤ → ℕ → ℕ
entry_fault injections k = bus_fault (nth (bus_values (entry injections k)) 0) (nth (bus_values (entry injections k)) 1)

abbrev pub row_fault : Form → ℕ → List ℕ → ℕ → ℕ
row_fault f n branches k = branch_fault f n (row_at f branches k)

-- The place of a refusal is right of the tables: an injection is tested as the bus that it would be in the book.
abbrev pub WrongTables : Form → ℕ → ℕ → List ℤ → List ℕ → ℕ → ℕ → ℕ → Type 0
WrongTables f n m injections branches number i j = Wrong f n m (λ k. bus_values (entry injections k)) (row_at f branches) number i j

-- Refusals of the writer: 2, then 8 for its source tables, then 4, 5, 7, then 8 for its output; how long these must be is by the form asked for.
unfoldable pub write_check : Form → ℕ → ℕ → ℕ → List ℤ → List ℕ → ℕ → Answer
write_check f n m factor injections branches room =
    refuse_if (outside n m factor) CountsOutside
    (refuse_if (ltb (length injections) n || ltb (length branches) (fields f * m)) TooShort
    (refuse_at (first_fault (entry_fault injections) n) BusWrong
    (refuse_at (first_fault (row_fault f n branches) m) BranchWrong
    (refuse_if (not (balances n (entry injections))) NotBalanced
    (refuse_if (ltb room (bytes_for f n m)) TooShort
    Accepted)))))

abbrev pub write_numbers : List ℕ
write_numbers = 2 ∷ 4 ∷ 5 ∷ 7 ∷ 8 ∷ []

-- The answer to writing the tables' book in form f into lent bytes, and every byte that these then hold.
pub record BookWritten (f : Form) (n m factor : ℕ) (injections : List ℤ) (branches out out' : List ℕ) (r : Answer) : Type 0 where
  pub answer : SaidBy (write_check f n m factor injections branches (length out)) r
  pub left : out'
      ≡ settled (write_check f n m factor injections branches (length out)) out
      (encode (book_from f n m factor injections branches) ++ drop (bytes_for f n m) out)
