-- Where the fields of a book stand, what they say, and the bytes of a book.
use Rattle.std.specs.Prelude.{List, [], ◌∷◌, ◌++◌, ℕ, ◌+◌, ◌-◌, ◌/◌, eqb, ℤ, replicate}
use Rattle.rows.specs.Row.{nth, up_to}
use Rattle.rows.specs.Sum.{pick}
use Rattle.quantity.specs.Signed.{is_neg, of_size}
use Rattle.bits.specs.Field.{field}
use Rattle.bits.specs.Fields.{total, reads, puts, place, item, put_items}
use Rattle.layout.specs.declared.Form.{Form}
use Rattle.layout.specs.declared.Branch.{Branch}
use Rattle.layout.specs.Form.{form_of, form_bit, branch_widths, branch_values, branch_of}
use Rattle.layout.specs.Book.{Book, buses, count, injection, branch, size}

-- The widths of the fields: bus count, branch count, power factor, layout, four zero bits; sign, size. Those of a branch are its form's.
abbrev pub head_widths : List ℕ
head_widths = 8 ∷ 9 ∷ 10 ∷ 1 ∷ 4 ∷ []

abbrev pub bus_widths : List ℕ
bus_widths = 1 ∷ 20 ∷ []

-- The first bit of the buses, and of the branches after n buses.
abbrev pub bus_start : ℕ
bus_start = total head_widths

abbrev pub branch_start : ℕ → ℕ
branch_start n = place bus_widths bus_start n

-- Bits and bytes of n buses and m branches in form f: zero bits fill the last byte.
abbrev pub bits_for : Form → ℕ → ℕ → ℕ
bits_for f n m = place (branch_widths f) (branch_start n) m

abbrev pub bytes_for : Form → ℕ → ℕ → ℕ
bytes_for f n m = (bits_for f n m + 7) / 8

-- ---- what the bytes say

abbrev pub buses_in : List ℕ → ℕ
buses_in bs = nth (reads bs 0 head_widths) 0

abbrev pub branches_in : List ℕ → ℕ
branches_in bs = nth (reads bs 0 head_widths) 1

abbrev pub factor_in : List ℕ → ℕ
factor_in bs = nth (reads bs 0 head_widths) 2

-- A book says which form it is in.
abbrev pub form_in : List ℕ → Form
form_in bs = form_of (nth (reads bs 0 head_widths) 3)

abbrev pub spare_in : List ℕ → ℕ
spare_in bs = nth (reads bs 0 head_widths) 4

abbrev pub bus_at : List ℕ → ℕ → List ℕ
bus_at bs k = item bus_widths bs bus_start k

abbrev pub injection_of : List ℕ → ℤ
injection_of vs = of_size (eqb (nth vs 0) 1) (nth vs 1)

abbrev pub injection_at : List ℕ → ℕ → ℤ
injection_at bs k = injection_of (bus_at bs k)

-- Branch k in form f after n buses, and in the book's own form after its own buses.
abbrev pub branch_after : Form → ℕ → List ℕ → ℕ → Branch
branch_after f n bs k = branch_of f (nth (item (branch_widths f) bs (branch_start n) k))

abbrev pub branch_at : List ℕ → ℕ → Branch
branch_at bs k = branch_after (form_in bs) (buses_in bs) bs k

-- The bit of branch k's status: the last of the branch.
abbrev pub status_bit : List ℕ → ℕ → ℕ
status_bit bs k = bits_for (form_in bs) (buses_in bs) k + (total (branch_widths (form_in bs)) - 1)

-- The bits after the last field. There are at most seven in the last byte, and past it every bit reads 0.
abbrev pub tail_in : List ℕ → ℕ
tail_in bs = field bs (bits_for (form_in bs) (buses_in bs) (branches_in bs)) 7

unfoldable pub book_of : List ℕ → Book
book_of bs = record {
  form = form_in bs;
  factor = factor_in bs;
  injections = up_to (buses_in bs) (injection_at bs);
  branches = up_to (branches_in bs) (branch_at bs);
}

-- ---- the bytes of a book

abbrev pub head_values : Book → List ℕ
head_values b = buses b ∷ count b ∷ b.factor ∷ form_bit b.form ∷ 0 ∷ []

abbrev pub bus_values : ℤ → List ℕ
bus_values z = pick (is_neg z) 1 ∷ size z ∷ []

-- The bytes with both fields of bus k made those of the injection z: sign 1 where it is negative, so never with size 0.
abbrev pub put_injection : List ℕ → ℕ → ℤ → List ℕ
put_injection bs k z = puts bs (place bus_widths bus_start k) bus_widths (bus_values z)

-- The bytes with these fields of the header, of n buses and of m branches of widths ws.
unfoldable pub packed : List ℕ → List ℕ → (ℕ → List ℕ) → ℕ → (ℕ → List ℕ) → ℕ → List ℕ
packed ws head bus n branch m =
    put_items ws
    (put_items bus_widths
    (puts (replicate ((place ws (branch_start n) m + 7) / 8) 0) 0 head_widths head)
    bus_start bus n)
    (branch_start n) branch m

unfoldable pub encode : Book → List ℕ
encode b =
    packed (branch_widths b.form) (head_values b) (λ k. bus_values (injection b k)) (buses b) (λ k. branch_values b.form (branch b k)) (count b)

-- The table beside the book: four or five numbers a branch.
abbrev pub table_of : Form → List Branch → List ℕ
table_of f [] = []
table_of f (x ∷ xs) = branch_values f x ++ table_of f xs
