-- The two forms of a book: what a branch has in each.
use Rattle.std.specs.Prelude.{cond, List, [], ◌∷◌, ℕ, ◌-◌, eqb, length}
use Rattle.quantity.specs.Rating.{in_kva}
use Rattle.layout.specs.declared.Form.{Form}
use Rattle.layout.specs.declared.Form.TheVariants.{Old, New}
use Rattle.layout.specs.declared.Branch.{Branch}

-- The layout bit of the header: 1 is new.
abbrev pub form_of : ℕ → Form
form_of bit = cond (eqb bit 1) New Old

abbrev pub form_bit : Form → ℕ
form_bit Old = 0
form_bit New = 1

-- All that differs: the new form has x before the rest.
abbrev pub in_new : {A : Type 0} → Form → A → List A → List A
in_new Old x rest = rest
in_new New x rest = x ∷ rest

-- The widths of a branch's fields: first bus, second bus, kVA, in the new form a second kVA, status.
abbrev pub branch_widths : Form → List ℕ
branch_widths f = 7 ∷ 7 ∷ 20 ∷ in_new f 20 (1 ∷ [])

-- So many numbers a branch: four, or five.
abbrev pub fields : Form → ℕ
fields f = length (branch_widths f)

abbrev pub branch_values : Form → Branch → List ℕ
branch_values f x = x.first ∷ x.second ∷ x.kva.0 ∷ in_new f x.kva2.0 (x.status ∷ [])

-- A branch of its numbers: the status is the last, and the second kVA the one before it, which in the old form is the first kVA.
abbrev pub branch_of : Form → (ℕ → ℕ) → Branch
branch_of f v = record { first = v 0; second = v 1; kva = in_kva (v 2); kva2 = in_kva (v (fields f - 2)); status = v (fields f - 1) }
