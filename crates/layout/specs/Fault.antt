-- Faults of buses and branches: the field at fault of one item, and the place of the first fault of many.
use Rattle.std.specs.Prelude.{Bool, true, false, ◌&&◌, ℕ, zero, suc, ltb, leb, eqb, Option, Some, None}
use Rattle.answer.specs.declared.Place.{Place}
use Rattle.answer.specs.Answer.{At, Nowhere}
use Rattle.layout.specs.declared.Form.{Form}
use Rattle.layout.specs.declared.Branch.{Branch}
use Rattle.layout.specs.Form.{fields}

-- Fields are numbered from 1, and 0 is no fault.
abbrev pub fault_if : Bool → ℕ → ℕ → ℕ
fault_if true field next = field
fault_if false field next = next

-- The size is above 1,000,000; or it is a minus zero, which is the size's fault.
unfoldable pub bus_fault : ℕ → ℕ → ℕ
bus_fault sign size = fault_if (ltb 1000000 size) 2 (fault_if (eqb sign 1 && eqb size 0) 2 0)

-- A bus not below the bus count; both ends equal, which is the second bus's fault; kVA above 1,000,000; a second kVA below the first or above
-- 1,000,000; status above 1, which is the last field of its form.
unfoldable pub branch_fault : Form → ℕ → Branch → ℕ
branch_fault f n x =
    fault_if (leb n x.first) 1
    (fault_if (leb n x.second) 2
    (fault_if (eqb x.first x.second) 2
    (fault_if (ltb 1000000 x.kva.0) 3
    (fault_if (ltb x.kva2.0 x.kva.0) 4
    (fault_if (ltb 1000000 x.kva2.0) 4
    (fault_if (ltb 1 x.status) (fields f)
    0))))))

abbrev pub fault_at : ℕ → ℕ → Option Place
fault_at item zero = Nowhere
fault_at item (suc field) = At item (suc field)

-- The same of one item alone.
abbrev pub field_at : ℕ → Option ℕ
field_at zero = None
field_at (suc field) = Some (suc field)

abbrev pub or_else : Option Place → Option Place → Option Place
or_else None next = next
or_else (Some at) next = Some at

-- The first fault of items 0, 1, .., n - 1: the first offending item, and in it the first offending field.
unfoldable pub first_fault : (ℕ → ℕ) → ℕ → Option Place
first_fault f zero = Nowhere
first_fault f (suc n) = or_else (first_fault f n) (fault_at n (f n))
