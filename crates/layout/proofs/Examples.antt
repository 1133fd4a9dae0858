-- Document 01's triangle book, and one book for each refusal, by computation.
use mathlib.Core.Path.{◌≡◌, refl}
use mathlib.Core.List.{List, [], ◌∷◌}
use Prim.Native.Nat.{ℕ}
use lib.IntN.{pos, negsuc}
use Rattle.rows.specs.Row.{up_to}
use Rattle.quantity.specs.Rating.{in_kva}
use Rattle.rows.specs.Bit.{bit_at}
use Rattle.rows.specs.Sum.{over}
use Rattle.bits.specs.Field.{field, with_bit, set_bit, put}
use Rattle.bits.specs.Fields.{put_items}
use Rattle.answer.specs.Answer.{At, Nowhere}
use Rattle.layout.specs.declared.Form.TheVariants.{Old, New}
use Rattle.layout.specs.declared.Branch.{Branch}
use Rattle.layout.specs.Book.{Book, in_form}
use Rattle.layout.specs.Fault.{bus_fault, branch_fault, first_fault}
use Rattle.layout.specs.Layout.{bytes_for, book_of, packed, encode}
use Rattle.layout.specs.Check.{check_of, decode, book, refused}

abbrev joins : ℕ → ℕ → ℕ → Branch
joins first second rating = record { first = first; second = second; kva = in_kva rating; kva2 = in_kva rating; status = 1 }

abbrev pub triangle : Book
triangle = record {
  form = Old;
  factor = 1000;
  injections = pos 30 ∷ negsuc 9 ∷ negsuc 19 ∷ [];
  branches = joins 0 1 40 ∷ joins 0 2 40 ∷ joins 1 2 30 ∷ [];
}

-- 03 01 FD 00 00 00 F4 00 02 A0 00 28 00 08 00 14 40 02 00 02 88 10 40 00 3D
abbrev pub triangle_bytes : List ℕ
triangle_bytes = 3 ∷ 1 ∷ 253 ∷ 0 ∷ 0 ∷ 0 ∷ 244 ∷ 0 ∷ 2 ∷ 160 ∷ 0 ∷ 40 ∷ 0 ∷ 8 ∷ 0 ∷ 20 ∷ 64 ∷ 2 ∷ 0 ∷ 2 ∷ 136 ∷ 16 ∷ 64 ∷ 0 ∷ 61 ∷ []

pub triangle_decodes : decode triangle_bytes ≡ book triangle
unfolding decode check_of book_of first_fault bus_fault branch_fault over up_to field bit_at
triangle_decodes = refl

pub triangle_encodes : encode triangle ≡ triangle_bytes
unfolding encode packed put_items put set_bit with_bit
triangle_encodes = refl

-- The same moved up, each branch with its kVA twice:
-- 03 01 FD 10 00 00 F4 00 02 A0 00 28 00 08 00 14 00 01 44 00 20 00 28 00 02 88 10 40 00 3C 00 03 D0
abbrev pub triangle_up : List ℕ
triangle_up = 3 ∷ 1 ∷ 253 ∷ 16 ∷ 0 ∷ 0 ∷ 244 ∷ 0 ∷ 2 ∷ 160 ∷ 0 ∷ 40 ∷ 0 ∷ 8 ∷ 0 ∷ 20 ∷ 0 ∷ 1 ∷ 68 ∷ 0 ∷ 32 ∷ 0 ∷ 40 ∷ 0 ∷ 2 ∷ 136 ∷ 16 ∷ 64 ∷ 0 ∷ 60 ∷ 0 ∷ 3 ∷ 208 ∷ []

triangle_moves_up : encode (in_form New triangle) ≡ triangle_up
unfolding encode packed put_items put set_bit with_bit
triangle_moves_up = refl

largest : (bytes_for Old 128 256 ≡ 1460) × (bytes_for New 128 256 ≡ 2100)
largest = (refl, refl)

-- ---- refusals

-- Under 4 bytes.
short : decode (3 ∷ 1 ∷ 253 ∷ []) ≡ refused 1 Nowhere
unfolding decode check_of
short = refl

-- No bus, before a header fill bit.
no_bus : decode (0 ∷ 0 ∷ 0 ∷ 33 ∷ []) ≡ refused 2 Nowhere
unfolding decode check_of field bit_at
no_bus = refl

-- A header fill bit, before the length. The first of the five of old is the layout bit: a new book without a branch has the old one's length.
header_fill : decode (1 ∷ 0 ∷ 125 ∷ 1 ∷ []) ≡ refused 3 Nowhere
unfolding decode check_of field bit_at
header_fill = refl

new_header_fill : decode (1 ∷ 0 ∷ 125 ∷ 17 ∷ []) ≡ refused 3 Nowhere
unfolding decode check_of field bit_at
new_header_fill = refl

new_book : decode (1 ∷ 0 ∷ 125 ∷ 16 ∷ 0 ∷ 0 ∷ 0 ∷ []) ≡ book (record { form = New; factor = 1000; injections = pos 0 ∷ []; branches = [] })
unfolding decode check_of book_of first_fault bus_fault over up_to field bit_at
new_book = refl

-- A byte too few, before a minus zero.
too_few : decode (1 ∷ 0 ∷ 125 ∷ 0 ∷ 128 ∷ 0 ∷ []) ≡ refused 1 Nowhere
unfolding decode check_of field bit_at
too_few = refl

-- A byte too many.
too_many : decode (1 ∷ 0 ∷ 125 ∷ 0 ∷ 0 ∷ 0 ∷ 0 ∷ 0 ∷ []) ≡ refused 1 Nowhere
unfolding decode check_of field bit_at
too_many = refl

-- One bus at minus zero, before a tail fill bit.
minus_zero : decode (1 ∷ 0 ∷ 125 ∷ 0 ∷ 128 ∷ 0 ∷ 1 ∷ []) ≡ refused 4 (At 0 2)
unfolding decode check_of first_fault bus_fault field bit_at
minus_zero = refl

-- A branch from bus 0 to bus 0, before a tail fill bit.
equal_ends : decode (2 ∷ 0 ∷ 253 ∷ 0 ∷ 0 ∷ 0 ∷ 0 ∷ 0 ∷ 0 ∷ 0 ∷ 0 ∷ 0 ∷ 0 ∷ 1 ∷ []) ≡ refused 5 (At 0 2)
unfolding decode check_of first_fault bus_fault branch_fault field bit_at
equal_ends = refl

-- Of several faults the first item's, and in it the first field's: bus 1 at minus zero, bus 2 too large; then a second branch of equal ends whose kVA
-- is too large, before a third that starts at no bus; and in the new form a second branch whose second kVA is below the first.
first_bus_at_fault : decode (3 ∷ 0 ∷ 125 ∷ 0 ∷ 0 ∷ 0 ∷ 4 ∷ 0 ∷ 0 ∷ 30 ∷ 132 ∷ 130 ∷ []) ≡ refused 4 (At 1 2)
unfolding decode check_of first_fault bus_fault field bit_at
first_bus_at_fault = refl

first_field_at_fault : decode (2 ∷ 1 ∷ 253 ∷ 0 ∷ 0 ∷ 0 ∷ 0 ∷ 0 ∷ 0 ∷ 0 ∷ 1 ∷ 0 ∷ 0 ∷ 88 ∷ 16 ∷ 63 ∷ 255 ∷ 255 ∷ 6 ∷ 0 ∷ 0 ∷ 1 ∷ 96 ∷ [])
    ≡ refused 5 (At 1 2)
unfolding decode check_of first_fault bus_fault branch_fault field bit_at
first_field_at_fault = refl

new_second_below : decode (2 ∷ 1 ∷ 125 ∷ 16 ∷ 0 ∷ 0 ∷ 0 ∷ 0 ∷ 0 ∷ 0 ∷ 1 ∷ 0 ∷ 0 ∷ 80 ∷ 0 ∷ 6 ∷ 128 ∷ 2 ∷ 0 ∷ 0 ∷ 160 ∷ 0 ∷ 9 ∷ [])
    ≡ refused 5 (At 1 4)
unfolding decode check_of first_fault bus_fault branch_fault field bit_at
new_second_below = refl

-- A tail fill bit, before a sum of 1 kW.
tail_fill : decode (1 ∷ 0 ∷ 125 ∷ 0 ∷ 0 ∷ 0 ∷ 9 ∷ []) ≡ refused 6 Nowhere
unfolding decode check_of first_fault bus_fault field bit_at
tail_fill = refl

-- A sum of 1 kW.
not_balanced : decode (1 ∷ 0 ∷ 125 ∷ 0 ∷ 0 ∷ 0 ∷ 8 ∷ []) ≡ refused 7 Nowhere
unfolding decode check_of first_fault bus_fault over field bit_at
not_balanced = refl
