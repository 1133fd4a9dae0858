-- The order of a move's refusals, and ratings that differ on the last branch alone, by computation.
use mathlib.Core.Path.{◌≡◌, refl}
use mathlib.Core.List.{List, [], ◌∷◌}
use Prim.Native.Nat.{ℕ}
use Rattle.rows.specs.Row.{up_to, some}
use Rattle.rows.specs.Bit.{bit_at}
use Rattle.rows.specs.Sum.{over}
use Rattle.answer.specs.declared.Refusal.TheVariants.{TooShort, RatingsLost}
use Rattle.answer.specs.Answer.{Accepted, refused}
use Rattle.bits.specs.Field.{field}
use Rattle.layout.specs.declared.Form.TheVariants.{Old, New}
use Rattle.layout.specs.Fault.{bus_fault, branch_fault, first_fault}
use Rattle.layout.specs.Layout.{book_of}
use Rattle.layout.specs.Check.{check_of}
use Rattle.layout.proofs.Examples.{triangle_up}
use Rattle.forms.specs.Move.{move_check}

-- Document 01's triangle in the new form, with a second rating of 31 on its last branch alone.
abbrev pub triangle_two : List ℕ
triangle_two =
    3 ∷ 1 ∷ 253 ∷ 16 ∷ 0 ∷ 0 ∷ 244 ∷ 0 ∷ 2 ∷ 160 ∷ 0 ∷ 40 ∷ 0 ∷ 8 ∷ 0 ∷ 20 ∷ 0 ∷ 1 ∷ 68 ∷ 0 ∷ 32 ∷ 0 ∷ 40 ∷ 0 ∷ 2 ∷ 136 ∷ 16 ∷ 64 ∷ 0 ∷ 60 ∷ 0 ∷ 3 ∷ 240 ∷ []

-- 18 before 8: no byte is lent, and the ratings of the last branch alone differ.
eighteen_first : move_check triangle_two Old 0 ≡ refused RatingsLost
unfolding move_check check_of book_of first_fault bus_fault branch_fault over up_to some field bit_at
eighteen_first = refl

-- In its own form it can stay: 8 where a byte is missing, and accepted with 33.
no_room : move_check triangle_two New 32 ≡ refused TooShort
unfolding move_check check_of book_of first_fault bus_fault branch_fault over up_to some field bit_at
no_room = refl

room : move_check triangle_two New 33 ≡ Accepted
unfolding move_check check_of book_of first_fault bus_fault branch_fault over up_to some field bit_at
room = refl

-- With equal ratings it moves down, into 25 bytes.
down : move_check triangle_up Old 25 ≡ Accepted
unfolding move_check check_of book_of first_fault bus_fault branch_fault over up_to some field bit_at
down = refl

down_no_room : move_check triangle_up Old 24 ≡ refused TooShort
unfolding move_check check_of book_of first_fault bus_fault branch_fault over up_to some field bit_at
down_no_room = refl
