-- The order of the writer's refusals, by computation.
use mathlib.Core.Path.{◌≡◌, refl}
use mathlib.Core.List.{[], ◌∷◌}
use lib.IntN.{pos, negsuc}
use Rattle.answer.specs.declared.Refusal.TheVariants.{CountsOutside, BusWrong, BranchWrong, NotBalanced, TooShort}
use Rattle.answer.specs.Answer.{Accepted, refused}
use Rattle.rows.specs.Sum.{over}
use Rattle.layout.specs.declared.Form.TheVariants.{Old, New}
use Rattle.layout.specs.Fault.{bus_fault, branch_fault, first_fault}
use Rattle.pack.specs.Write.{write_check}

-- No bus, before source tables that are too short.
no_bus : write_check Old 0 1 1000 [] [] 0 ≡ refused CountsOutside
unfolding write_check
no_bus = refl

-- A source table that is too short, before an injection that is too large.
few_numbers : write_check Old 1 1 1000 (pos 1000001 ∷ []) (0 ∷ 0 ∷ 0 ∷ []) 0 ≡ refused TooShort
unfolding write_check
few_numbers = refl

-- The least number of 32 bits, before a status of 2: the size of bus 0.
least_number : write_check Old 2 1 1000 (negsuc 2147483647 ∷ pos 0 ∷ []) (0 ∷ 1 ∷ 0 ∷ 2 ∷ []) 0 ≡ refused (BusWrong (record { item = 0; field = 2 }))
unfolding write_check first_fault bus_fault
least_number = refl

-- A status of 2, before a sum of 1 kW: the fourth field of an old branch, and the fifth of a new one.
status_two : write_check Old 2 1 1000 (pos 1 ∷ pos 0 ∷ []) (0 ∷ 1 ∷ 0 ∷ 2 ∷ []) 0 ≡ refused (BranchWrong (record { item = 0; field = 4 }))
unfolding write_check first_fault bus_fault branch_fault
status_two = refl

new_status_two : write_check New 2 1 1000 (pos 1 ∷ pos 0 ∷ []) (0 ∷ 1 ∷ 0 ∷ 0 ∷ 2 ∷ []) 0 ≡ refused (BranchWrong (record { item = 0; field = 5 }))
unfolding write_check first_fault bus_fault branch_fault
new_status_two = refl

-- A sum of 1 kW, before an output that is too short.
not_balanced : write_check Old 1 0 1000 (pos 1 ∷ []) [] 0 ≡ refused NotBalanced
unfolding write_check first_fault bus_fault over
not_balanced = refl

-- 53 bits need 7 bytes.
no_room : write_check Old 1 0 1000 (pos 0 ∷ []) [] 6 ≡ refused TooShort
unfolding write_check first_fault bus_fault over
no_room = refl

room : write_check Old 1 0 1000 (pos 0 ∷ []) [] 7 ≡ Accepted
unfolding write_check first_fault bus_fault over
room = refl

-- In the new form four numbers are too few for a branch; a second rating below the first, before a sum of 1 kW; and 129 bits need 17 bytes.
new_few_numbers : write_check New 2 1 1000 (pos 0 ∷ pos 0 ∷ []) (0 ∷ 1 ∷ 5 ∷ 1 ∷ []) 20 ≡ refused TooShort
unfolding write_check
new_few_numbers = refl

new_below : write_check New 2 1 1000 (pos 1 ∷ pos 0 ∷ []) (0 ∷ 1 ∷ 5 ∷ 4 ∷ 1 ∷ []) 20 ≡ refused (BranchWrong (record { item = 0; field = 4 }))
unfolding write_check first_fault bus_fault branch_fault
new_below = refl

new_no_room : write_check New 2 1 1000 (pos 0 ∷ pos 0 ∷ []) (0 ∷ 1 ∷ 5 ∷ 6 ∷ 1 ∷ []) 16 ≡ refused TooShort
unfolding write_check first_fault bus_fault branch_fault over
new_no_room = refl

new_room : write_check New 2 1 1000 (pos 0 ∷ pos 0 ∷ []) (0 ∷ 1 ∷ 5 ∷ 6 ∷ 1 ∷ []) 17 ≡ Accepted
unfolding write_check first_fault bus_fault branch_fault over
new_room = refl
