-- Which numbers the tests of a book may give.
use mathlib.Core.Path.{refl}
use mathlib.Core.Bool.{not}
use mathlib.Core.List.{List}
use Prim.Native.Nat.{ℕ}
use lib.Dec.{ltb, eqb}
use lib.ListN.{length}
use Rattle.rows.specs.Row.{member}
use Rattle.answer.specs.declared.Refusal.TheVariants.{WrongLength, CountsOutside, HeaderFill, BusWrong, BranchWrong, TailFill, NotBalanced}
use Rattle.answer.specs.Answer.{Accepted}
use Rattle.answer.proofs.Giving.{Gives}
use Rattle.answer.proofs.Numbers.{gives_if, gives_at, gives_then}
use Rattle.layout.specs.Fault.{first_fault}
use Rattle.layout.specs.Layout.{bytes_for, buses_in, branches_in, factor_in, form_in, spare_in, injection_at, tail_in}
use Rattle.layout.specs.Check.{outside, balances, bus_fault_at, branch_fault_at, head_check, body_check, check_of, check_numbers}

pub check_gives : (bs : List ℕ) → Gives check_numbers (check_of bs)
unfolding check_of member
check_gives bs =
    gives_then check_numbers (head_check bs) (body_check bs)
    (gives_if check_numbers (ltb (length bs) 4) WrongLength _ refl
    (gives_if check_numbers (outside (buses_in bs) (branches_in bs) (factor_in bs)) CountsOutside _ refl
    (gives_if check_numbers (not (eqb (spare_in bs) 0)) HeaderFill _ refl
    (gives_if check_numbers (not (eqb (length bs) (bytes_for (form_in bs) (buses_in bs) (branches_in bs)))) WrongLength Accepted refl tt))))
    (gives_at check_numbers (first_fault (bus_fault_at bs) (buses_in bs)) BusWrong _ (λ at. refl)
    (gives_at check_numbers (first_fault (branch_fault_at bs) (branches_in bs)) BranchWrong _ (λ at. refl)
    (gives_if check_numbers (not (eqb (tail_in bs) 0)) TailFill _ refl
    (gives_if check_numbers (not (balances (buses_in bs) (injection_at bs))) NotBalanced Accepted refl tt))))
