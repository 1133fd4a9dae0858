-- Which numbers the meters may give; so the answer says document 01's number, and follows from it.
use mathlib.Core.Path.{◌≡◌, refl}
use mathlib.Core.Bool.{not}
use mathlib.Core.List.{List}
use Prim.Native.Nat.{ℕ}
use lib.Dec.{ltb, leb, eqb}
use lib.IntN.{ℤ, nat_abs}
use lib.ListN.{length}
use Rattle.rows.specs.Row.{member, some}
use Rattle.answer.specs.declared.Refusal.TheVariants.{ListsUneven, NoSuchSupply, AdvanceTooFar, SupplyOutside}
use Rattle.answer.specs.Answer.{Answer, Accepted, Nowhere, SaidBy, place_of}
use Rattle.answer.proofs.Giving.{Gives}
use Rattle.answer.proofs.Numbers.{gives_if, gives_then, gives_nowhere, gives_said, said_is}
use Rattle.meters.specs.Registers.{Registers, buses, supplied, shape, too_far, answer_to}
use Rattle.meters.specs.Promise.{meter_numbers, Metered}

pub meter_gives : (R : Registers) (room : ℕ) → Gives meter_numbers (answer_to R room)
unfolding answer_to member
meter_gives R room =
    gives_then meter_numbers (shape R room) _
    (gives_if meter_numbers (not (eqb (length R.import_end) (buses R))) ListsUneven _ refl
    (gives_if meter_numbers (not (eqb (length R.export_start) (buses R))) ListsUneven _ refl
    (gives_if meter_numbers (not (eqb (length R.export_end) (buses R))) ListsUneven _ refl
    (gives_if meter_numbers (ltb (buses R) 1) ListsUneven _ refl
    (gives_if meter_numbers (ltb 128 (buses R)) ListsUneven _ refl
    (gives_if meter_numbers (ltb room (buses R)) ListsUneven Accepted refl tt))))))
    (gives_if meter_numbers (leb (buses R) R.supply) NoSuchSupply _ refl
    (gives_if meter_numbers (some (buses R) (too_far R)) AdvanceTooFar _ refl
    (gives_if meter_numbers (ltb 1000000 (nat_abs (supplied R))) SupplyOutside Accepted refl tt)))

module _ (R : Registers) where
  pub meter_said : (room : ℕ) {r : Answer} → r ≡ (answer_to R room) → SaidBy (answer_to R room) r
  unfolding member
  meter_said room = gives_said meter_numbers (answer_to R room) refl (meter_gives R room)

  -- Readings have no place in a book.
  pub meter_nowhere : (room : ℕ) → place_of (answer_to R room) ≡ Nowhere
  unfolding member
  meter_nowhere room = gives_nowhere meter_numbers (answer_to R room) refl refl (meter_gives R room)

  pub meter_answer : {out out' : List ℤ} {r : Answer} → Metered R out out' r → r ≡ (answer_to R (length out))
  unfolding member
  meter_answer {out} d = said_is meter_numbers _ refl (meter_gives R (length out)) d.answer
