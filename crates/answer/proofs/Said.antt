-- What is said of an answer: which answers say it, and that two that say the same are equal.
use mathlib.Core.Path.{◌≡◌, refl, sym, ◌∙◌}
use mathlib.Core.List.{List, [], ◌∷◌}
use Prim.Native.Nat.{ℕ}
use Rattle.std.specs.Prelude.{get_or, Option, Some, None, Ok, Err}
use Rattle.answer.specs.declared.Place.{Place}
use Rattle.answer.specs.declared.Refusal.{Refusal}
use Rattle.answer.specs.declared.Refusal.TheVariants.{WrongLength, CountsOutside, HeaderFill, BusWrong, BranchWrong, TailFill, NotBalanced, TooShort, NoSuchBranch, AlreadyOut, FlowUnfit, Overloaded, ListsUneven, NoSuchSupply, AdvanceTooFar, SupplyOutside, AlreadyIn, RatingsLost, NoTwoBuses, InjectionOutside, PercentOutside}
use Rattle.answer.specs.Answer.{Answer, Accepted, Nowhere, number, number_of, shortage_of, group_of, place_of, Said, SaidBy, refused, overloaded}

pub said_accepted : SaidBy Accepted Accepted
said_accepted = record { number_is = refl; shortage_is = refl; group_is = refl; place_is = refl }

-- Each reason but 12, by its number and place.
pub said_refused : (why : Refusal) → (number why ≡ 12 → ⊥) → SaidBy (refused why) (refused why)
said_refused (Overloaded kw bytes) t = absurd (t refl)
said_refused why t = record { number_is = refl; shortage_is = refl; group_is = refl; place_is = refl }

pub said_overloaded : (kw : ℕ) (bytes : List ℕ) → Said (overloaded kw bytes) 12 kw bytes Nowhere
said_overloaded kw bytes = record { number_is = refl; shortage_is = refl; group_is = refl; place_is = refl }

pub said_number : {r : Answer} {n v : ℕ} {g : List ℕ} {p : Option Place} → Said r n v g p → number_of r ≡ n
said_number s = s.number_is

-- A number, a shortage, a group and a place fix the answer: it is made of them again.
at_place : (Place → Refusal) → Option Place → Answer
at_place why None = Accepted
at_place why (Some at) = refused (why at)

again : ℕ → ℕ → List ℕ → Option Place → Answer
again n v g p =
    get_or
    (Accepted ∷ refused WrongLength ∷ refused CountsOutside ∷ refused HeaderFill ∷
    at_place BusWrong p ∷ at_place BranchWrong p ∷ refused TailFill ∷ refused NotBalanced ∷
    refused TooShort ∷ refused NoSuchBranch ∷ refused AlreadyOut ∷ refused FlowUnfit ∷
    overloaded v g ∷ refused ListsUneven ∷ refused NoSuchSupply ∷ refused AdvanceTooFar ∷
    refused SupplyOutside ∷ refused AlreadyIn ∷ refused RatingsLost ∷ refused NoTwoBuses ∷
    refused InjectionOutside ∷ refused PercentOutside ∷ [])
    n Accepted

made_again : (r : Answer) → again (number_of r) (shortage_of r) (group_of r) (place_of r) ≡ r
unfolding again at_place
made_again (Ok _) = refl
made_again (Err (BusWrong at)) = refl
made_again (Err why) = refl

pub said_same : {r s : Answer} {n v : ℕ} {g : List ℕ} {p : Option Place} → Said r n v g p → Said s n v g p → r ≡ s
said_same {r} {s} {n} {v} {g} {p} a b = sym (made r a) ∙ made s b
  where
    made : (t : Answer) → Said t n v g p → again n v g p ≡ t
    made t c = rw (sym c.number_is, sym c.shortage_is, sym c.group_is, sym c.place_is) (made_again t)
