-- What a public call answers: the papers' number, shortage and group, where a book is wrong, and ordered refusals.
use Rattle.std.specs.Prelude.{◌≡◌, Bool, true, false, List, [], ◌∷◌, ℕ, replicate, Option, Some, None, Result, Ok, Err}
use Rattle.answer.specs.declared.Place.{Place}
use Rattle.answer.specs.declared.Reply.{Reply}
use Rattle.answer.specs.declared.Refusal.{Refusal}
use Rattle.answer.specs.declared.Refusal.TheVariants.{WrongLength, CountsOutside, HeaderFill, BusWrong, BranchWrong, TailFill, NotBalanced, TooShort, NoSuchBranch, AlreadyOut, FlowUnfit, Overloaded, ListsUneven, NoSuchSupply, AdvanceTooFar, SupplyOutside, AlreadyIn, RatingsLost, NoTwoBuses, InjectionOutside, PercentOutside}

-- Accepted, or why not.
abbrev pub Answer : Type 0
Answer = Result Unit Refusal

abbrev pub Accepted : Answer
Accepted = Ok tt

-- The papers' number of each reason, and of each answer: 0 where the call was accepted.
abbrev pub number : Refusal → ℕ
number WrongLength = 1
number CountsOutside = 2
number HeaderFill = 3
number (BusWrong at) = 4
number (BranchWrong at) = 5
number TailFill = 6
number NotBalanced = 7
number TooShort = 8
number NoSuchBranch = 9
number AlreadyOut = 10
number FlowUnfit = 11
number (Overloaded kw group) = 12
number ListsUneven = 13
number NoSuchSupply = 14
number AdvanceTooFar = 15
number SupplyOutside = 16
number AlreadyIn = 17
number RatingsLost = 18
number NoTwoBuses = 19
number InjectionOutside = 20
number PercentOutside = 21

abbrev pub number_of : Answer → ℕ
number_of (Ok _) = 0
number_of (Err why) = number why

-- The kW and the group of 12. All others carry shortage 0 and an empty group.
abbrev pub no_group : List ℕ
no_group = replicate 16 0

abbrev pub shortage : Refusal → ℕ
shortage (Overloaded kw group) = kw
shortage why = 0

abbrev pub group : Refusal → List ℕ
group (Overloaded kw bytes) = bytes
group why = no_group

abbrev pub shortage_of : Answer → ℕ
shortage_of (Ok _) = 0
shortage_of (Err why) = shortage why

abbrev pub group_of : Answer → List ℕ
group_of (Ok _) = no_group
group_of (Err why) = group why

-- Document 02's place of a refusal: the first offending bus or branch and which field it was. Only 4 and 5 have one.
abbrev pub Nowhere : Option Place
Nowhere = None

abbrev pub At : ℕ → ℕ → Option Place
At i j = Some (record { item = i; field = j })

abbrev pub place : Refusal → Option Place
place (BusWrong at) = Some at
place (BranchWrong at) = Some at
place why = None

abbrev pub place_of : Answer → Option Place
place_of (Ok _) = None
place_of (Err why) = place why

-- The numbers of the refusals that carry a place.
abbrev pub placed : List ℕ
placed = 4 ∷ 5 ∷ []

-- A place in two numbers: both are 0 where there is none.
abbrev pub item_of : Option Place → ℕ
item_of None = 0
item_of (Some at) = at.item

abbrev pub field_of : Option Place → ℕ
field_of None = 0
field_of (Some at) = at.field

-- An answer in its parts, as a line or a caller in C is told it.
abbrev pub reply : Answer → Reply
reply r = record { number = number_of r; shortage = shortage_of r; group = group_of r; place = place_of r }

-- What the papers say of an answer: its number, shortage, group bytes and place. Two answers of which the same is said are equal.
pub record Said (r : Answer) (said kw : ℕ) (bytes : List ℕ) (at : Option Place) : Type 0 where
  pub number_is : number_of r ≡ said
  pub shortage_is : shortage_of r ≡ kw
  pub group_is : group_of r ≡ bytes
  pub place_is : place_of r ≡ at

-- All but 12 carry shortage 0 and an empty group: then a check's number and place are all that is said.
abbrev pub SaidBy : Answer → Answer → Type 0
SaidBy o r = Said r (number_of o) 0 no_group (place_of o)

abbrev pub refused : Refusal → Answer
refused why = Err why

abbrev pub overloaded : ℕ → List ℕ → Answer
overloaded kw bytes = Err (Overloaded kw bytes)

-- Refusals in order: the first that holds is given. What comes last may be accepted, or what a check found out.
abbrev pub refuse_if : {A : Type 0} → Bool → Refusal → Result A Refusal → Result A Refusal
refuse_if true why next = Err why
refuse_if false why next = next

-- The same of items one after another: refused at the first place that is wrong.
abbrev pub refuse_at : Option Place → (Place → Refusal) → Answer → Answer
refuse_at None why next = next
refuse_at (Some at) why next = Err (why at)

abbrev pub and_then : {A : Type 0} → Answer → Result A Refusal → Result A Refusal
and_then (Ok _) next = next
and_then (Err why) next = Err why

-- What lent memory holds after an answer: what is written where the call is accepted, and otherwise what it held.
abbrev pub settled : {A : Type 0} → Answer → List A → List A → List A
settled (Ok _) old new = new
settled (Err why) old new = old
