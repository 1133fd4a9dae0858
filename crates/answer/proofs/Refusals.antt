-- Refusals in order: a chain that accepts passed every test, and one that doesn't stands.
use mathlib.Core.Path.{◌≡◌, refl, sym, ap, ◌∙◌}
use mathlib.Core.Bool.{Bool, true, false, false≢true}
use mathlib.Core.List.{List}
use Prim.Native.Nat.{ℕ}
use Rattle.std.specs.Prelude.{IsErr, IsErrAnd, Option, Some, None, Result, Ok, Err, ok_or}
use Rattle.answer.specs.declared.Place.{Place}
use Rattle.answer.specs.declared.Refusal.{Refusal}
use Rattle.answer.specs.Answer.{Answer, Accepted, Nowhere, At, place_of, refused, refuse_if, refuse_at, and_then, settled}

-- A chain that accepts passed its first test, and so does the rest of it.
pub past : (t : Bool) (why : Refusal) (next : Answer) → refuse_if t why next ≡ Accepted → (t ≡ false) × (next ≡ Accepted)
past true why next e = absurd (cc)
past false why next e = (refl, e)

pub past_at : (w : Option Place) (why : Place → Refusal) (next : Answer) → refuse_at w why next ≡ Accepted → (w ≡ Nowhere) × (next ≡ Accepted)
past_at None why next e = (refl, e)
past_at (Some at) why next e = absurd (cc)

pub past_both : (a b : Answer) → and_then a b ≡ Accepted → (a ≡ Accepted) × (b ≡ Accepted)
past_both (Ok _) b e = (refl, e)
past_both (Err why) b e = absurd (cc)

-- Tests alone have no place.
pub if_nowhere : (t : Bool) (why : Refusal) (next : Answer) → place_of (refused why) ≡ Nowhere → place_of next ≡ Nowhere → place_of (refuse_if t why next) ≡ Nowhere
if_nowhere true why next p e = p
if_nowhere false why next p e = e

pub then_nowhere : (o next : Answer) → place_of o ≡ Nowhere → place_of next ≡ Nowhere → place_of (and_then o next) ≡ Nowhere
then_nowhere (Ok _) next e f = f
then_nowhere (Err why) next e f = e

pub at_not_nowhere : {w : Option Place} {i j : ℕ} → w ≡ Nowhere → w ≡ At i j → ⊥
at_not_nowhere e f = cc

-- A place that a chain gives is that of the part that may have one.
pub placed_past : (t : Bool) (why : Refusal) (next : Answer) {i j : ℕ} → place_of (refused why) ≡ Nowhere → place_of (refuse_if t why next) ≡ At i j → refuse_if t why next ≡ next
placed_past true why next q p = absurd (at_not_nowhere q p)
placed_past false why next q p = refl

pub placed_before : (o next : Answer) {i j : ℕ} → place_of next ≡ Nowhere → place_of (and_then o next) ≡ At i j → and_then o next ≡ o
placed_before (Ok _) next e p = absurd (at_not_nowhere e p)
placed_before (Err why) next e p = refl

pub placed_after : (o next : Answer) {i j : ℕ} → place_of o ≡ Nowhere → place_of (and_then o next) ≡ At i j → and_then o next ≡ next
placed_after (Ok _) next e p = refl
placed_after (Err why) next e p = absurd (at_not_nowhere e p)

-- An answer that isn't accepted stands, whatever comes after it.
pub stands : (o next : Answer) → (o ≡ Accepted → ⊥) → and_then o next ≡ o
stands (Ok _) next h = absurd (h refl)
stands (Err why) next h = refl

pub refusal_stands : (why : Refusal) → refused why ≡ Accepted → ⊥
refusal_stands why e = cc

-- The arms of a `?`: what it goes on from, and what it answers with.
pub went_on : {o : Answer} {x : Unit} → o ≡ Ok x → o ≡ Accepted
went_on {x = tt} e = e

pub handed : {A : Type 0} {r : Result A Refusal} {why : Refusal} → IsErr r × IsErrAnd r (λ e. e ≡ why) → r ≡ Err why
handed {A = A} {r = r} {why = why} h = go r h
  where
    go : (s : Result A Refusal) → IsErr s × IsErrAnd s (λ x. x ≡ why) → s ≡ Err why
    go (Ok _) h = absurd (false≢true h.0)
    go (Err who) h = ap Err h.1

pub handed_on : {o r : Answer} {why : Refusal} → o ≡ Err why → IsErr r × IsErrAnd r (λ e. e ≡ why) → r ≡ o
handed_on e h = handed h ∙ sym e

-- What is refused for want of a value is refused for the reason that was named.
pub wanted : {A : Type 0} {o : Option A} {r : Result A Refusal} {why who : Refusal} → o ≡ None → r ≡ ok_or o why → r ≡ Err who → who ≡ why
wanted {A = A} {why = why} {who = who} n e h = let same : ◌≡◌ {A = Result A Refusal} (Err who) (Err why) = sym h ∙ e ∙ rw n refl in cc

pub gave_up : {o : Answer} {why : Refusal} → o ≡ Err why → o ≡ Accepted → ⊥
gave_up e a = cc

-- What isn't accepted leaves what was lent.
pub leaves : {A : Type 0} (o : Answer) (old new : List A) → (o ≡ Accepted → ⊥) → settled o old new ≡ old
leaves (Ok _) old new h = absurd (h refl)
leaves (Err why) old new h = refl
