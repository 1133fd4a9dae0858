-- Which numbers a chain of refusals may give, and that a place goes with 4 and 5 alone; so it says what the papers say of its number.
use mathlib.Core.Path.{◌≡◌, refl, sym, ap, ◌∙◌}
use mathlib.Core.Bool.{Bool, true, false, ◌||◌, ◌&&◌, true≢false}
use mathlib.Core.List.{List, [], ◌∷◌}
use Prim.Native.Nat.{ℕ}
use native.Mathlib.Omega.{arith}
use borrow.Author.Tests.{eqb-true}
use lib.Dec.{eqb}
use Rattle.rows.specs.Row.{member}
use Rattle.rows.proofs.Row.{both_true}
use Rattle.std.specs.Prelude.{Option, Some, None, Ok, Err, is_some}
use Rattle.answer.specs.declared.Place.{Place}
use Rattle.answer.specs.declared.Refusal.{Refusal}
use Rattle.answer.specs.declared.Refusal.TheVariants.{BusWrong, BranchWrong, Overloaded}
use Rattle.answer.specs.Answer.{Answer, Nowhere, number, place, number_of, place_of, placed, SaidBy, refuse_if, refuse_at, and_then}
use Rattle.answer.proofs.Giving.{Gives, plain}
use Rattle.answer.proofs.Said.{said_accepted, said_refused, said_same}

-- A refusal has a place exactly if its number is 4 or 5, and none has the number 0.
pub place_where : (why : Refusal) → is_some (place why) ≡ member (number why) placed
unfolding member
place_where (BusWrong at) = refl
place_where why = refl

pub never_zero : (why : Refusal) → number why ≡ 0 → ⊥
never_zero (BusWrong at) e = absurd (omega arith)
never_zero why e = absurd (omega arith)

-- No answer but an overload has the number 12, and none but an accepted call the number 0.
abbrev pub Proper : Answer → Type 0
Proper (Ok _) = Unit
Proper (Err (Overloaded kw bytes)) = Unit
Proper (Err why) = (number why ≡ 0 → ⊥) × (number why ≡ 12 → ⊥)

pub proper : (r : Answer) → Proper r
proper (Ok _) = tt
proper (Err (Overloaded kw bytes)) = tt
proper (Err (BusWrong at)) = (λ e. omega arith, λ e. omega arith)
proper (Err why) = (λ e. omega arith, λ e. omega arith)

module _ (ns : List ℕ) where
  gives_err : (why : Refusal) → plain why ns ≡ true → Gives ns (Err why)
  gives_err (Overloaded kw bytes) h = absurd (true≢false (sym (both_true (member 12 ns) false h).1))
  gives_err (BusWrong at) h = ((both_true (member 4 ns) true h).0, place_where (BusWrong at))
  gives_err why h = ((both_true (member (number why) ns) true h).0, place_where why)

  gives_one : (why : Refusal) → Gives ns (Err why) → member (number why) ns ≡ true
  gives_one (Overloaded kw bytes) g = absurd g
  gives_one (BusWrong at) g = g.0
  gives_one why g = g.0

  pub gives_if : (t : Bool) (why : Refusal) (next : Answer) → plain why ns ≡ true → Gives ns next → Gives ns (refuse_if t why next)
  gives_if true why next h g = gives_err why h
  gives_if false why next h g = g

  pub gives_at : (w : Option Place) (why : Place → Refusal) (next : Answer) → ((at : Place) → plain (why at) ns ≡ true) → Gives ns next → Gives ns (refuse_at w why next)
  gives_at None why next h g = g
  gives_at (Some at) why next h g = gives_err (why at) (h at)

  pub gives_then : (o next : Answer) → Gives ns o → Gives ns next → Gives ns (and_then o next)
  gives_then (Ok _) next h g = g
  gives_then (Err why) next h g = h

  not_member : (n m : ℕ) → member n ns ≡ true → member m ns ≡ false → n ≡ m → ⊥
  not_member n m h l e = true≢false (sym h ∙ ap (λ (x : ℕ). member x ns) e ∙ l)

  -- Its number is one of these, or 0.
  pub gives_number : (o : Answer) → Gives ns o → member (number_of o) (0 ∷ ns) ≡ true
  unfolding member
  gives_number (Ok _) g = refl
  gives_number (Err why) g = rw (gives_one why g) (or_true (eqb (number why) 0))
    where
      or_true : (t : Bool) → (t || true) ≡ true
      or_true true = refl
      or_true false = refl

  pub gives_not : (o : Answer) (n : ℕ) → Gives ns o → member n ns ≡ false → (n ≡ 0 → ⊥) → number_of o ≡ n → ⊥
  gives_not (Ok _) n g h z e = z (sym e)
  gives_not (Err why) n g h z e = not_member (number why) n (gives_one why g) h e

  -- Without 4 and 5 among these it has none.
  pub gives_nowhere : (o : Answer) → member 4 ns ≡ false → member 5 ns ≡ false → Gives ns o → place_of o ≡ Nowhere
  gives_nowhere (Ok _) four five g = refl
  gives_nowhere (Err (BusWrong at)) four five g = absurd (true≢false (sym g.0 ∙ four))
  gives_nowhere (Err (BranchWrong at)) four five g = absurd (true≢false (sym g.0 ∙ five))
  gives_nowhere (Err why) four five g = refl

  -- All but 12 carry shortage 0 and an empty group.
  pub gives_said : (o : Answer) → member 12 ns ≡ false → Gives ns o → {r : Answer} → r ≡ o → SaidBy o r
  gives_said (Ok _) t g e = rw e said_accepted
  gives_said (Err why) t g e = rw e (said_refused why (not_member _ 12 (gives_one why g) t))

  pub said_is : (o : Answer) → member 12 ns ≡ false → Gives ns o → {r : Answer} → SaidBy o r → r ≡ o
  said_is o t g s = said_same s (gives_said o t g refl)

-- Any answer has a place exactly if its number is 4 or 5.
pub gives_place : (o : Answer) → is_some (place_of o) ≡ member (number_of o) placed
unfolding member
gives_place (Ok _) = refl
gives_place (Err why) = place_where why

-- A longer list of numbers.
unfoldable pub inside : List ℕ → List ℕ → Bool
inside [] ms = true
inside (x ∷ xs) ms = member x ms && inside xs ms

more : (ns ms : List ℕ) (n : ℕ) → inside ns ms ≡ true → member n ns ≡ true → member n ms ≡ true
unfolding member inside
more [] ms n h e = absurd (true≢false (sym e))
more (x ∷ xs) ms n h e = go (eqb n x) refl (λ q. more xs ms n (both_true (member x ms) (inside xs ms) h).1 q)
  where
    go : (t : Bool) → eqb n x ≡ t → (member n xs ≡ true → member n ms ≡ true) → member n ms ≡ true
    go true q rest = rw (eqb-true n x q) (both_true (member x ms) (inside xs ms) h).0
    go false q rest = rest (sym (ap (λ (t : Bool). t || member n xs) q) ∙ e)

pub gives_more : (ns ms : List ℕ) (o : Answer) → inside ns ms ≡ true → Gives ns o → Gives ms o
gives_more ns ms (Ok _) h g = tt
gives_more ns ms (Err (Overloaded kw bytes)) h g = absurd g
gives_more ns ms (Err (BusWrong at)) h g = (more ns ms 4 h g.0, g.1)
gives_more ns ms (Err why) h g = (more ns ms (number why) h g.0, g.1)
