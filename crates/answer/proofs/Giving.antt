-- Which answers a check may give, that refuses by some numbers.
use mathlib.Core.Path.{◌≡◌}
use mathlib.Core.Bool.{Bool, true, not, ◌&&◌}
use mathlib.Core.List.{List}
use Prim.Native.Nat.{ℕ}
use lib.Dec.{eqb}
use Rattle.rows.specs.Row.{member}
use Rattle.std.specs.Prelude.{Ok, Err, is_some}
use Rattle.answer.specs.declared.Refusal.{Refusal}
use Rattle.answer.specs.declared.Refusal.TheVariants.{Overloaded}
use Rattle.answer.specs.Answer.{Answer, number, place, placed}

-- Accepted, or refused by one of these numbers, with a place exactly if it is one of those that carry one. No check gives an overload.
abbrev pub Gives : List ℕ → Answer → Type 0
Gives ns (Ok _) = Unit
Gives ns (Err (Overloaded kw bytes)) = ⊥
Gives ns (Err why) = (member (number why) ns ≡ true) × (is_some (place why) ≡ member (number why) placed)

-- One of these numbers, and no overload's.
abbrev pub plain : Refusal → List ℕ → Bool
plain why ns = member (number why) ns && not (eqb (number why) 12)
