-- What every call that is lent a book, its flow and its table promises: how it may end.
use Rattle.std.specs.Prelude.{◌≡◌, ◌||◌, List, [], ◌∷◌, ℕ, ◌*◌, ltb, ℤ, length}
use Rattle.rows.specs.Bit.{has}
use Rattle.answer.specs.declared.Refusal.TheVariants.{TooShort, FlowUnfit, PercentOutside}
use Rattle.answer.specs.Answer.{Answer, Accepted, Nowhere, Said, SaidBy, and_then, refuse_if, refused}
use Rattle.quantity.specs.Rating.{percent_out}
use Rattle.bits.specs.Field.{Bytes}
use Rattle.layout.specs.Layout.{branches_in}
use Rattle.layout.specs.Check.{check_of}
use Rattle.verdict.specs.Case.{Case, on, Fits}
use Rattle.verdict.specs.Excess.{Overload}
use Rattle.verdict.specs.Update.{Lent}

-- Refusal 21 before all others, where the percentage is outside 50 to 100; then 1 to 7, then 8 where the lent flow or table is too short for the
-- branch count.
unfoldable pub lent_check : ℕ → List ℕ → ℕ → ℕ → Answer
lent_check percent bs flows bytes =
    refuse_if (percent_out percent) PercentOutside
    (and_then (check_of bs)
    (refuse_if (ltb flows (branches_in bs) || ltb bytes (52 * branches_in bs)) TooShort
    Accepted))

abbrev pub lent_numbers : List ℕ
lent_numbers = 21 ∷ 1 ∷ 2 ∷ 3 ∷ 4 ∷ 5 ∷ 6 ∷ 7 ∷ 8 ∷ []

abbrev pub lent : List ℕ → List ℤ → List ℕ → Lent
lent bs flow table = record { book = bs; flow = flow; table = table }

-- Refusal 12: the base excess of the case as shortage, and the smallest group reaching it in 16 bytes.
pub record OverloadSaid (C : Case) (r : Answer) : Type 0 where
  pub shortage : ℕ
  pub group : List ℕ
  pub answer : Said r 12 shortage group Nowhere
  pub long : length group ≡ 16
  pub bytes : Bytes group
  pub overload : Overload C shortage (has group)

-- A call on the case C that would make it the case D, after its own checks of what is lent. Accepted, it has done what `done` says; a refusal
-- changes nothing lent.
pub data Ends (check : Answer) (C D : Case) (done : Type 0) (before after : Lent) (r : Answer) : Type 0 where
  refuses : (check ≡ Accepted → ⊥) → SaidBy check r → after ≡ before → Ends check C D done before after r
  -- 11: the lent flow doesn't fit the book
  unfit : check ≡ Accepted → (Fits C C.limit (on before.flow) → ⊥) → SaidBy (refused FlowUnfit) r → after ≡ before → Ends check C D done before after r
  -- 12: the base excess of the changed book
  overloads : check ≡ Accepted → Fits C C.limit (on before.flow) → OverloadSaid D r → after ≡ before → Ends check C D done before after r
  accepts : check ≡ Accepted → Fits C C.limit (on before.flow) → SaidBy Accepted r → done → Ends check C D done before after r
