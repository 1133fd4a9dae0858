-- What `move_load` promises.
use Rattle.std.specs.Prelude.{◌≡◌, Bool, ◌||◌, List, ◌∷◌, ℕ, ◌≤◌, ◌<◌, ltb, leb, eqb, ℤ, pos, nat_abs, ◌+ℤ◌, ◌-ℤ◌, length}
use Rattle.answer.specs.declared.Refusal.TheVariants.{NoTwoBuses, InjectionOutside}
use Rattle.answer.specs.Answer.{Answer, Accepted, and_then, refuse_if}
use Rattle.bits.specs.Field.{Bytes}
use Rattle.layout.specs.Book.{size}
use Rattle.layout.specs.Layout.{buses_in, injection_at, put_injection}
use Rattle.layout.specs.Check.{check_of}
use Rattle.verdict.specs.Case.{shifted, on}
use Rattle.verdict.specs.Update.{Lent, FlowChanged, Updated}
use Rattle.state.specs.Case.{case_in}
use Rattle.state.specs.Call.{lent_check, lent_numbers, Ends}

-- 'One bus's injection rises by it, another's falls by it.'
abbrev pub risen : List ℕ → ℕ → ℕ → ℤ
risen bs up kw = injection_at bs up +ℤ pos kw

abbrev pub fallen : List ℕ → ℕ → ℕ → ℤ
fallen bs down kw = injection_at bs down -ℤ pos kw

-- An injection would leave its range: its kW without sign would be above 1,000,000.
abbrev pub leaves_range : List ℕ → ℕ → ℕ → ℕ → Bool
leaves_range bs up down kw = ltb 1000000 (size (risen bs up kw)) || ltb 1000000 (size (fallen bs down kw))

-- Refusals 21 and 1 to 8, then 19: no such bus, or both the same; then 20.
unfoldable pub transfer_check : ℕ → List ℕ → ℕ → ℕ → ℕ → ℕ → ℕ → Answer
transfer_check percent bs flows bytes up down kw =
    and_then (lent_check percent bs flows bytes)
    (refuse_if (leb (buses_in bs) up || (leb (buses_in bs) down || eqb up down)) NoTwoBuses
    (refuse_if (leaves_range bs up down kw) InjectionOutside
    Accepted))

abbrev pub transfer_numbers : List ℕ
transfer_numbers = 19 ∷ 20 ∷ lent_numbers

-- The book with exactly the fields of the two injections rewritten.
abbrev pub shifted_bytes : List ℕ → ℕ → ℕ → ℕ → List ℕ
shifted_bytes bs up down kw = put_injection (put_injection bs up (risen bs up kw)) down (fallen bs down kw)

-- An accepted call: the two injections, the flow and the shortlist, with touched meaning a changed flow.
pub record Transferred (percent up down kw : ℕ) (before after : Lent) : Type 0 where
  pub bytes : Bytes before.book
  pub book_is : after.book ≡ shifted_bytes before.book up down kw
  pub book_accepted : check_of after.book ≡ Accepted
  pub case_is : case_in percent after.book ≡ shifted (case_in percent before.book) up down kw
  pub updated : Updated (shifted (case_in percent before.book) up down kw) (FlowChanged (on before.flow) (on after.flow)) before after
  -- kw is rerouted over what the lent flow leaves: no branch's flow changes by more
  pub slight : (j : ℕ) → j < (case_in percent before.book).branches → nat_abs (on after.flow j -ℤ on before.flow j) ≤ kw

-- How the call ends: refused by its checks, with 11, with 12 by the base excess of the changed book, or accepted.
abbrev pub TransferEnds : ℕ → ℕ → ℕ → ℕ → Lent → Lent → Answer → Type 0
TransferEnds percent up down kw before after r =
    Ends (transfer_check percent before.book (length before.flow) (length before.table) up down kw)
    (case_in percent before.book) (shifted (case_in percent before.book) up down kw) (Transferred percent up down kw before after) before after r
