-- What `screen` promises.
use Rattle.std.specs.Prelude.{◌≡◌, ℕ, length}
use Rattle.answer.specs.Answer.{Answer, Accepted, SaidBy}
use Rattle.verdict.specs.Case.{Case}
use Rattle.verdict.specs.Record.{TrueTable}
use Rattle.verdict.specs.Update.{Lent, Beyond}
use Rattle.state.specs.Case.{case_in}
use Rattle.state.specs.Call.{lent_check, OverloadSaid}

-- A fitting flow and a table true of it are left, the book is as it was, and nothing beyond the counts is written.
pub record Screened (C : Case) (before after : Lent) : Type 0 where
  pub table_true : TrueTable C after.flow after.table
  pub book_kept : after.book ≡ before.book
  pub beyond : Beyond C before after

abbrev pub screen_check : ℕ → Lent → Answer
screen_check percent l = lent_check percent l.book (length l.flow) (length l.table)

pub data ScreenEnds (percent : ℕ) (before after : Lent) (r : Answer) : Type 0 where
  refuses : (screen_check percent before ≡ Accepted → ⊥) → SaidBy (screen_check percent before) r → after ≡ before → ScreenEnds percent before after r
  -- 12: the base excess of the book
  overloads : screen_check percent before ≡ Accepted → OverloadSaid (case_in percent before.book) r → after ≡ before
      → ScreenEnds percent before after r
  accepts : screen_check percent before ≡ Accepted → SaidBy Accepted r → Screened (case_in percent before.book) before after
      → ScreenEnds percent before after r
