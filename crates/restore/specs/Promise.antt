-- What `bring_back` promises.
use Rattle.answer.specs.declared.Refusal.TheVariants.{AlreadyIn}
use Rattle.std.specs.Prelude.{◌≡◌, List, ◌∷◌, ℕ, length, replicate}
use Rattle.answer.specs.Answer.{Answer, Accepted}
use Rattle.bits.specs.Field.{set_bit}
use Rattle.layout.specs.Layout.{status_bit}
use Rattle.layout.specs.Check.{check_of}
use Rattle.verdict.specs.Case.{back}
use Rattle.verdict.specs.Record.{record_at, verdict_in}
use Rattle.verdict.specs.Update.{Lent, Renewed}
use Rattle.state.specs.Case.{case_in}
use Rattle.state.specs.Call.{Ends}
use Rattle.switch.specs.Check.{branch_check, branch_numbers}

-- Refusals 21 and 1 to 8, then 9, then 17: already in service.
abbrev pub back_check : ℕ → List ℕ → ℕ → ℕ → ℕ → Answer
back_check percent bs flows bytes b = branch_check percent bs flows bytes b 1 AlreadyIn

abbrev pub back_numbers : List ℕ
back_numbers = 17 ∷ branch_numbers

-- Written anew: the record of the branch itself, and every record whose byte 0 isn't 1 in the table as lent.
pub data Anew (table : List ℕ) (b k : ℕ) : Type 0 where
  itself : k ≡ b → Anew table b k
  not_carrying : (verdict_in (record_at table k) ≡ 1 → ⊥) → Anew table b k

-- Verdict 1, an empty reroute, and all else zero.
abbrev pub empty_record : List ℕ
empty_record = 1 ∷ replicate 51 0

-- An accepted call sets one status bit, changes no flow, gives the returned branch an empty reroute and verdict 1, and writes anew every record whose
-- byte 0 isn't 1. Other records keep their bytes.
pub record BroughtBack (percent b : ℕ) (before after : Lent) : Type 0 where
  pub book_is : after.book ≡ set_bit before.book (status_bit before.book b) 1
  pub book_accepted : check_of after.book ≡ Accepted
  pub case_is : case_in percent after.book ≡ back (case_in percent before.book) b
  pub flow_is : after.flow ≡ before.flow
  pub own_is : record_at after.table b ≡ empty_record
  pub renewed : Renewed (back (case_in percent before.book) b) (Anew before.table b) before after

-- How the call ends: refused by its checks, with 11, or accepted. It never ends with 12, since the flow lent fits the changed book.
abbrev pub BackEnds : ℕ → ℕ → Lent → Lent → Answer → Type 0
BackEnds percent b before after r =
    Ends (back_check percent before.book (length before.flow) (length before.table) b)
    (case_in percent before.book) (back (case_in percent before.book) b) (BroughtBack percent b before after) before after r
