-- What `take_out` promises.
use Rattle.answer.specs.declared.Refusal.TheVariants.{AlreadyOut}
use Rattle.std.specs.Prelude.{◌≡◌, Bool, true, false, List, ◌∷◌, ℕ, ◌<◌, ℤ, pos, length}
use Rattle.rows.specs.Sum.{size}
use Rattle.answer.specs.Answer.{Answer, Accepted}
use Rattle.bits.specs.Field.{set_bit}
use Rattle.layout.specs.Layout.{status_bit}
use Rattle.layout.specs.Check.{check_of}
use Rattle.verdict.specs.Case.{Case, out, on, Fits}
use Rattle.verdict.specs.Record.{record_at, names}
use Rattle.verdict.specs.Update.{Lent, Shortlisted, Updated}
use Rattle.state.specs.Case.{case_in}
use Rattle.state.specs.Call.{Ends}
use Rattle.switch.specs.Check.{branch_check, branch_numbers}
use Rattle.outage.specs.declared.Taken.{Taken}

-- Touched: the branch taken out, and each branch whose flow differs before and after.
pub data Touched (f g : ℕ → ℤ) (b j : ℕ) : Type 0 where
  itself : j ≡ b → Touched f g b j
  changed : (f j ≡ g j → ⊥) → Touched f g b j

-- g differs from f only on b and on branches that the reroute of b's record names. Bits beyond the branch count are ignored.
abbrev pub Confined : Case → (ℕ → ℤ) → List ℕ → ℕ → (ℕ → ℤ) → Type 0
Confined C f rec b g = (j : ℕ) → j < C.branches → (j ≡ b → ⊥) → names rec j ≡ false → g j ≡ f j

-- Refusals 21 and 1 to 8, then 9, then 10: already out.
abbrev pub take_check : ℕ → List ℕ → ℕ → ℕ → ℕ → Answer
take_check percent bs flows bytes b = branch_check percent bs flows bytes b 0 AlreadyOut

abbrev pub take_numbers : List ℕ
take_numbers = 10 ∷ branch_numbers

-- An accepted call: the one status bit, the flow and the shortlist.
pub record TakenOut (percent b : ℕ) (before after : Lent) : Type 0 where
  pub book_is : after.book ≡ set_bit before.book (status_bit before.book b) 0
  pub book_accepted : check_of after.book ≡ Accepted
  pub case_is : case_in percent after.book ≡ out (case_in percent before.book) b
  pub updated : Updated (out (case_in percent before.book) b) (Touched (on before.flow) (on after.flow) b) before after
  -- if the branch's flow was 0, no flow changes
  pub idle : on before.flow b ≡ pos 0 → (j : ℕ) → j < (case_in percent before.book).branches → on after.flow j ≡ on before.flow j
  -- flow keeps to the recorded reroute where that fits the normal limits: if some such flow is confined to it, the flow left is one of those
  pub confined : (h : ℕ → ℤ) → Fits (out (case_in percent before.book) b) (case_in percent before.book).limit h
      → Confined (case_in percent before.book) (on before.flow) (record_at before.table b) b h
      → Confined (case_in percent before.book) (on before.flow) (record_at before.table b) b (on after.flow)

-- How the call ends: refused by its checks, with 11, with 12 by the base excess of the book without b, or accepted.
abbrev pub TakeEnds : ℕ → ℕ → Lent → Lent → Answer → Type 0
TakeEnds percent b before after r =
    Ends (take_check percent before.book (length before.flow) (length before.table) b)
    (case_in percent before.book) (out (case_in percent before.book) b) (TakenOut percent b before after) before after r

-- ---- The same call, with the losses that were judged on the way: as many as there are records on the shortlist and in service, and none for a refusal.
pub record Judges (C : Case) (touched : ℕ → Type 0) (table : List ℕ) (n : ℕ) : Type 0 where
  pub judged : ℕ → Bool
  pub if_listed : (k : ℕ) → k < C.branches → Shortlisted C table touched k → C.served k ≡ true → judged k ≡ true
  pub if_not : (k : ℕ) → k < C.branches → (Shortlisted C table touched k → C.served k ≡ true → ⊥) → judged k ≡ false
  pub count : n ≡ size C.branches judged

pub record TakeCounted (percent b : ℕ) (before after : Lent) (r : Taken) : Type 0 where
  pub ends : TakeEnds percent b before after r.answer
  pub judges : r.answer ≡ Accepted
      → Judges (out (case_in percent before.book) b) (Touched (on before.flow) (on after.flow) b) before.table r.judged
  pub none : (r.answer ≡ Accepted → ⊥) → r.judged ≡ 0
