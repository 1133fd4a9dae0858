-- Demand 3 of returns: in a run a branch out of service comes back without a refusal and without a changed flow, and what the page then shows is what
-- a fresh screen of the changed book shows.
use mathlib.Core.Path.{◌≡◌, sym, ap, ◌∙◌}
use mathlib.Core.Bool.{false}
use Prim.Native.Nat.{ℕ, ◌*◌, ◌≤◌, ◌<◌}
use native.Mathlib.Omega.{arith}
use lib.ListN.{length}
use Rattle.rows.specs.Row.{nth}
use Rattle.answer.specs.Answer.{Answer, Accepted}
use Rattle.bits.specs.Field.{set_bit}
use Rattle.layout.specs.Layout.{branches_in, status_bit}
use Rattle.verdict.specs.Case.{Case}
use Rattle.verdict.specs.Record.{record_at, verdict_in}
use Rattle.verdict.specs.Update.{Lent}
use Rattle.state.specs.Case.{case_in}
use Rattle.state.proofs.Status.{branches_of}
use Rattle.screen.specs.Promise.{ScreenEnds}
use Rattle.restore.specs.Promise.{Anew, itself, not_carrying, empty_record, BackEnds}
use Rattle.demands.specs.Run.{Run, returned}
use Rattle.demands.proofs.Ends.{back_done, back_accepted}
use Rattle.demands.proofs.Demand3.{Stands, stands_passed, run_stands, run_screens, run_fresh}

-- ---- An accepted return from any table.
module _ {percent : ℕ} {before after : Lent} {b : ℕ} {r : Answer} (e : BackEnds percent b before after r) (a : r ≡ Accepted) where
  -- No flow changes.
  pub return_flow : after.flow ≡ before.flow
  return_flow = (back_done e a).brought.flow_is

  -- The branch's own record: verdict 1, an empty reroute, and all else zero.
  pub return_own : record_at after.table b ≡ empty_record
  return_own = (back_done e a).brought.own_is

  -- A record of byte 0 = 1 that isn't the branch's own keeps its 52 bytes.
  pub return_rewrites : (k : ℕ) → k < (case_in percent before.book).branches → (k ≡ b → ⊥) → verdict_in (record_at before.table k) ≡ 1
      → record_at after.table k ≡ record_at before.table k
  return_rewrites k l n v = (back_done e a).brought.renewed.kept k l none
    where
      none : Anew before.table b k → ⊥
      none (itself q) = n q
      none (not_carrying m) = m v

  -- The counts stay.
  return_branches : (case_in percent after.book).branches ≡ (case_in percent before.book).branches
  return_branches = ap (λ (D : Case). D.branches) (back_done e a).brought.case_is

  return_count : branches_in after.book ≡ branches_in before.book
  return_count = sym (branches_of percent after.book) ∙ return_branches ∙ branches_of percent before.book

-- A return of a branch out of service is accepted where a true table stands.
pub stands_returns : {percent : ℕ} {now after : Lent} {b : ℕ} {r : Answer} → Stands percent now → b < branches_in now.book
    → (case_in percent now.book).served b ≡ false
    → BackEnds percent b now after r → r ≡ Accepted
stands_returns s there off = back_accepted (record { passes = stands_passed s; there = there; out_now = off }) s.table_true.fits

-- ---- A return in a run.
module _ {percent : ℕ} {now : Lent} (run : Run percent now) {after : Lent} {b : ℕ} {r : Answer} (e : BackEnds percent b now after r) where
  -- A branch out of service always comes back.
  pub return_accepted : b < branches_in now.book → (case_in percent now.book).served b ≡ false → r ≡ Accepted
  return_accepted there off = stands_returns (run_stands run) there off e

  module _ (a : r ≡ Accepted) where
    -- What the return leaves is a run again.
    pub return_joins : Run percent after
    return_joins = returned b run e a

    -- ---- Every verdict, shortage and group equals that of any fresh screen of the book with the branch in service.
    module _ {fresh left : Lent} {s : Answer} (with_it : fresh.book ≡ set_bit now.book (status_bit now.book b) 1)
        (f : ScreenEnds percent fresh left s) where
      same_book : fresh.book ≡ after.book
      same_book = with_it ∙ sym (back_done e a).brought.book_is

      -- a fresh screen that is lent enough isn't refused
      pub return_screens : branches_in now.book ≤ length fresh.flow → 52 * branches_in now.book ≤ length fresh.table → s ≡ Accepted
      return_screens l m = run_screens return_joins same_book f (omega (arith, return_count e a)) (omega (arith, return_count e a))

      -- and shows the same of every branch
      pub return_fresh : s ≡ Accepted → (k : ℕ) → k < (case_in percent now.book).branches → (j : ℕ) → j < 20
          → nth (record_at after.table k) j ≡ nth (record_at left.table k) j
      return_fresh q k l = run_fresh return_joins same_book f q k (omega (arith, return_branches e a))
