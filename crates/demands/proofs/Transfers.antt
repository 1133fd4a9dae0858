-- Demand 3 of moves of load: in a run no branch's flow changes by more than is moved, the call is refused exactly as a fresh screen of the changed
-- book is, and what the page then shows is what such a screen shows.
use mathlib.Core.Path.{◌≡◌, sym, ap, ◌∙◌}
use mathlib.Core.Bool.{false}
use mathlib.Core.List.{List}
use mathlib.Core.Logic.{◌↔◌}
use Prim.Native.Nat.{ℕ, ◌*◌, ◌≤◌, ◌<◌}
use native.Mathlib.Omega.{arith}
use native.Mathlib.Decide.{dec_lt}
use lib.IntN.{ℤ, pos, nat_abs, ◌+ℤ◌, ◌-ℤ◌}
use lib.ListN.{length}
use lib.Seq.{ext_get_or}
use Rattle.rows.specs.Row.{nth}
use Rattle.rows.specs.Bit.{bit_at}
use Rattle.answer.specs.Answer.{Answer, Accepted, number_of}
use Rattle.quantity.proofs.Parts.{by_parts, apart_at_most}
use Rattle.layout.specs.Layout.{buses_in, branches_in}
use Rattle.layout.proofs.InjectionsChanged.{BesideBus, injections_long, injections_elsewhere}
use Rattle.verdict.specs.Case.{Case, shifted, on}
use Rattle.verdict.specs.Record.{record_at}
use Rattle.verdict.specs.Update.{Lent, Beyond, FlowChanged, Shortlisted}
use Rattle.verdict.proofs.Shift.{shift_up, shift_down}
use Rattle.state.specs.Case.{case_in}
use Rattle.state.proofs.Checked.{passing}
use Rattle.state.proofs.Status.{branches_of, case_buses}
use Rattle.screen.specs.Promise.{screen_check, ScreenEnds}
use Rattle.transfer.specs.Promise.{risen, fallen, leaves_range, shifted_bytes, TransferEnds}
use Rattle.transfer.specs.Inside.{Shiftable}
use Rattle.transfer.proofs.Checking.{Movable, stays_within, moving}
use Rattle.transfer.proofs.BookShifted.{shifted_accepted, shifted_case}
use Rattle.demands.specs.Run.{Run, moved}
use Rattle.demands.proofs.Ends.{number_of_lem, movable_posed, transfer_done}
use Rattle.demands.proofs.Fresh.{ends_fresh}
use Rattle.demands.proofs.Demand3.{stands_passed, run_stands, run_fits, run_screens, run_fresh}

-- Two numbers that are not apart are the same.
pub same_of : (x y : ℤ) → nat_abs (x -ℤ y) ≤ 0 → x ≡ y
same_of x y h = let w = (apart_at_most x y 0).0 h in by_parts x y (omega (arith, w.0, w.1))

-- ---- An accepted move from any table.
module _ {percent up down kw : ℕ} {before after : Lent} {r : Answer} (e : TransferEnds percent up down kw before after r) (a : r ≡ Accepted) where
  abbrev C : Case
  C = case_in percent before.book

  -- No branch's flow changes by more than kw.
  pub transfer_slight : (j : ℕ) → j < C.branches → nat_abs (on after.flow j -ℤ on before.flow j) ≤ kw
  transfer_slight = (transfer_done e a).moved.slight

  -- Moving 0 changes no flow.
  pub transfer_still : kw ≡ 0 → after.flow ≡ before.flow
  transfer_still z = ext_get_or (pos 0) after.flow before.flow beyond.flow_long (λ j l. go j (dec_lt j C.branches))
    where
      beyond : Beyond (shifted C up down kw) before after
      beyond = (transfer_done e a).moved.updated.beyond

      go : (j : ℕ) → Dec (j < C.branches) → on after.flow j ≡ on before.flow j
      go j (yes u) = same_of _ _ (omega (arith, transfer_slight j u))
      go j (no n) = beyond.flow_rest j (omega arith)

  -- The injections are as moved, the book is as long as it was, and every bit of it but those of the two stays.
  pub transfer_up : (case_in percent after.book).injection up ≡ C.injection up +ℤ pos kw
  transfer_up = let d = transfer_done e a in ap (λ (D : Case). D.injection up) d.moved.case_is ∙ shift_up C up down kw d.passes.apart

  pub transfer_down : (case_in percent after.book).injection down ≡ C.injection down -ℤ pos kw
  transfer_down = let d = transfer_done e a in ap (λ (D : Case). D.injection down) d.moved.case_is ∙ shift_down C up down kw d.passes.apart

  pub transfer_long : length after.book ≡ length before.book
  transfer_long =
      ap length (transfer_done e a).moved.book_is
      ∙ injections_long before.book up down (risen before.book up kw) (fallen before.book down kw)

  pub transfer_elsewhere : (n : ℕ) → BesideBus up n → BesideBus down n → bit_at after.book n ≡ bit_at before.book n
  transfer_elsewhere n b c =
      ap (λ (l : List ℕ). bit_at l n) (transfer_done e a).moved.book_is
      ∙ injections_elsewhere before.book up down (risen before.book up kw) (fallen before.book down kw) n b c

  -- Only shortlisted records were rewritten.
  pub transfer_rewrites : (k : ℕ) → k < C.branches
      → (Shortlisted (shifted C up down kw) before.table (FlowChanged (on before.flow) (on after.flow)) k → ⊥)
      → record_at after.table k ≡ record_at before.table k
  transfer_rewrites = (transfer_done e a).moved.updated.kept

  -- The counts stay.
  pub transfer_branches : (case_in percent after.book).branches ≡ C.branches
  transfer_branches = ap (λ (D : Case). D.branches) (transfer_done e a).moved.case_is

  pub transfer_count : branches_in after.book ≡ branches_in before.book
  transfer_count = sym (branches_of percent after.book) ∙ transfer_branches ∙ branches_of percent before.book

  pub transfer_buses : buses_in after.book ≡ buses_in before.book
  transfer_buses =
      sym (case_buses percent after.book) ∙ ap (λ (D : Case). D.buses) (transfer_done e a).moved.case_is ∙ case_buses percent before.book

-- ---- A move in a run.
-- What an accepted one leaves is a run again.
pub transfer_joins : {percent up down kw : ℕ} {now after : Lent} {r : Answer} → Run percent now → TransferEnds percent up down kw now after r
    → r ≡ Accepted → Run percent after
transfer_joins {up = up} {down = down} {kw = kw} run e a = moved up down kw run e a

module _ {percent : ℕ} {now : Lent} (run : Run percent now) {after : Lent} {up down kw : ℕ} {r : Answer}
    (e : TransferEnds percent up down kw now after r)
    {fresh left : Lent} {s : Answer} (changed : fresh.book ≡ shifted_bytes now.book up down kw) (f : ScreenEnds percent fresh left s) where
  module _ (a : r ≡ Accepted) where
    same_book : fresh.book ≡ after.book
    same_book = changed ∙ sym (transfer_done e a).moved.book_is

    -- Every verdict, shortage and group equals that of any fresh screen of the changed book: one that is lent enough isn't refused ..
    pub transfer_screens : branches_in now.book ≤ length fresh.flow → 52 * branches_in now.book ≤ length fresh.table → s ≡ Accepted
    transfer_screens l m = run_screens (transfer_joins run e a) same_book f (omega (arith, transfer_count e a)) (omega (arith, transfer_count e a))

    -- .. and shows the same of every branch.
    pub transfer_shows : s ≡ Accepted → (k : ℕ) → k < (case_in percent now.book).branches → (j : ℕ) → j < 20
        → nth (record_at after.table k) j ≡ nth (record_at left.table k) j
    transfer_shows q k l = run_fresh (transfer_joins run e a) same_book f q k (omega (arith, transfer_branches e a))

  -- ---- A move between two buses that keeps both injections within their range answers as the fresh screen of the changed book, with the same
  -- shortage and group.
  module _ (up_there : up < buses_in now.book) (down_there : down < buses_in now.book) (apart : up ≡ down → ⊥)
      (stays : leaves_range now.book up down kw ≡ false)
      (flow_room : branches_in now.book ≤ length fresh.flow) (table_room : 52 * branches_in now.book ≤ length fresh.table) where
    within : Shiftable now.book up down kw
    within = stays_within kw (record { book = (run_stands run).book; up_there = up_there; down_there = down_there }) stays

    may : Movable percent now.book (length now.flow) (length now.table) up down kw
    may = record { passes = stands_passed (run_stands run); apart = apart; within = within }

    same_case : case_in percent fresh.book ≡ shifted (case_in percent now.book) up down kw
    same_case = rw changed (shifted_case within apart percent)

    screen_checked : screen_check percent fresh ≡ Accepted
    screen_checked =
        let n = sym (branches_of percent fresh.book) ∙ ap (λ (D : Case). D.branches) same_case ∙ branches_of percent now.book in
        passing _ _ _ (record {
          in_range = (run_stands run).in_range;
          book = rw changed (shifted_accepted within apart);
          flow_room = omega arith;
          table_room = omega arith;
        })

    pub transfer_fresh : r ≡ s
    transfer_fresh = ends_fresh (moving _ _ _ up down kw may) (run_fits run) (movable_posed may) (λ o. o.updated.fits) same_case screen_checked e f

    pub transfer_refused : (number_of r ≡ 12) ↔ (number_of s ≡ 12)
    transfer_refused = (λ n. sym (number_of_lem transfer_fresh) ∙ n, λ n. number_of_lem transfer_fresh ∙ n)
