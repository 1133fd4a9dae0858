-- Demand 3, over the promises of `screen`, `take_out`, `bring_back` and `move_load` alone: feeders are taken out and come back and load is moved, one
-- after another in a run under one percentage. Here: what any run leaves, and an outage in it. A return in it: Returns.antt; a move: Transfers.antt.
use mathlib.Core.Path.{◌≡◌, sym, ◌∙◌, subst}
use mathlib.Core.Bool.{true, false, true≢false}
use mathlib.Core.List.{List}
use mathlib.Core.Logic.{◌↔◌}
use Prim.Native.Nat.{ℕ, ◌*◌, ◌≤◌, ◌<◌}
use native.Mathlib.Omega.{arith}
use lib.IntN.{ℤ, ◌-ℤ◌}
use lib.ListN.{length}
use Rattle.rows.specs.Row.{nth}
use Rattle.answer.specs.Answer.{Answer, Accepted, number_of}
use Rattle.quantity.specs.Rating.{percent_out}
use Rattle.bits.specs.Field.{set_bit}
use Rattle.layout.specs.Layout.{branches_in, status_bit, book_of}
use Rattle.layout.specs.Check.{check_of}
use Rattle.verdict.specs.Case.{Case, Posed, out, on, leaving, arriving, Fits}
use Rattle.verdict.specs.Record.{record_at, verdict_in, Told, is_out, carries, short, Rerouted, TrueTable}
use Rattle.verdict.specs.Update.{Lent, Shortlisted}
use Rattle.verdict.proofs.Fitting.{posed_status}
use Rattle.verdict.proofs.Loss.{Level}
use Rattle.verdict.proofs.Islanding.{number_above}
use Rattle.verdict.proofs.Keep.{stable}
use Rattle.verdict.proofs.Shift.{shift_true}
use Rattle.verdict.proofs.VerdictByCase.{tables_agree}
use Rattle.forms.proofs.MovedBook.{Equal}
use Rattle.state.specs.Case.{case_in}
use Rattle.state.specs.Call.{OverloadSaid}
use Rattle.state.proofs.Checked.{Passed, passing, posed_passed}
use Rattle.state.proofs.Status.{branches_of, level_of, restates}
use Rattle.state.proofs.OneOverload.{fits_not_over}
use Rattle.screen.specs.Promise.{screen_check, ScreenEnds, refuses, overloads, accepts}
use Rattle.outage.specs.Promise.{Touched, Confined, take_check, TakeEnds}
use Rattle.outage.proofs.Checking.{taking}
use Rattle.restore.specs.Promise.{BackEnds}
use Rattle.transfer.specs.Promise.{TransferEnds}
use Rattle.demands.specs.Run.{Run, screened, taken, returned, moved}
use Rattle.demands.proofs.Ends.{done, number_of_lem, take_done, back_done, transfer_done, is_accepted}
use Rattle.demands.proofs.Fresh.{ends_fresh}
use Rattle.demands.proofs.Calls.{call_true, back_true}

-- ---- What stands after a run: a percentage within its range, an accepted book, and a table true of its case and of the flow.
pub record Stands (percent : ℕ) (l : Lent) : Type 0 where
  pub in_range : percent_out percent ≡ false
  pub book : check_of l.book ≡ Accepted
  pub table_true : TrueTable (case_in percent l.book) l.flow l.table

-- It passes the checks of every call.
pub stands_passed : {percent : ℕ} {l : Lent} → Stands percent l → Passed percent l.book (length l.flow) (length l.table)
stands_passed {percent} {l} s = record {
  in_range = s.in_range;
  book = s.book;
  flow_room = omega (arith, branches_of percent l.book, s.table_true.room);
  table_room = omega (arith, branches_of percent l.book, s.table_true.long);
}

-- An accepted outage leaves it, and so do an accepted return and an accepted move of load.
module _ {percent : ℕ} {before after : Lent} {b : ℕ} {r : Answer} where
  pub take_stands : Stands percent before → TakeEnds percent b before after r → r ≡ Accepted → Stands percent after
  take_stands s e a =
      let d = take_done e a in
      record {
        in_range = s.in_range;
        book = d.took.book_accepted;
        table_true = rw d.took.case_is (call_true d.posed_case d.took s.table_true);
      }

  pub back_stands : Stands percent before → BackEnds percent b before after r → r ≡ Accepted → Stands percent after
  back_stands s e a =
      let d = back_done e a in
      record {
        in_range = s.in_range;
        book = d.brought.book_accepted;
        table_true = rw d.brought.case_is (back_true d.posed_case d.passes.out_now d.brought s.table_true);
      }

pub transfer_stands : {percent up down kw : ℕ} {before after : Lent} {r : Answer} → Stands percent before
    → TransferEnds percent up down kw before after r → r ≡ Accepted → Stands percent after
transfer_stands {up = up} {down = down} {kw = kw} {before = before} {after = after} s e a =
    let d = transfer_done e a in
    record {
      in_range = s.in_range;
      book = d.moved.book_accepted;
      table_true = rw d.moved.case_is (shift_true _ up down kw before after d.posed_after s.table_true d.moved.updated);
    }

-- Any run of outages, returns and moves leaves it.
pub run_stands : {percent : ℕ} {l : Lent} → Run percent l → Stands percent l
run_stands (screened {before} {after} e a) =
    let d = done e a in
    record {
      in_range = d.passes.in_range;
      book = rw d.screened.book_kept d.passes.book;
      table_true = rw d.screened.book_kept d.screened.table_true;
    }
run_stands (taken b run e a) = take_stands (run_stands run) e a
run_stands (returned b run e a) = back_stands (run_stands run) e a
run_stands (moved up down kw run e a) = transfer_stands (run_stands run) e a

-- ---- The reroute that a carrying branch's record promises.
carried_by : (C : Case) (f : ℕ → ℤ) (b : ℕ) (rec : List ℕ) → Told C f b rec → verdict_in rec ≡ 1 → Rerouted C f b rec
carried_by C f b rec (is_out i v z) e = absurd (omega arith)
carried_by C f b rec (carries i c v z m) e = m
carried_by C f b rec (short i s v z) e = absurd (omega (arith, number_above v))

fits_level : (C : Case) (b : ℕ) (h : ℕ → ℤ) → Level C → Fits (out C b) C.loss_limit h → Fits (out C b) C.limit h
fits_level C b h l w = subst (λ (m : ℕ → ℕ). Fits (out C b) m h) l w

within_reroute : (C : Case) (f : ℕ → ℤ) (b : ℕ) (rec : List ℕ) (m : Rerouted C f b rec) → Confined C f rec b m.flow
within_reroute C f b rec m j u n q = stable (m.flow j) (f j) (λ d. true≢false (sym ((m.exactly j u).1 (n, d)) ∙ q))

module _ {percent : ℕ} {now : Lent} (run : Run percent now) where
  abbrev C : Case
  C = case_in percent now.book

  pub run_true : TrueTable C now.flow now.table
  run_true = (run_stands run).table_true

  pub run_posed : Posed C
  run_posed = posed_passed (stands_passed (run_stands run))

  -- Power balances at every bus, and every branch keeps to its limit.
  pub run_fits : Fits C C.limit (on now.flow)
  run_fits = run_true.fits

  pub run_balances : (i : ℕ) → i < C.buses → leaving C (on now.flow) i -ℤ arriving C (on now.flow) i ≡ C.injection i
  run_balances = run_fits.bus

  -- ---- Every verdict, shortage and group equals that of any fresh screen of the book as it then stands.
  module _ {before after : Lent} {r : Answer} (same_book : before.book ≡ now.book) (e : ScreenEnds percent before after r) where
    -- a fresh screen that is lent enough isn't refused
    pub run_screens : branches_in now.book ≤ length before.flow → 52 * branches_in now.book ≤ length before.table → r ≡ Accepted
    run_screens l m = go e
      where
        go : ScreenEnds percent before after r → r ≡ Accepted
        go (refuses n a k) = absurd (n (passing _ _ _ (record {
          in_range = (run_stands run).in_range;
          book = rw same_book (run_stands run).book;
          flow_room = rw same_book l;
          table_room = rw same_book m;
        })))
        go (overloads c o k) = absurd (fits_not_over C (on now.flow) r run_posed run_fits
            (subst (λ (bs : List ℕ). OverloadSaid (case_in percent bs) r) same_book o))
        go (accepts c a s) = is_accepted a

    pub run_fresh : r ≡ Accepted → (k : ℕ) → k < C.branches → (j : ℕ) → j < 20 → nth (record_at now.table k) j ≡ nth (record_at after.table k) j
    run_fresh a =
        tables_agree C now.flow after.flow now.table after.table run_true
        (subst (λ (bs : List ℕ). TrueTable (case_in percent bs) after.flow after.table) same_book (done e a).screened.table_true)

  -- ---- An outage in the run.
  module _ {after : Lent} {b : ℕ} {r : Answer} (e : TakeEnds percent b now after r) where
    pub call_joins : r ≡ Accepted → Run percent after
    call_joins a = taken b run e a

    -- Only shortlisted records were rewritten.
    pub call_rewrites : r ≡ Accepted → (k : ℕ) → k < C.branches → (Shortlisted (out C b) now.table (Touched (on now.flow) (on after.flow) b) k → ⊥)
        → record_at after.table k ≡ record_at now.table k
    call_rewrites a = (take_done e a).took.updated.kept

    -- Flow changed only on the branch and on branches that its recorded reroute names, whenever some flow so confined fits the changed book within
    -- the normal limits ..
    pub call_confined : r ≡ Accepted → (h : ℕ → ℤ) → Fits (out C b) C.limit h → Confined C (on now.flow) (record_at now.table b) b h
        → Confined C (on now.flow) (record_at now.table b) b (on after.flow)
    call_confined a = (take_done e a).took.confined

    -- .. and where both figures are equal on every branch, one always does of a branch that is shown as carrying.
    pub equal_reroute : Equal (book_of now.book) → b < branches_in now.book → verdict_in (record_at now.table b) ≡ 1
        → (h : ℕ → ℤ) × (Fits (out C b) C.limit h × Confined C (on now.flow) (record_at now.table b) b h)
    equal_reroute q there v =
        let m =
        carried_by C (on now.flow) b (record_at now.table b) (run_true.each b (omega (arith, branches_of percent now.book))).told v in (
          m.flow,
          (
            fits_level C b m.flow (level_of percent (book_of now.book) q) m.fits,
            within_reroute C (on now.flow) b
                (record_at now.table b) m,
          ),
        )

    -- ---- A call on a branch in service answers as the fresh screen of the book without that branch, with the same shortage and group.
    module _ (there : b < branches_in now.book) (in_service : C.served b ≡ true) where
      pub call_checked : take_check percent now.book (length now.flow) (length now.table) b ≡ Accepted
      call_checked = taking _ _ _ b (record { passes = stands_passed (run_stands run); there = there; in_service = in_service })

      pub posed_out : Posed (out C b)
      posed_out = posed_status C b false run_posed

      module _ {fresh left : Lent} {s : Answer} (without : fresh.book ≡ set_bit now.book (status_bit now.book b) 0)
          (f : ScreenEnds percent fresh left s)
          (flow_room : branches_in now.book ≤ length fresh.flow) (table_room : 52 * branches_in now.book ≤ length fresh.table) where
        same_case : case_in percent fresh.book ≡ out C b
        same_case = rw without (restates percent now.book b 0 (run_stands run).book there (omega arith)).case_is

        screen_checked : screen_check percent fresh ≡ Accepted
        screen_checked =
            let c = restates percent now.book b 0 (run_stands run).book there (omega arith) in
            passing _ _ _ (record {
              in_range = (run_stands run).in_range;
              book = rw without c.book;
              flow_room = rw without (omega (arith, c.count_is));
              table_room = rw without (omega (arith, c.count_is));
            })

        pub call_fresh : r ≡ s
        call_fresh = ends_fresh call_checked run_fits posed_out (λ o. o.updated.fits) same_case screen_checked e f

        pub call_refused : (number_of r ≡ 12) ↔ (number_of s ≡ 12)
        call_refused = (λ n. sym (number_of_lem call_fresh) ∙ n, λ n. number_of_lem call_fresh ∙ n)
