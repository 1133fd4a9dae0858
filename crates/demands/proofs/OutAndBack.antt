-- Out and back: a branch of a true table that was taken out may always come back; then every byte of the book is as it was, and so is every verdict,
-- shortage and group.
use mathlib.Core.Path.{◌≡◌, ap, ◌∙◌, subst}
use mathlib.Core.Bool.{false}
use mathlib.Core.List.{List}
use Prim.Native.Nat.{ℕ, ◌<◌}
use native.Mathlib.Omega.{arith}
use Rattle.rows.specs.Row.{nth}
use Rattle.answer.specs.Answer.{Answer, Accepted}
use Rattle.bits.specs.Field.{set_bit}
use Rattle.bits.proofs.Again.{set_bit_again}
use Rattle.layout.specs.Layout.{branches_in, status_bit}
use Rattle.layout.proofs.AcceptedWhere.{accepted_valid}
use Rattle.layout.proofs.StatusChanged.{bit_kept, count_kept}
use Rattle.verdict.specs.Case.{Case}
use Rattle.verdict.specs.Record.{record_at, TrueTable}
use Rattle.verdict.specs.Update.{Lent}
use Rattle.verdict.proofs.Fitting.{served_self}
use Rattle.verdict.proofs.VerdictByCase.{tables_agree}
use Rattle.state.specs.Case.{case_in}
use Rattle.state.proofs.Status.{served_bit}
use Rattle.outage.specs.Promise.{TakeEnds}
use Rattle.restore.specs.Promise.{BackEnds}
use Rattle.demands.proofs.Ends.{TakeDone, take_done, back_done}
use Rattle.demands.proofs.Demand3.{Stands, take_stands, back_stands}
use Rattle.demands.proofs.Returns.{stands_returns}

-- What a call leaves that undoes the one before it.
pub record Undone (percent : ℕ) (before after : Lent) (s : Answer) : Type 0 where
  pub goes_back : s ≡ Accepted
  pub same_book : after.book ≡ before.book
  pub table_true : TrueTable (case_in percent before.book) after.flow after.table
  -- bytes 0 to 19: verdict, shortage and group
  pub same_shown : (k : ℕ) → k < (case_in percent before.book).branches → (j : ℕ) → j < 20
      → nth (record_at after.table k) j ≡ nth (record_at before.table k) j

-- The bit cleared and set again, by the books that the two calls leave.
book_again : {percent : ℕ} {before mid : Lent} {after : List ℕ} {b : ℕ} → TakeDone percent b before mid
    → after ≡ set_bit mid.book (status_bit mid.book b) 1
    → after ≡ before.book
book_again {percent} {before} {mid} {after} {b} d e =
    let bs = before.book in
    let at = status_bit bs b in
    let n = bit_kept bs b 0 (omega arith) d.passes.there (accepted_valid bs d.passes.passes.book).exact b in
    e
    ∙ ap (λ (x : List ℕ). set_bit x (status_bit x b) 1) d.took.book_is
    ∙ ap (λ (i : ℕ). set_bit (set_bit bs at 0) i 1) n
    ∙ set_bit_again bs at 0 1 (omega arith) (served_bit percent bs b d.passes.there d.passes.in_service)

-- From any true table.
pub out_and_back : {percent : ℕ} {before mid after : Lent} {b : ℕ} {r s : Answer}
    → TrueTable (case_in percent before.book) before.flow before.table
    → TakeEnds percent b before mid r → r ≡ Accepted → BackEnds percent b mid after s → Undone percent before after s
out_and_back {percent} {before} {mid} {after} {b} {r} {s} t e a f =
    let bs = before.book in
    let d = take_done e a in
    let m : Stands percent mid =
    take_stands (record { in_range = d.passes.passes.in_range; book = d.passes.passes.book; table_true = t }) e a in
    let n : branches_in mid.book ≡ branches_in bs =
    ap branches_in d.took.book_is ∙ count_kept bs b 0 (omega arith) d.passes.there (accepted_valid bs d.passes.passes.book).exact in
    let off : (case_in percent mid.book).served b ≡ false =
    ap (λ (D : Case). D.served b) d.took.case_is ∙ served_self (case_in percent bs) b false in
    let x = stands_returns m (omega (arith, d.passes.there)) off f in
    let same = book_again d (back_done f x).brought.book_is in
    let y = subst (λ (l : List ℕ). TrueTable (case_in percent l) after.flow after.table) same (back_stands m f x).table_true in
    record { goes_back = x; same_book = same; table_true = y; same_shown = tables_agree (case_in percent bs) _ _ _ _ y t }
