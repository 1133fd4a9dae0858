-- A call leaves the book in the form that it was lent in, whatever it answers.
use Rattle.answer.specs.declared.Refusal.TheVariants.{AlreadyOut, AlreadyIn}
use mathlib.Core.Path.{◌≡◌, sym, ap, ◌∙◌}
use Prim.Native.Nat.{ℕ}
use native.Mathlib.Omega.{arith}
use lib.ListN.{length}
use Rattle.answer.specs.Answer.{Answer}
use Rattle.layout.specs.Book.{Book}
use Rattle.layout.specs.Layout.{form_in, book_of}
use Rattle.layout.proofs.AcceptedWhere.{accepted_valid}
use Rattle.layout.proofs.StatusChanged.{form_kept}
use Rattle.layout.proofs.WellFormed.{form_of_lem}
use Rattle.verdict.specs.Update.{Lent}
use Rattle.state.specs.Call.{refuses, unfit, overloads, accepts}
use Rattle.switch.proofs.Checking.{switchable}
use Rattle.outage.specs.Promise.{TakeEnds}
use Rattle.restore.specs.Promise.{BackEnds}
use Rattle.transfer.specs.Promise.{TransferEnds}
use Rattle.transfer.proofs.Checking.{movable}
use Rattle.transfer.proofs.BookShifted.{shifted_book}

abbrev Kept : Lent → Lent → Type 0
Kept before after = form_in after.book ≡ form_in before.book

refused_kept : {before after : Lent} → after ≡ before → Kept before after
refused_kept k = ap (λ (l : Lent). form_in l.book) k

module _ {percent b : ℕ} {before after : Lent} {r : Answer} where
  pub take_keeps_form : TakeEnds percent b before after r → Kept before after
  take_keeps_form (refuses n a k) = refused_kept k
  take_keeps_form (unfit c n a k) = refused_kept k
  take_keeps_form (overloads c f o k) = refused_kept k
  take_keeps_form (accepts c f a o) =
      let s = switchable before.book (length before.flow) (length before.table) b 0 AlreadyOut c in
      ap form_in o.book_is ∙ form_kept before.book b 0 (omega arith) s.there (accepted_valid before.book s.passes.book).exact

  pub back_keeps_form : BackEnds percent b before after r → Kept before after
  back_keeps_form (refuses n a k) = refused_kept k
  back_keeps_form (unfit c n a k) = refused_kept k
  back_keeps_form (overloads c f o k) = refused_kept k
  back_keeps_form (accepts c f a o) =
      let s = switchable before.book (length before.flow) (length before.table) b 1 AlreadyIn c in
      ap form_in o.book_is ∙ form_kept before.book b 1 (omega arith) s.there (accepted_valid before.book s.passes.book).exact

pub transfer_keeps_form : {percent up down kw : ℕ} {before after : Lent} {r : Answer} → TransferEnds percent up down kw before after r
    → Kept before after
transfer_keeps_form (refuses n a k) = refused_kept k
transfer_keeps_form (unfit c n a k) = refused_kept k
transfer_keeps_form (overloads c f o k) = refused_kept k
transfer_keeps_form {percent} {up} {down} {kw} {before} {after} (accepts c f a o) =
    let m = movable before.book (length before.flow) (length before.table) up down kw c in
    sym (form_of_lem after.book) ∙ ap (λ (b : Book). b.form) (ap book_of o.book_is ∙ shifted_book m.within m.apart) ∙ form_of_lem before.book
