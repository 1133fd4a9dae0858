-- Which end a screen or a call came to, and what it then says.
use mathlib.Core.Path.{◌≡◌, refl, sym, ap, ◌∙◌}
use mathlib.Core.Bool.{true, false}
use mathlib.Core.List.{List}
use Prim.Native.Nat.{ℕ}
use native.Mathlib.Omega.{arith}
use lib.ListN.{length}
use Rattle.rows.specs.Row.{member}
use Rattle.answer.specs.Answer.{Answer, Accepted, SaidBy, number_of}
use Rattle.answer.proofs.Said.{said_accepted, said_same}
use Rattle.answer.proofs.Giving.{Gives}
use Rattle.answer.proofs.Numbers.{gives_not, said_is}
use Rattle.verdict.specs.Case.{Case, Posed, back, shifted, on, Fits}
use Rattle.verdict.specs.Update.{Lent}
use Rattle.verdict.proofs.Fitting.{posed_status}
use Rattle.verdict.proofs.Back.{fits_back}
use Rattle.state.specs.Case.{case_in}
use Rattle.state.specs.Call as call
use Rattle.state.specs.Call.{lent_numbers, OverloadSaid, Ends}
use Rattle.state.proofs.Checked.{lent_gives, posed_passed}
use Rattle.state.proofs.OneOverload.{fits_not_over}
use Rattle.screen.specs.Promise.{screen_check, ScreenEnds, refuses, overloads, accepts}
use Rattle.screen.proofs.AcceptedScreen.{Done, accepted_screen}
use Rattle.outage.specs.Promise.{take_numbers, TakenOut, TakeEnds}
use Rattle.outage.proofs.Checking.{Takeable, takeable, take_gives}
use Rattle.restore.specs.Promise.{back_numbers, BroughtBack, BackEnds}
use Rattle.restore.proofs.Checking.{Returnable, returnable, returning, back_gives}
use Rattle.quantity.proofs.Limits.{full_at_most}
use Rattle.transfer.specs.Promise.{transfer_numbers, Transferred, TransferEnds}
use Rattle.transfer.proofs.Checking.{Movable, movable, transfer_gives}
use Rattle.transfer.proofs.BookShifted.{shifted_posed}

pub number_of_lem : {r s : Answer} → r ≡ s → number_of r ≡ number_of s
number_of_lem e = ap (λ (x : Answer). number_of x) e

pub is_accepted : {r : Answer} → SaidBy Accepted r → r ≡ Accepted
is_accepted s = said_same s said_accepted

pub never_accepted : {r : Answer} {n : ℕ} → number_of r ≡ n → (n ≡ 0 → ⊥) → r ≡ Accepted → ⊥
never_accepted e z a = z (sym e ∙ number_of_lem a)

pub over_not : {C : Case} {r : Answer} → OverloadSaid C r → r ≡ Accepted → ⊥
over_not o = never_accepted o.answer.number_is (λ z. omega arith)

-- A refusal by the checks is no accepted call.
pub refused_not : (ns : List ℕ) (o : Answer) {r : Answer} → member 12 ns ≡ false → Gives ns o
    → (o ≡ Accepted → ⊥) → SaidBy o r → r ≡ Accepted → ⊥
refused_not ns o t g n s e = n (sym (said_is ns o t g s) ∙ e)

-- ---- A screen.
module _ {percent : ℕ} {before after : Lent} {r : Answer} where
  pub done : ScreenEnds percent before after r → r ≡ Accepted → Done percent before after
  done e a = accepted_screen e a

  pub over_12 : ScreenEnds percent before after r → number_of r ≡ 12 → OverloadSaid (case_in percent before.book) r
  unfolding member
  over_12 (refuses n a k) e = absurd (gives_not lent_numbers (screen_check percent before) 12 (lent_gives _ _ _ _) refl (λ z. omega arith)
      (sym a.number_is ∙ e))
  over_12 (overloads c o k) e = o
  over_12 (accepts c a s) e = absurd (omega (arith, a.number_is, e))

-- ---- A call that changes a case.
pub record CallDone (check : Answer) (C : Case) (what : Type 0) (before : Lent) : Type 0 where
  pub passes : check ≡ Accepted
  pub fitted : Fits C C.limit (on before.flow)
  pub did : what

module _ (ns : List ℕ) {check : Answer} {C D : Case} {what : Type 0} {before after : Lent} {r : Answer}
    (z : member 0 ns ≡ false) (t : member 12 ns ≡ false) (g : Gives ns check) where
  -- Accepted, it did what it promises.
  pub call_done : Ends check C D what before after r → r ≡ Accepted → CallDone check C what before
  call_done (call.refuses n a k) e = absurd (refused_not ns _ t g n a e)
  call_done (call.unfit c n a k) e = absurd (never_accepted a.number_is (λ q. omega arith) e)
  call_done (call.overloads c f o k) e = absurd (over_not o e)
  call_done (call.accepts c f a o) e = record { passes = c; fitted = f; did = o }

  -- Refused with 12, it told the base excess of the changed case.
  pub call_over : Ends check C D what before after r → number_of r ≡ 12 → CallDone check C (OverloadSaid D r) before
  call_over (call.refuses n a k) e = absurd (gives_not ns check 12 g t (λ q. omega arith) (sym a.number_is ∙ e))
  call_over (call.unfit c n a k) e = absurd (omega (arith, a.number_is, e))
  call_over (call.overloads c f o k) e = record { passes = c; fitted = f; did = o }
  call_over (call.accepts c f a o) e = absurd (omega (arith, a.number_is, e))

  -- It was accepted or it wasn't.
  pub call-accepted? : Ends check C D what before after r → Dec (r ≡ Accepted)
  call-accepted? (call.refuses n a k) = no (refused_not ns _ t g n a)
  call-accepted? (call.unfit c n a k) = no (never_accepted a.number_is (λ q. omega arith))
  call-accepted? (call.overloads c f o k) = no (over_not o)
  call-accepted? (call.accepts c f a o) = yes (is_accepted a)

-- ---- An outage.
pub record TakeDone (percent b : ℕ) (before after : Lent) : Type 0 where
  pub passes : Takeable percent before.book (length before.flow) (length before.table) b
  pub posed_case : Posed (case_in percent before.book)
  pub fitted : Fits (case_in percent before.book) (case_in percent before.book).limit (on before.flow)
  pub took : TakenOut percent b before after

pub take_done : {percent b : ℕ} {before after : Lent} {r : Answer} → TakeEnds percent b before after r → r ≡ Accepted
    → TakeDone percent b before after
unfolding member
take_done {percent} {b} {before} e a =
    let d = call_done take_numbers refl refl (take_gives _ _ _ _ _) e a in
    let t = takeable before.book (length before.flow) (length before.table) b d.passes in
    record { passes = t; posed_case = posed_passed t.passes; fitted = d.fitted; took = d.did }

-- ---- A return.
-- The branch was out of service, the lent flow fitted, and the call did what it promises.
pub record BackDone (percent b : ℕ) (before after : Lent) : Type 0 where
  pub passes : Returnable percent before.book (length before.flow) (length before.table) b
  pub posed_case : Posed (case_in percent before.book)
  pub fitted : Fits (case_in percent before.book) (case_in percent before.book).limit (on before.flow)
  pub brought : BroughtBack percent b before after

module _ {percent b : ℕ} {before after : Lent} {r : Answer} where
  -- An accepted return has done so.
  pub back_done : BackEnds percent b before after r → r ≡ Accepted → BackDone percent b before after
  unfolding member
  back_done e a =
      let d = call_done back_numbers refl refl (back_gives _ _ _ _ _) e a in
      let t = returnable before.book (length before.flow) (length before.table) b d.passes in
      record { passes = t; posed_case = posed_passed t.passes; fitted = d.fitted; brought = d.did }

  -- A return never ends with 12: the lent flow fits the changed book.
  pub back_never_12 : BackEnds percent b before after r → number_of r ≡ 12 → ⊥
  unfolding member
  back_never_12 e n =
      let C = case_in percent before.book in
      let d = call_over back_numbers refl refl (back_gives _ _ _ _ _) e n in
      let t = returnable before.book (length before.flow) (length before.table) b d.passes in
      fits_not_over (back C b) (on before.flow) r (posed_status C b true (posed_passed t.passes))
      (fits_back C b t.out_now C.limit (on before.flow) d.fitted) d.did

  -- A return that passes its checks, lent a flow that fits, is accepted.
  pub back_accepted : Returnable percent before.book (length before.flow) (length before.table) b
      → Fits (case_in percent before.book) (case_in percent before.book).limit (on before.flow) → BackEnds percent b before after r
      → r ≡ Accepted
  back_accepted t f (call.refuses n a k) = absurd (n (returning _ _ _ b t))
  back_accepted t f (call.unfit c n a k) = absurd (n f)
  back_accepted t f (call.overloads c h o k) = absurd (back_never_12 (call.overloads c h o k) o.answer.number_is)
  back_accepted t f (call.accepts c h a o) = is_accepted a

-- ---- A move of load.
pub movable_posed : {percent : ℕ} {bs : List ℕ} {flows bytes up down kw : ℕ} → Movable percent bs flows bytes up down kw
    → Posed (shifted (case_in percent bs) up down kw)
movable_posed m = shifted_posed m.within m.apart (full_at_most m.passes.in_range)

pub record TransferDone (percent up down kw : ℕ) (before after : Lent) : Type 0 where
  pub passes : Movable percent before.book (length before.flow) (length before.table) up down kw
  pub posed_after : Posed (shifted (case_in percent before.book) up down kw)
  pub fitted : Fits (case_in percent before.book) (case_in percent before.book).limit (on before.flow)
  pub moved : Transferred percent up down kw before after

pub transfer_done : {percent up down kw : ℕ} {before after : Lent} {r : Answer} → TransferEnds percent up down kw before after r → r ≡ Accepted
    → TransferDone percent up down kw before after
unfolding member
transfer_done {percent} {up} {down} {kw} {before} e a =
    let d = call_done transfer_numbers refl refl (transfer_gives _ _ _ _ _ _ _) e a in
    let t = movable before.book (length before.flow) (length before.table) up down kw d.passes in
    record { passes = t; posed_after = movable_posed t; fitted = d.fitted; moved = d.did }
