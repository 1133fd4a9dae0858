-- A book and the same book moved to another form: what a screen or a call on the moved one ends with, the one on the first may end with too, lent the
-- same flow and table. So by uniqueness they answer alike.
use Rattle.answer.specs.declared.Refusal.{Refusal}
use Rattle.answer.specs.declared.Refusal.TheVariants.{AlreadyOut, AlreadyIn}
use mathlib.Core.Path.{◌≡◌, refl, sym, ap, ◌∙◌, subst}
use mathlib.Core.Bool.{Bool, true, false, ◌||◌}
use mathlib.Core.List.{List}
use Prim.Native.Nat.{ℕ, ◌≤◌, ◌<◌}
use native.Mathlib.Omega.{arith}
use borrow.Author.Tests.{leb-false}
use lib.Dec.{leb, eqb}
use lib.IntN.{ℤ, pos, nat_abs, ◌-ℤ◌}
use Rattle.answer.specs.declared.Refusal.TheVariants.{NoTwoBuses, InjectionOutside}
use Rattle.answer.specs.Answer.{Answer, Accepted, SaidBy, and_then, refuse_if}
use Rattle.rows.proofs.Row.{either_false}
use Rattle.bits.specs.Field.{Bytes, set_bit}
use Rattle.layout.specs.declared.Form.{Form}
use Rattle.layout.specs.Layout.{buses_in, branches_in, injection_at, status_bit}
use Rattle.layout.specs.Check.{check_of}
use Rattle.verdict.specs.Case.{Case, out, back, shifted, on, Fits}
use Rattle.verdict.specs.Record.{record_at}
use Rattle.verdict.specs.Update.{Lent, Beyond, FlowChanged, Shortlisted, Renewed}
use Rattle.state.specs.Case.{case_in}
use Rattle.state.specs.Call as call
use Rattle.state.specs.Call.{lent_check, lent, OverloadSaid, Ends}
use Rattle.state.proofs.Status.{branches_of, case_buses, Restated, restates}
use Rattle.switch.specs.Check.{branch_check}
use Rattle.switch.proofs.Checking.{switchable}
use Rattle.screen.specs.Promise.{ScreenEnds, refuses, overloads, accepts}
use Rattle.outage.specs.Promise.{Touched, Confined, TakenOut, TakeEnds}
use Rattle.restore.specs.Promise.{Anew, BroughtBack, BackEnds}
use Rattle.transfer.specs.Promise.{leaves_range, transfer_check, shifted_bytes, Transferred, TransferEnds}
use Rattle.transfer.proofs.Checking.{movable}
use Rattle.transfer.proofs.BookShifted.{case_injection, shifted_accepted, shifted_case}
use Rattle.demands.proofs.Moves.{moved_bytes, MovedTo}
use Rattle.demands.proofs.Unique.{screens_same}
use Rattle.demands.proofs.UniqueCalls.{calls_same}
use Rattle.demands.proofs.UniqueReturns.{returns_same}
use Rattle.demands.proofs.UniqueTransfers.{transfers_same}

-- The lent flow and table beside another book.
abbrev beside : List ℕ → Lent → Lent
beside bs l = lent bs l.flow l.table

module _ (percent : ℕ) {bs : List ℕ} {f : Form} {room room' : List ℕ} (ok : check_of bs ≡ Accepted) (m : MovedTo bs f room room') where
  abbrev moved : List ℕ
  moved = moved_bytes bs f

  count_moved : branches_in moved ≡ branches_in bs
  count_moved = sym (branches_of percent moved) ∙ ap (λ (C : Case). C.branches) (m.same_case percent) ∙ branches_of percent bs

  check_moved : (flows bytes : ℕ) → lent_check percent moved flows bytes ≡ lent_check percent bs flows bytes
  unfolding lent_check
  check_moved flows bytes = rw (ok, m.still_accepted, count_moved) refl

  branch_moved : (flows bytes b v : ℕ) (n : Refusal) → branch_check percent moved flows bytes b v n ≡ branch_check percent bs flows bytes b v n
  unfolding branch_check
  branch_moved flows bytes b v n = rw (check_moved flows bytes, count_moved, m.says) refl

  -- A bus of the book has the same injection in either form, and past the last one neither is looked at.
  buses_moved : buses_in moved ≡ buses_in bs
  buses_moved = sym (case_buses percent moved) ∙ ap (λ (C : Case). C.buses) (m.same_case percent) ∙ case_buses percent bs

  injection_moved : (k : ℕ) → k < buses_in bs → injection_at moved k ≡ injection_at bs k
  injection_moved k l =
      sym (case_injection percent moved k (rw buses_moved l)) ∙ ap (λ (C : Case). C.injection k) (m.same_case percent)
      ∙ case_injection percent bs k l

  transfer_check_moved : (flows bytes up down kw : ℕ) → transfer_check percent moved flows bytes up down kw
      ≡ transfer_check percent bs flows bytes up down kw
  unfolding transfer_check
  transfer_check_moved flows bytes up down kw =
      rw (check_moved flows bytes, buses_moved)
      (ap (and_then (lent_check percent bs flows bytes))
      (go (leb (buses_in bs) up || (leb (buses_in bs) down || eqb up down)) refl))
    where
      go : (t : Bool) → (leb (buses_in bs) up || (leb (buses_in bs) down || eqb up down)) ≡ t
          → refuse_if t NoTwoBuses (refuse_if (leaves_range moved up down kw) InjectionOutside Accepted) ≡ refuse_if t NoTwoBuses (refuse_if (leaves_range bs up down kw) InjectionOutside Accepted)
      go true e = refl
      go false e =
          let a = either_false (leb (buses_in bs) up) _ e in
          let b = either_false (leb (buses_in bs) down) _ a.1 in
          rw (injection_moved up (leb-false (buses_in bs) up a.0), injection_moved down (leb-false (buses_in bs) down b.0)) refl

  -- ---- Screens.
  module _ {flow : List ℤ} {table : List ℕ} {after : Lent} {r : Answer} where
    pub screen_moved : ScreenEnds percent (lent moved flow table) after r → ScreenEnds percent (lent bs flow table) (beside bs after) r
    screen_moved (refuses n a k) =
        refuses (λ q. n (check_moved _ _ ∙ q)) (subst (λ (o : Answer). SaidBy o r) (check_moved _ _) a) (ap (beside bs) k)
    screen_moved (overloads c o k) = overloads (sym (check_moved _ _) ∙ c) (subst (λ (C : Case). OverloadSaid C r) (m.same_case percent) o)
        (ap (beside bs) k)
    screen_moved (accepts c a s) = accepts (sym (check_moved _ _) ∙ c) a (record {
      table_true = rw (← m.same_case percent) s.table_true;
      book_kept = refl;
      beyond = near s.beyond;
    })
      where
        near : Beyond (case_in percent moved) (lent moved flow table) after → Beyond (case_in percent bs) (lent bs flow table) (beside bs after)
        near d = rw (← m.same_case percent)
            (record { flow_long = d.flow_long; flow_rest = d.flow_rest; table_long = d.table_long; table_rest = d.table_rest })

    pub screens_alike : {one : Lent} {s : Answer} → ScreenEnds percent (lent bs flow table) one s
        → ScreenEnds percent (lent moved flow table) after r → s ≡ r
    screens_alike x y = (screens_same x (screen_moved y)).answers

  -- ---- Calls that change the case. X is what the one on the moved book did, Y what the one on the first may then have done, with the book bs'.
  ends_moved : {check check' : Answer} {C C' D D' : Case} {X : Type 0} {flow : List ℤ} {table : List ℕ} {after : Lent} {r : Answer}
      (Y : List ℕ → Type 0)
      → check ≡ check' → C ≡ C' → D ≡ D' → (check' ≡ Accepted → X → (bs' : List ℕ) × Y bs')
      → Ends check C D X (lent moved flow table) after r → (bs' : List ℕ) × Ends check' C' D' (Y bs') (lent bs flow table) (beside bs' after) r
  ends_moved {r = r} Y e c d did (call.refuses n a k) =
      (bs, call.refuses (λ q. n (e ∙ q)) (subst (λ (o : Answer). SaidBy o r) e a) (ap (beside bs) k))
  ends_moved {flow = flow} Y e c d did (call.unfit q n a k) =
      (bs, call.unfit (sym e ∙ q) (λ h. n (subst (λ (C : Case). Fits C C.limit (on flow)) (sym c) h)) a (ap (beside bs) k))
  ends_moved {flow = flow} {r = r} Y e c d did (call.overloads q h o k) = (
    bs,
    call.overloads (sym e ∙ q) (subst (λ (C : Case). Fits C C.limit (on flow)) c h) (subst (λ (D : Case). OverloadSaid D r) d o)
        (ap (beside bs) k),
  )
  ends_moved {flow = flow} Y e c d did (call.accepts q h a o) =
      let x = did (sym e ∙ q) o in
      (x.0, call.accepts (sym e ∙ q) (subst (λ (C : Case). Fits C C.limit (on flow)) c h) a x.1)

  -- The book has its own status bit changed.
  restated_at : (flows bytes b v : ℕ) (n : Refusal) → v < 2 → branch_check percent bs flows bytes b v n ≡ Accepted
      → Restated percent bs b v (set_bit bs (status_bit bs b) v)
  restated_at flows bytes b v n l c = restates percent bs b v ok (switchable bs flows bytes b v n c).there l

  module _ {flow : List ℤ} {table : List ℕ} {after : Lent} where
    renewed_moved : (change : Case → Case) (listed : Case → ℕ → Type 0) (bs' : List ℕ)
        → Renewed (change (case_in percent moved)) (listed (case_in percent moved)) (lent moved flow table) after
        → Renewed (change (case_in percent bs)) (listed (case_in percent bs)) (lent bs flow table) (beside bs' after)
    renewed_moved change listed bs' u = subst (λ (C : Case). Renewed (change C) (listed C) (lent bs flow table) (beside bs' after))
        (m.same_case percent)
        (record {
          fits = u.fits;
          rewritten = u.rewritten;
          kept = u.kept;
          beyond = record {
            flow_long = u.beyond.flow_long;
            flow_rest = u.beyond.flow_rest;
            table_long = u.beyond.table_long;
            table_rest = u.beyond.table_rest;
          };
        })

    pub take_moved : {b : ℕ} {r : Answer} → TakeEnds percent b (lent moved flow table) after r
        → (bs' : List ℕ) × TakeEnds percent b (lent bs flow table) (beside bs' after) r
    take_moved {b} = ends_moved (λ bs'. TakenOut percent b (lent bs flow table) (beside bs' after)) (branch_moved _ _ b 0 AlreadyOut) (m.same_case percent)
        (ap (λ (C : Case). out C b) (m.same_case percent)) (λ c o.
        let s = restated_at _ _ b 0 AlreadyOut (omega arith) c in (
          set_bit bs (status_bit bs b) 0,
          record {
            book_is = refl;
            book_accepted = s.book;
            case_is = s.case_is;
            updated = renewed_moved (λ C. out C b) (λ C. Shortlisted (out C b) table (Touched (on flow) (on after.flow) b)) _ o.updated;
            idle = subst (λ (C : Case). on flow b ≡ pos 0 → (j : ℕ) → j < C.branches → on after.flow j ≡ on flow j) (m.same_case percent)
                o.idle;
            confined = subst
                (λ (C : Case). (h : ℕ → ℤ) → Fits (out C b) C.limit h → Confined C (on flow) (record_at table b) b h
                → Confined C (on flow) (record_at table b) b (on after.flow))
                (m.same_case percent) o.confined;
          },
        ))

    pub back_moved : {b : ℕ} {r : Answer} → BackEnds percent b (lent moved flow table) after r
        → (bs' : List ℕ) × BackEnds percent b (lent bs flow table) (beside bs' after) r
    back_moved {b} = ends_moved (λ bs'. BroughtBack percent b (lent bs flow table) (beside bs' after)) (branch_moved _ _ b 1 AlreadyIn)
        (m.same_case percent)
        (ap (λ (C : Case). back C b) (m.same_case percent)) (λ c o.
        let s = restated_at _ _ b 1 AlreadyIn (omega arith) c in (
          set_bit bs (status_bit bs b) 1,
          record {
            book_is = refl;
            book_accepted = s.book;
            case_is = s.case_is;
            flow_is = o.flow_is;
            own_is = o.own_is;
            renewed = renewed_moved (λ C. back C b) (λ C. Anew table b) _ o.renewed;
          },
        ))

    pub takes_alike : {b : ℕ} {one : Lent} {r s : Answer} → TakeEnds percent b (lent bs flow table) one s
        → TakeEnds percent b (lent moved flow table) after r → s ≡ r
    takes_alike x y = (calls_same x (take_moved y).1).answers

    pub backs_alike : {b : ℕ} {one : Lent} {r s : Answer} → BackEnds percent b (lent bs flow table) one s
        → BackEnds percent b (lent moved flow table) after r → s ≡ r
    backs_alike x y = (returns_same x (back_moved y).1).same.answers

    -- The bytes lent are bytes, as the machine's are.
    pub transfer_moved : {up down kw : ℕ} {r : Answer} → Bytes bs → TransferEnds percent up down kw (lent moved flow table) after r
        → (bs' : List ℕ) × TransferEnds percent up down kw (lent bs flow table) (beside bs' after) r
    transfer_moved {up} {down} {kw} whole = ends_moved (λ bs'. Transferred percent up down kw (lent bs flow table) (beside bs' after))
        (transfer_check_moved _ _ up down kw) (m.same_case percent)
        (ap (λ (C : Case). shifted C up down kw) (m.same_case percent)) (λ c o.
        let s = movable bs _ _ up down kw c in (
          shifted_bytes bs up down kw,
          record {
            bytes = whole;
            book_is = refl;
            book_accepted = shifted_accepted s.within s.apart;
            case_is = shifted_case s.within s.apart percent;
            updated = renewed_moved (λ C. shifted C up down kw)
                (λ C. Shortlisted (shifted C up down kw) table (FlowChanged (on flow) (on after.flow))) _ o.updated;
            slight = subst (λ (C : Case). (j : ℕ) → j < C.branches → nat_abs (on after.flow j -ℤ on flow j) ≤ kw)
                (m.same_case percent) o.slight;
          },
        ))

    pub transfers_alike : {up down kw : ℕ} {one : Lent} {r s : Answer} → Bytes bs → TransferEnds percent up down kw (lent bs flow table) one s
        → TransferEnds percent up down kw (lent moved flow table) after r → s ≡ r
    transfers_alike whole x y = (transfers_same x (transfer_moved whole y).1).answers
