-- Wrong programs that the promise of `bring_back` rules out, whatever they are handed.
use mathlib.Core.Path.{◌≡◌, refl, sym, ◌∙◌, subst}
use mathlib.Core.Bool.{true}
use Prim.Native.Nat.{ℕ, ◌<◌}
use native.Mathlib.Omega.{arith}
use lib.ListN.{length}
use Rattle.answer.specs.declared.Refusal.TheVariants.{FlowUnfit, AlreadyIn}
use Rattle.answer.specs.Answer.{Answer, Accepted, SaidBy, refused}
use Rattle.answer.proofs.Refusals.{refusal_stands}
use Rattle.bits.specs.Field.{OneBit}
use Rattle.layout.specs.Layout.{buses_in, branches_in, form_in, status_bit, branch_at}
use Rattle.book.proofs.StatusSet.{status_set}
use Rattle.verdict.specs.Case.{Case, back, on, Fits}
use Rattle.verdict.specs.Record.{record_at, verdict_in, SaysShort, TrueRecord}
use Rattle.verdict.specs.Update.{Lent}
use Rattle.state.specs.Case.{case_in}
use Rattle.state.proofs.Checked.{Passed, passing}
use Rattle.state.proofs.Status.{served_status}
use Rattle.switch.proofs.Checking.{by_status}
use Rattle.restore.specs.Promise.{back_check, not_carrying, empty_record, BackEnds}
use Rattle.demands.proofs.Ends.{back_done}
use Rattle.demands.proofs.Demand1.{call_first, call_unfit}
use Rattle.demands.proofs.Returns.{return_flow, return_own, return_rewrites}

module _ {percent : ℕ} {before after : Lent} {b : ℕ} {r : Answer} (e : BackEnds percent b before after r) where
  abbrev C : Case
  C = case_in percent before.book

  module _ (a : r ≡ Accepted) where
    -- One that changes the flow, as a screen of the changed book may.
    pub flow_changed : (after.flow ≡ before.flow → ⊥) → ⊥
    flow_changed n = n (return_flow e a)

    -- One that leaves an old reroute, or another verdict, in the branch's own record.
    pub own_reroute_left : (record_at after.table b ≡ empty_record → ⊥) → ⊥
    own_reroute_left n = n (return_own e a)

    -- One that keeps a short branch's record: what stands there after the call is true of the changed book.
    pub short_kept : (k : ℕ) → k < C.branches → SaysShort (record_at before.table k)
        → TrueRecord (back C b) (on after.flow) k (record_at after.table k)
    short_kept k l v = (back_done e a).brought.renewed.rewritten k l (not_carrying (λ q. omega arith))

    -- One that rewrites more than it must: another branch's record of byte 0 = 1 stays as it was, in service or not and whatever it names.
    pub all_rewritten : (k : ℕ) → k < C.branches → (k ≡ b → ⊥) → verdict_in (record_at before.table k) ≡ 1
        → (record_at after.table k ≡ record_at before.table k → ⊥) → ⊥
    all_rewritten k l n v d = d (return_rewrites e a k l n v)

    -- One that sets another bit: the branch's status bit is 1, and every other bit is as it was.
    pub one_bit_set : OneBit before.book after.book (status_bit before.book b) 1
    one_bit_set =
        let d = back_done e a in
        (status_set before.book after.book b 1 d.passes.passes.book d.passes.there (omega arith) d.brought.book_is).one_bit

  -- One that tests 11 before 17: a branch in service is refused with 17, whatever the flow.
  pub seventeen_first : Passed percent before.book (length before.flow) (length before.table) → b < branches_in before.book
      → C.served b ≡ true
      → SaidBy (refused AlreadyIn) r
  seventeen_first p there on_now =
      let bs = before.book in
      let c = by_status percent bs (length before.flow) (length before.table) b 1 AlreadyIn (passing _ _ _ p) there (branch_at bs b) (form_in bs)
      (buses_in bs) refl refl refl
      (served_status percent bs b there on_now) in
      subst (λ (o : Answer). SaidBy o r) (sym c) (call_first e (λ q. refusal_stands AlreadyIn (c ∙ q)))

  -- One that accepts a flow that doesn't fit: past the checks it is refused with 11.
  pub eleven_after : back_check percent before.book (length before.flow) (length before.table) b ≡ Accepted
      → (Fits C C.limit (on before.flow) → ⊥) → SaidBy (refused FlowUnfit) r
  eleven_after = call_unfit e
