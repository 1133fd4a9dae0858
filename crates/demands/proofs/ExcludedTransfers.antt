-- Wrong programs that the promise of `move_load` rules out, whatever they are handed.
use mathlib.Core.Path.{◌≡◌, sym, ◌∙◌, subst}
use Prim.Native.Nat.{ℕ, ◌<◌}
use native.Mathlib.Omega.{arith}
use mathlib.Core.Bool.{true}
use lib.IntN.{pos, nat_abs, ◌+ℤ◌, ◌-ℤ◌}
use lib.ListN.{length}
use Rattle.rows.specs.Row.{nth}
use Rattle.answer.specs.declared.Refusal.TheVariants.{InjectionOutside}
use Rattle.answer.specs.Answer.{Answer, Accepted, SaidBy, refused}
use Rattle.answer.proofs.Refusals.{refusal_stands}
use Rattle.layout.specs.Layout.{buses_in, bus_at}
use Rattle.layout.proofs.AcceptedWhere.{accepted_valid}
use Rattle.layout.proofs.Faults.{sound_bus}
use Rattle.verdict.specs.Case.{Case, shifted, on}
use Rattle.verdict.specs.Record.{record_at, SaysShort, TrueRecord}
use Rattle.verdict.specs.Update.{Lent, not_carrying, is_touched}
use Rattle.state.specs.Case.{case_in}
use Rattle.state.proofs.Checked.{Passed, passing}
use Rattle.transfer.specs.Promise.{leaves_range, TransferEnds}
use Rattle.transfer.proofs.Checking.{by_range}
use Rattle.demands.proofs.Ends.{transfer_done}
use Rattle.demands.proofs.Demand1.{call_first}
use Rattle.demands.proofs.Transfers.{transfer_slight, transfer_still, transfer_up}

module _ {percent up down kw : ℕ} {before after : Lent} {r : Answer} (e : TransferEnds percent up down kw before after r) where
  abbrev C : Case
  C = case_in percent before.book

  module _ (a : r ≡ Accepted) where
    -- One that writes a minus zero: no bus of the book that is left has sign 1 and size 0.
    pub minus_zero_left : (k : ℕ) → k < buses_in after.book → nth (bus_at after.book k) 0 ≡ 1 → nth (bus_at after.book k) 1 ≡ 0 → ⊥
    minus_zero_left k l =
        let v = accepted_valid after.book (transfer_done e a).moved.book_accepted in
        (sound_bus _ _ (v.bus_sound k l)).not_minus_zero

    -- One that lets the wrong bus rise.
    pub wrong_bus : ((case_in percent after.book).injection up ≡ C.injection up +ℤ pos kw → ⊥) → ⊥
    wrong_bus n = n (transfer_up e a)

    -- One that keeps a short branch's record: what stands there after the call is true of the changed case.
    pub short_kept : (k : ℕ) → k < C.branches → SaysShort (record_at before.table k)
        → TrueRecord (shifted C up down kw) (on after.flow) k (record_at after.table k)
    short_kept k l v = (transfer_done e a).moved.updated.rewritten k l (not_carrying (λ q. omega arith))

    -- One that keeps a record though its own flow changed.
    pub own_flow_changed : (k : ℕ) → k < C.branches → (on before.flow k ≡ on after.flow k → ⊥)
        → TrueRecord (shifted C up down kw) (on after.flow) k (record_at after.table k)
    own_flow_changed k l n = (transfer_done e a).moved.updated.rewritten k l (is_touched n)

    -- One that changes a flow where 0 is moved.
    pub zero_changed : kw ≡ 0 → (after.flow ≡ before.flow → ⊥) → ⊥
    zero_changed z n = n (transfer_still e a z)

    -- One that drops the flow and screens afresh, where that flow differs by more than kw on some branch.
    pub flow_dropped : (j : ℕ) → j < C.branches → kw < nat_abs (on after.flow j -ℤ on before.flow j) → ⊥
    flow_dropped j l h = omega (arith, transfer_slight e a j l)

  -- One that tests 11 before 20: an injection that would leave its range is refused with 20, whatever the flow.
  pub twenty_first : Passed percent before.book (length before.flow) (length before.table) → up < buses_in before.book
      → down < buses_in before.book → (up ≡ down → ⊥) → leaves_range before.book up down kw ≡ true → SaidBy (refused InjectionOutside) r
  twenty_first p u d n t =
      let c = by_range percent before.book (length before.flow) (length before.table) up down kw (passing _ _ _ p) u d n t in
      subst (λ (o : Answer). SaidBy o r) (sym c) (call_first e (λ q. refusal_stands InjectionOutside (c ∙ q)))
