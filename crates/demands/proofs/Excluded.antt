-- Wrong programs that the promise of `take_out` rules out, whatever they are handed.
use mathlib.Core.Path.{◌≡◌, sym, ap, ◌∙◌}
use mathlib.Core.Bool.{false, true≢false}
use mathlib.Core.List.{List}
use Prim.Native.Nat.{ℕ, ◌<◌}
use native.Mathlib.Omega.{arith}
use lib.IntN.{ℤ}
use lib.ListN.{length}
use Rattle.answer.specs.declared.Refusal.TheVariants.{FlowUnfit}
use Rattle.answer.specs.Answer.{Answer, Accepted, SaidBy, refused}
use Rattle.bits.specs.Field.{OneBit}
use Rattle.layout.specs.Layout.{status_bit}
use Rattle.book.proofs.StatusSet.{status_set}
use Rattle.verdict.specs.Case.{Case, out, on, Fits}
use Rattle.verdict.specs.Excess.{Short}
use Rattle.verdict.specs.Record.{record_at, verdict_in, SaysShort, shortage_in, group_in, names, TrueRecord, TrueTable}
use Rattle.verdict.specs.Update.{Lent, Shortlisted, not_served, not_carrying, is_touched}
use Rattle.verdict.proofs.Fitting.{served_self, posed_status}
use Rattle.verdict.proofs.Shown as told
use Rattle.state.specs.Case.{case_in}
use Rattle.state.proofs.Status.{branches_of}
use Rattle.outage.specs.Promise.{Touched, changed, Confined, take_check, TakeEnds}
use Rattle.demands.specs.Run.{Run}
use Rattle.demands.proofs.Ends.{take_done}
use Rattle.demands.proofs.Demand1.{call_unfit}
use Rattle.demands.proofs.Demand3.{call_confined}

module _ {percent : ℕ} {before after : Lent} {b : ℕ} {r : Answer} (e : TakeEnds percent b before after r) where
  abbrev C : Case
  C = case_in percent before.book

  -- One that leaves the book as it was.
  pub book_unchanged : r ≡ Accepted → after.book ≡ before.book → ⊥
  book_unchanged a same =
      let d = take_done e a in
      true≢false (sym d.passes.in_service ∙ ap (λ (bs : List ℕ). (case_in percent bs).served b) (sym same) ∙ ap (λ (D : Case). D.served b)
      d.took.case_is ∙ served_self C b false)

  -- One that clears the bit and leaves a table that was true.
  pub table_unchanged : r ≡ Accepted → TrueTable C before.flow before.table → after.table ≡ before.table → ⊥
  table_unchanged a t same =
      let d = take_done e a in
      let u : b < C.branches = omega (arith, branches_of percent before.book, d.passes.there) in
      let off : (out C b).served b ≡ false = served_self C b false in
      let anew = (told.out_exactly (out C b) (posed_status C b false d.posed_case) (on after.flow) b (record_at after.table b) (d.took.updated.rewritten b u (not_served off))).1 off in
      let was : verdict_in (record_at before.table b) ≡ 0 = ap (λ (x : List ℕ). verdict_in (record_at x b)) (sym same) ∙ anew in
      true≢false (sym d.passes.in_service ∙ (told.out_exactly C d.posed_case (on before.flow) b (record_at before.table b) (t.each b u)).0 was)

  -- One that takes a short branch's old record over: what stands there after the call is what the changed book defines.
  pub short_anew : r ≡ Accepted → (k : ℕ) → k < C.branches → SaysShort (record_at before.table k) → SaysShort (record_at after.table k)
      → Short (out C b) k (shortage_in (record_at after.table k)) (group_in (record_at after.table k))
  short_anew a k u v v' =
      let d = take_done e a in
      told.short_shows (out C b) (posed_status C b false d.posed_case) (on after.flow) k (record_at after.table k) (d.took.updated.rewritten k u (not_carrying (λ q. omega arith))) v'

  -- One that keeps a record since its reroute is untouched, though its own flow changed: what stands there is true of the new flow.
  pub own_flow_changed : r ≡ Accepted → (k : ℕ) → k < C.branches → (on before.flow k ≡ on after.flow k → ⊥) → TrueRecord (out C b) (on after.flow) k (record_at after.table k)
  own_flow_changed a k u d = (take_done e a).took.updated.rewritten k u (is_touched (changed d))

  -- One that rewrites a record off the shortlist.
  pub off_the_list : r ≡ Accepted → (k : ℕ) → k < C.branches → (Shortlisted (out C b) before.table (Touched (on before.flow) (on after.flow) b) k → ⊥)
      → record_at after.table k ≡ record_at before.table k
  off_the_list a = (take_done e a).took.updated.kept

  -- One that clears another bit: the branch's status bit is 0, and every other bit is as it was.
  pub one_bit_cleared : r ≡ Accepted → OneBit before.book after.book (status_bit before.book b) 0
  one_bit_cleared a = let d = take_done e a in (status_set before.book after.book b 0 d.passes.passes.book d.passes.there (omega arith) d.took.book_is).one_bit

  -- One that drops the flow and screens afresh, so that flow changed outside the recorded reroute, though some flow within it fits.
  pub flow_dropped : Run percent before → r ≡ Accepted → (h : ℕ → ℤ) → Fits (out C b) C.limit h
      → Confined C (on before.flow) (record_at before.table b) b h
      → (j : ℕ) → j < C.branches → (j ≡ b → ⊥) → names (record_at before.table b) j ≡ false → (on after.flow j ≡ on before.flow j → ⊥) → ⊥
  flow_dropped run a h w c j u n q d = d (call_confined run e a h w c j u n q)

  -- One that tests 11 after 12: a lent flow that doesn't fit is refused with 11, whatever the changed book's excess.
  pub eleven_first : take_check percent before.book (length before.flow) (length before.table) b ≡ Accepted
      → (Fits C C.limit (on before.flow) → ⊥) → SaidBy (refused FlowUnfit) r
  eleven_first = call_unfit e
