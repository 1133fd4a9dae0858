-- Demand 2, over the promise of `screen` alone: what an accepted screen shows of every branch, and what a refusal with 12 shows.
use mathlib.Core.Path.{◌≡◌, sym, subst}
use mathlib.Core.Bool.{true, false}
use mathlib.Core.List.{List}
use mathlib.Core.Logic.{◌↔◌, ◌⊎◌, inl, inr}
use Prim.Native.Nat.{ℕ, ◌+◌, ◌≤◌, ◌<◌}
use native.Mathlib.Omega.{arith}
use lib.IntN.{ℤ, pos, nat_abs}
use lib.Signed.{◌≤ℤ◌, ◌<ℤ◌}
use Rattle.rows.specs.Sum.{Group}
use Rattle.rows.specs.Bit.{has}
use Rattle.answer.specs.Answer.{Answer, Accepted, number_of, shortage_of, group_of}
use Rattle.grid.proofs.Net.{gains, loads, ratings}
use Rattle.verdict.specs.Case.{Case, Posed, out, on, Fits}
use Rattle.verdict.specs.Excess.{P, R, RWithout, one_end, excess, excess_without, NoExcess, Overload, Carries, Short}
use Rattle.verdict.specs.Record.{record_at, verdict_in, SaysShort, shortage_in, group_in, Zero, TrueRecord}
use Rattle.verdict.specs.Update.{Lent}
use Rattle.verdict.proofs.Plain.{base, excess_above, no_excess_plain, overload_plain}
use Rattle.verdict.proofs.Fitting.{fits_none}
use Rattle.verdict.proofs.Loss.{never_overload}
use Rattle.verdict.proofs.Shown as told
use Rattle.state.specs.Case.{case_in}
use Rattle.state.proofs.Checked.{passed, posed_passed}
use Rattle.screen.specs.Promise.{screen_check, ScreenEnds, refuses, overloads, accepts}
use Rattle.demands.proofs.Ends.{done, over_12, is_accepted}

module _ {percent : ℕ} {before after : Lent} {r : Answer} (e : ScreenEnds percent before after r) where
  abbrev C : Case
  C = case_in percent before.book

  -- ---- An accepted screen, branch by branch.
  module _ (a : r ≡ Accepted) (k : ℕ) (there : k < C.branches) where
    abbrev rec : List ℕ
    rec = record_at after.table k

    pub is_true : TrueRecord C (on after.flow) k rec
    is_true = (done e a).screened.table_true.each k there

    pub posed_case : Posed C
    posed_case = (done e a).posed_case

    -- 0 exactly if it is out of service.
    pub out_exactly : (verdict_in rec ≡ 0) ↔ (C.served k ≡ false)
    out_exactly = told.out_exactly C posed_case (on after.flow) k rec is_true

    -- Short: the shortage is the largest excess, and the group the smallest surplus group having it.
    pub short_shows : SaysShort rec → Short C k (shortage_in rec) (group_in rec)
    short_shows = told.short_shows C posed_case (on after.flow) k rec is_true

    -- It is a surplus group, and no group of either sign has more.
    pub short_surplus : SaysShort rec → pos 0 <ℤ P C (group_in rec)
    short_surplus v = told.short_surplus C k (shortage_in rec) (group_in rec) (short_shows v)

    pub short_either_way : SaysShort rec → (T : Group) → one_end C k T ≡ true → nat_abs (P C T) ≤ RWithout C k T + shortage_in rec
    short_either_way v = told.both_ways_lem C k (shortage_in rec) posed_case (short_shows v).largest

    -- Otherwise neither is shown: bytes 1 to 19 are 0.
    pub else_zero : (SaysShort rec → ⊥) → Zero rec 1 20
    else_zero = told.else_zero C posed_case (on after.flow) k rec is_true

    module _ (in_service : C.served k ≡ true) where
      -- 2 or 3 exactly if some group holding exactly one of its ends has a surplus above what the other branches leaving the group may carry.
      pub short_exactly : SaysShort rec ↔ ((S : Group) × (one_end C k S ≡ true) × (pos (RWithout C k S) <ℤ P C S))
      short_exactly = told.short_exactly C posed_case (on after.flow) k rec is_true in_service

      -- Deficit groups count too, and it is the same: a deficit group's rest has the same surplus.
      pub short_either : SaysShort rec ↔ ((S : Group) × (one_end C k S ≡ true) × (RWithout C k S < nat_abs (P C S)))
      short_either = told.short_either C posed_case (on after.flow) k rec is_true in_service

      -- 1 exactly if none has.
      pub carries_exactly : (verdict_in rec ≡ 1) ↔ ((S : Group) → one_end C k S ≡ true → excess_without C k S ≤ℤ pos 0)
      carries_exactly = told.carries_exactly C posed_case (on after.flow) k rec is_true in_service

      -- A branch in service carries or is short, and not both.
      pub one_of_two : (verdict_in rec ≡ 1) ⊎ SaysShort rec
      one_of_two = told.one_of_two C posed_case (on after.flow) k rec is_true in_service

      pub not_both : Carries C k → (v : ℕ) (S : Group) → Short C k v S → ⊥
      not_both = told.not_both C posed_case (on after.flow) k rec is_true in_service

      -- It carries exactly if a fitting flow without it exists.
      pub carries_flow : (verdict_in rec ≡ 1) ↔ ((g : ℕ → ℤ) × Fits (out C k) C.loss_limit g)
      carries_flow = told.carries_flow C posed_case (on after.flow) k rec is_true in_service

  -- ---- The base excess.
  -- Refused with 12: the excess shown is the base excess, above 0, and the group the smallest reaching it.
  pub refused_shows : number_of r ≡ 12 → Overload C (shortage_of r) (has (group_of r))
  refused_shows n =
      let o = over_12 e n in
      subst (λ (v : ℕ). Overload C v (has (group_of r))) (sym o.answer.shortage_is) (subst (λ (g : List ℕ). Overload C o.shortage (has g)) (sym o.answer.group_is) o.overload)

  pub refused_surplus : number_of r ≡ 12 → pos 0 <ℤ P C (has (group_of r))
  refused_surplus n = told.overload_surplus C (shortage_of r) (has (group_of r)) (refused_shows n)

  module _ (checked : screen_check percent before ≡ Accepted) where
    posed_here : Posed C
    posed_here = posed_passed (passed before.book _ _ checked)

    -- Refused with 12 exactly if some group has a surplus above what the branches leaving it may carry.
    pub refused_exactly : (number_of r ≡ 12) ↔ ((S : Group) × (pos (R C S) <ℤ P C S))
    refused_exactly = (
      λ n.
          let o = over_12 e n in
          let m = (overload_plain C o.shortage (has o.group)).0 o.overload in
          (has o.group, (excess_above C (has o.group)).1 (omega (arith, m.above, m.smallest.reaches))),
      λ w. from e w.0 ((excess_above C w.0).0 w.1),
    )
      where
        from : ScreenEnds percent before after r → (S : Group) → loads (base C) S + ratings (base C) S < gains (base C) S → number_of r ≡ 12
        from (refuses n a k) S h = absurd (n checked)
        from (overloads c o k) S h = o.answer.number_is
        from (accepts c a s) S h = absurd (omega (arith, (no_excess_plain C).0 (fits_none C (on after.flow) posed_here s.table_true.fits) S))

    -- Otherwise it is accepted.
    pub accepted_or_12 : (r ≡ Accepted) ⊎ (number_of r ≡ 12)
    accepted_or_12 = go e
      where
        go : ScreenEnds percent before after r → (r ≡ Accepted) ⊎ (number_of r ≡ 12)
        go (refuses n a k) = absurd (n checked)
        go (overloads c o k) = inr o.answer.number_is
        go (accepts c a s) = inl (is_accepted a)

    -- A fitting flow exists exactly if the base excess is 0.
    pub fitting_exactly : ((g : ℕ → ℤ) × Fits C C.limit g) ↔ ((S : Group) → excess C S ≤ℤ pos 0)
    fitting_exactly = (
      λ w. fits_none C w.0 posed_here w.1,
      λ h. from e h,
    )
      where
        from : ScreenEnds percent before after r → NoExcess C → (g : ℕ → ℤ) × Fits C C.limit g
        from (refuses n a k) h = absurd (n checked)
        from (overloads c o k) h = absurd (never_overload C o.shortage (has o.group) h o.overload)
        from (accepts c a s) h = (on after.flow, s.table_true.fits)
