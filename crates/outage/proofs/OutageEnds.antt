-- Each way in which an outage call ends meets its promise.
use mathlib.Core.Path.{◌≡◌, refl, sym, ap, ◌∙◌}
use mathlib.Core.Bool.{Bool, true, false}
use mathlib.Core.List.{List}
use mathlib.Core.Logic.{inl, inr}
use Prim.Native.Nat.{ℕ, ◌+◌, ◌*◌, ◌≤◌, ◌<◌}
use native.Mathlib.Omega.{arith}
use native.Mathlib.Decide.{ℕ_discrete}
use lib.IntN.{ℤ, pos, ◌-ℤ◌}
use lib.ListN.{length, set, take, drop}
use Rattle.std.specs.Prelude.{None, Some}
use Rattle.rows.specs.Row.{nth, member, headed}
use Rattle.rows.proofs.Row.{headed_rest, length_headed}
use Rattle.rows.specs.Bit.{has}
use Rattle.answer.specs.declared.Refusal.TheVariants.{FlowUnfit}
use Rattle.answer.specs.Answer.{Answer, Accepted, number_of, overloaded, refused}
use Rattle.answer.proofs.Refusals.{refusal_stands}
use Rattle.answer.proofs.Said.{said_accepted, said_refused}
use Rattle.answer.proofs.Numbers.{gives_said}
use Rattle.bits.specs.Field.{set_bit}
use Rattle.layout.specs.Layout.{status_bit}
use Rattle.search.specs.declared.Latent.{Latent}
use Rattle.reroute.specs.InsideVerdicts.{Losable}
use Rattle.reroute.specs.declared.Judgement.{Judgement}
use Rattle.reroute.specs.declared.Shortfall.{Shortfall}
use Rattle.replace.specs.Inside.{Replaced}
use Rattle.verdict.specs.Case.{Case, out, on, Fits}
use Rattle.verdict.specs.Record.{record_at}
use Rattle.verdict.proofs.Normal.{normal, fits_normal}
use Rattle.state.specs.Case.{case_in}
use Rattle.state.specs.Call.{lent, refuses, unfit, overloads, accepts}
use Rattle.state.specs.Inside.{Held, State, Surveyed, Raisable, Raised, Fillable, Poised, Listing, Rewritten}
use Rattle.state.specs.declared.Survey.{Survey}
use Rattle.state.proofs.Surveying.{branch_there, sizes}
use Rattle.state.proofs.Status.{restates}
use Rattle.state.proofs.TrueRecords.{losable}
use Rattle.state.proofs.Raising.{overload_normal, raisable, raised_state}
use Rattle.switch.specs.Inside.{With}
use Rattle.switch.proofs.Switched.{held_switched}
use Rattle.shortlist.specs.Inside.{listed_at}
use Rattle.shortlist.proofs.Shortlisting.{updated}
use Rattle.outage.specs.Inside.{Marked}
use Rattle.outage.specs.Promise.{Touched, itself, changed, take_check, take_numbers, TakeCounted}
use Rattle.outage.specs.declared.Taken.{Taken}
use Rattle.outage.proofs.Checking.{Takeable, takeable, take_gives}
use Rattle.outage.proofs.FlowLeft as leaving
use Rattle.outage.proofs.Touching.{judges}

module _ (percent : ℕ) (bs : List ℕ) (flow : List ℤ) (table : List ℕ) (b : ℕ) where
  abbrev checks : Answer
  checks = take_check percent bs (length flow) (length table) b

  abbrev C : Case
  C = case_in percent bs

  -- Refused by its checks.
  pub ends_refused : {r : Taken} (o : Answer) → o ≡ checks → (o ≡ Accepted → ⊥) → (r.answer ≡ o) × (r.judged ≡ 0)
      → TakeCounted percent b (lent bs flow table) (lent bs flow table) r
  unfolding member
  ends_refused o e n a = record {
    ends = refuses (λ q. n (e ∙ q))
        (gives_said take_numbers checks refl (take_gives percent bs (length flow) (length table) b) (a.0 ∙ e)) refl;
    judges = λ q. absurd (n (sym a.0 ∙ q));
    none = λ _. a.1;
  }

  module _ (ok : checks ≡ Accepted) where
    pub may : Takeable percent bs (length flow) (length table) b
    may = takeable bs (length flow) (length table) b ok

    pub ends_unfit : {q : Survey} {t : Taken} → Surveyed percent bs flow q → q.latent ≡ None → t.answer ≡ refused FlowUnfit → t.judged ≡ 0
        → TakeCounted percent b (lent bs flow table) (lent bs flow table) t
    ends_unfit p e a z = record {
      ends = unfit ok (p.unfit e) (rw a (said_refused FlowUnfit (λ z. omega arith))) refl;
      judges = λ q. absurd (refusal_stands FlowUnfit (sym a ∙ q));
      none = λ _. z;
    }

    module _ (q : Survey) (p : Surveyed percent bs flow q) (lat : Latent) (e : q.latent ≡ Some lat) where
      there : b < C.branches
      there = branch_there p may.there

      -- The sizes that the calls on the way ask for.
      pub touched_here : (q.wires.branches ≤ 256) × (b < q.wires.branches)
      touched_here = let s = sizes p may.there in (s.1, s.2)

      pub below_here : b < 256
      below_here = let s = sizes p may.there in omega (arith, s.1, s.2)

      pub table_room : 52 * q.wires.branches ≤ length table
      table_room = omega (arith, may.passes.table_room, p.branches_are)

      pub stretch_here : 52 * b + 52 ≤ length table
      stretch_here = omega (arith, table_room, touched_here.1)

      state : State (normal C) (on flow) q.wires q.served q.live lat
      state = p.fitting lat e

      lent_fits : Fits C C.limit (on flow)
      lent_fits = (fits_normal C C.limit (on flow)).1 state.fits

      pub losable_here : Losable q.wires q.live lat b
      losable_here = losable (normal C) (on flow) q.wires q.served q.live lat state b (sizes p may.there).2

      module _ (named : List ℕ) (y : Judgement) (z : Replaced q.wires q.live lat named b y) where
        pub ends_short : {t : Taken} (x : Shortfall) → y.short ≡ Some x
            → (t.answer ≡ overloaded x.excess x.group) × (t.judged ≡ 0) → TakeCounted percent b (lent bs flow table) (lent bs flow table) t
        ends_short x v a = record {
          ends = overloads ok lent_fits
              (rw a.0
              (overload_normal (out C b) _
              (leaving.overload_out (normal C) refl flow q.wires q.served q.live lat state b there named y z x v))) refl;
          judges = λ q. absurd (omega (arith, ap number_of (sym a.0 ∙ q)));
          none = λ _. a.1;
        }

        module _ {served : List Bool} (served-left : With q.served b false served) {live : List ℕ} (live-left : With q.live b 0 live)
            {brief : List ℕ} (brief-left : With q.brief b 0 brief) where
          abbrev ls : length q.served ≡ 256
          ls = served-left.long

          abbrev ll : length q.live ≡ 256
          ll = live-left.long

          pub fillable_here : Fillable q.wires.branches live y.latent.ahead (length flow)
          fillable_here = rw live-left.row_is
              (leaving.fillable_out (normal C) refl flow q.wires q.served q.live lat state b there named y z ls ll (length flow)
              (omega (arith, may.passes.flow_room, p.branches_are)))

          module _ (v : y.short ≡ None) (flow' : List ℤ)
              (flow-left : flow' ≡ headed q.wires.branches (λ j. pos (nth live j) -ℤ pos (nth y.latent.ahead j)) flow) where
            flow_is : flow' ≡ headed q.wires.branches (λ j. pos (nth (set q.live b 0) j) -ℤ pos (nth y.latent.ahead j)) flow
            flow_is = flow-left ∙ ap (λ (l : List ℕ). headed q.wires.branches (λ j. pos (nth l j) -ℤ pos (nth y.latent.ahead j)) flow) live-left.row_is

            state_here : State (normal (out C b)) (on flow') q.wires (set q.served b false) (set q.live b 0) y.latent
            state_here =
                leaving.state_out (normal C) refl flow q.wires q.served q.live lat state b there named y z ls ll flow' flow_is v

            state_left : State (normal (out C b)) (on flow') q.wires served live y.latent
            state_left = rw (served-left.row_is, live-left.row_is) state_here

            held_left : Held (out C b) q.wires served brief
            held_left = rw (served-left.row_is, brief-left.row_is)
                (held_switched C q.wires q.served q.brief p.held ls brief-left.long b
                (omega (arith, there, p.held.posed.few_branches)) false 0 refl)

            pub raisable_here : Raisable q.wires.branches live brief y.latent
            raisable_here = raisable (out C b) (on flow') q.wires served live brief y.latent state_left held_left

            state_raised : {left : Latent} → Raised q.wires.branches live brief y.latent left
                → State (out C b) (on flow') q.wires served brief left
            state_raised up = raised_state (out C b) (on flow') q.wires served live brief y.latent state_left held_left up

            pub poised_here : {left : Latent} → Raised q.wires.branches live brief y.latent left → Poised q.wires served brief left
            poised_here up = record { case = out C b; flow = on flow'; state = state_raised up }

            module _ (touched : List ℕ) (m : Marked q.wires.branches lat.ahead y.latent.ahead b touched) where
              marks : (j : ℕ) → j < C.branches → Touched (on flow) (on flow') b j → has touched j ≡ true
              marks j u t = go t (ℕ_discrete j b)
                where
                  go : Touched (on flow) (on flow') b j → Dec (j ≡ b) → has touched j ≡ true
                  go t (yes e) = rw e m.itself
                  go (itself e) (no n) = absurd (n e)
                  go (changed f) (no n) =
                      m.differing j (omega (arith, p.held.branches_are))
                      (λ i. f (sym
                      (leaving.same_flow (normal C) refl flow q.wires q.served q.live
                      lat state b there named y z ls ll flow' flow_is j u n i)))

              only : (j : ℕ) → has touched j ≡ true → (j < C.branches) × Touched (on flow) (on flow') b j
              only j i = elim (m.only j i) [
                | inl e ↦ (rw e there, itself e)
                | inr f ↦ (
                  omega (arith, f.below, p.held.branches_are),
                  changed (λ g. f.changed
                      (leaving.same_ahead (normal C) refl flow q.wires q.served q.live
                      lat state b there named y z ls ll flow' flow_is j
                      (omega (arith, f.below, p.held.branches_are)) f.other g)),
                )
              ]

              pub ends_taken :
                  {bs' table' bits : List ℕ} {losses : ℕ} {t : Taken} {left : Latent} → Raised q.wires.branches live brief y.latent left
                  → t.answer ≡ Accepted → t.judged ≡ losses
                  → named ≡ take 32 (drop 20 (record_at table b))
                  → Listing q.wires.branches (listed_at served touched table) bits → bs' ≡ set_bit bs (status_bit bs b) 0
                  → ((D : Case) (f : ℕ → ℤ) → State D f q.wires served brief left → Rewritten D f served bits table table' losses)
                  → TakeCounted percent b (lent bs flow table) (lent bs' flow' table') t
              ends_taken {bs'} {table'} {bits} {losses} {t} {left} up a losses-are named-is list book_is fresh =
                  let c = restates percent bs b 0 may.passes.book may.there (omega arith) in
                  let n : q.wires.branches ≤ length flow = omega (arith, may.passes.flow_room, p.branches_are) in
                  let f : ℕ → ℤ = λ j. pos (nth (set q.live b 0) j) -ℤ pos (nth y.latent.ahead j) in
                  let redone = fresh (out C b) (on flow') (state_raised up) in
                  let list' : Listing C.branches (listed_at served touched table) bits = rw p.held.branches_are at list in
                  record {
                    none = λ n. absurd (n a);
                    judges = λ _. judges (out C b) served touched (Touched (on flow) (on flow') b) p.held.posed.few_branches state_left.held.served_is marks only table bits list' (losses-are ∙ redone.judged_is);
                    ends = accepts ok lent_fits (rw a said_accepted) (record {
                      book_is = book_is;
                      book_accepted = rw book_is c.book;
                      case_is = rw book_is c.case_is;
                      updated = updated (out C b) served touched (Touched (on flow) (on flow') b) p.held.posed.few_branches state_left.held.served_is marks only table bits list'
                          (state_raised up).fits redone.table_is (ap length flow_is ∙ length_headed q.wires.branches f flow n)
                          (λ k u. rw flow_is (headed_rest q.wires.branches f flow k (pos 0) (omega (arith, p.held.branches_are))));
                      idle = leaving.idle_out (normal C) refl flow q.wires q.served q.live
                          lat state b there named y z ls ll flow' flow_is;
                      confined = λ h F. leaving.confined_out (normal C) refl flow q.wires q.served q.live
                          lat state b there named y z ls ll flow' flow_is (record_at table b) named-is
                          h ((fits_normal (out C b) C.limit h).0 F);
                    });
                  }
