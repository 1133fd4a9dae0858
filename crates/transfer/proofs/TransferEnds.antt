-- Each way in which a move of load ends meets its promise.
use mathlib.Core.Path.{◌≡◌, refl, sym, ap, ◌∙◌, subst}
use mathlib.Core.Bool.{Bool, true}
use mathlib.Core.List.{List}
use Prim.Native.Nat.{ℕ, ◌+◌, ◌*◌, ◌≤◌, ◌<◌}
use native.Mathlib.Omega.{arith}
use lib.IntN.{ℤ, pos, nat_abs, ◌-ℤ◌}
use lib.ListN.{length}
use Rattle.std.specs.Prelude.{None, Some}
use Rattle.rows.specs.Row.{nth, member, headed}
use Rattle.rows.specs.Bit.{has}
use Rattle.rows.proofs.Row.{headed_rest, length_headed}
use Rattle.answer.specs.declared.Refusal.TheVariants.{FlowUnfit}
use Rattle.answer.specs.Answer.{Answer, Accepted, overloaded, refused}
use Rattle.answer.proofs.Said.{said_accepted, said_refused}
use Rattle.answer.proofs.Numbers.{gives_said}
use Rattle.quantity.specs.Signed.{pos_part, neg_part}
use Rattle.quantity.proofs.Limits.{full_at_most}
use Rattle.quantity.proofs.Parts.{by_parts, apart_at_most}
use Rattle.bits.specs.Field.{Bytes}
use Rattle.layout.specs.Layout.{injection_at}
use Rattle.grid.proofs.Net.{Net}
use Rattle.grid.proofs.Flow.{Balanced}
use Rattle.search.specs.declared.Wires.{Wires}
use Rattle.search.specs.declared.Latent.{Latent}
use Rattle.reroute.specs.InsideMoves.{carried}
use Rattle.reroute.specs.InsideVerdicts.{Says, Deliverable, Delivered}
use Rattle.reroute.specs.declared.Judgement.{Judgement}
use Rattle.reroute.specs.declared.Shortfall.{Shortfall}
use Rattle.verdict.specs.Case.{Case, Posed, shifted, on, Fits}
use Rattle.verdict.specs.Update.{FlowChanged}
use Rattle.verdict.proofs.Fitting.{nothing}
use Rattle.verdict.proofs.Normal.{normal, posed_normal, fits_normal}
use Rattle.verdict.proofs.Shift.{shift_parts}
use Rattle.state.specs.Case.{case_in}
use Rattle.state.specs.Call.{lent, refuses, unfit, overloads, accepts}
use Rattle.state.specs.Inside.{Held, State, Surveyed, Raisable, Raised, Fillable, Poised, Changed, Listing, Rewritten}
use Rattle.state.specs.declared.Survey.{Survey}
use Rattle.state.proofs.Status.{case_buses}
use Rattle.state.proofs.TrueRecords.{held_net, limits, even, balanced}
use Rattle.state.proofs.Raising.{overload_normal, raisable, raised_state}
use Rattle.state.proofs.Base.{Answered, overload, fillable, state_left}
use Rattle.shortlist.specs.Inside.{listed_at}
use Rattle.shortlist.proofs.Shortlisting.{updated}
use Rattle.transfer.specs.Promise.{transfer_check, transfer_numbers, shifted_bytes, TransferEnds}
use Rattle.transfer.proofs.Injections.{up_small, rise_small}
use Rattle.transfer.proofs.Checking.{Movable, movable, transfer_gives}
use Rattle.transfer.proofs.BookShifted.{shifted_accepted, shifted_case, shifted_posed}

-- The rows of a case are those of the case with load moved: only its injections differ.
held_shifted : {C : Case} {W : Wires} {served : List Bool} {live : List ℕ} (up down kw : ℕ) → Posed (shifted C up down kw)
    → Held C W served live → Held (shifted C up down kw) W served live
held_shifted up down kw p h = record {
  posed = p;
  linked = h.linked;
  buses_are = h.buses_are;
  branches_are = h.branches_are;
  first_is = h.first_is;
  second_is = h.second_is;
  served_is = h.served_is;
  live_is = h.live_is;
}

module _ (percent : ℕ) (bs : List ℕ) (flow : List ℤ) (table : List ℕ) (up down kw : ℕ) where
  abbrev checks : Answer
  checks = transfer_check percent bs (length flow) (length table) up down kw

  abbrev C : Case
  C = case_in percent bs

  abbrev D : Case
  D = shifted C up down kw

  -- Refused by its checks.
  pub ends_refused : {r : Answer} (o : Answer) → o ≡ checks → (o ≡ Accepted → ⊥) → r ≡ o
      → TransferEnds percent up down kw (lent bs flow table) (lent bs flow table) r
  unfolding member
  ends_refused o e n a = refuses (λ q. n (e ∙ q))
      (gives_said transfer_numbers checks refl (transfer_gives percent bs (length flow) (length table) up down kw) (a ∙ e)) refl

  module _ (ok : checks ≡ Accepted) where
    pub may : Movable percent bs (length flow) (length table) up down kw
    may = movable bs (length flow) (length table) up down kw ok

    posed_here : Posed D
    posed_here = shifted_posed may.within may.apart (full_at_most may.passes.in_range)

    pub ends_unfit : {q : Survey} {r : Answer} → Surveyed percent bs flow q → q.latent ≡ None → r ≡ refused FlowUnfit
        → TransferEnds percent up down kw (lent bs flow table) (lent bs flow table) r
    ends_unfit p e a = unfit ok (p.unfit e) (rw a (said_refused FlowUnfit (λ z. omega arith))) refl

    module _ (q : Survey) (p : Surveyed percent bs flow q) (lat : Latent) (e : q.latent ≡ Some lat) where
      state : State (normal C) (on flow) q.wires q.served q.live lat
      state = p.fitting lat e

      lent_fits : Fits C C.limit (on flow)
      lent_fits = (fits_normal C C.limit (on flow)).1 state.fits

      pub listed_here : (q.wires.branches ≤ 256) × (52 * q.wires.branches ≤ length table)
      listed_here = (p.held.linked.wired.size, omega (arith, may.passes.table_room, p.branches_are))

      pub deliverable_here : Deliverable q.wires lat up down kw
      deliverable_here = record {
        linked = state.held.linked;
        sums = record {
          fit = λ k u. omega (
            arith,
            (even (normal C) (on flow) q.wires q.served q.live lat state).twice k u,
            limits (normal C) (on flow) q.wires q.served q.live lat state k u,
          );
        };
        from_in = omega (arith, may.within.buses.up_there, p.held.buses_are, case_buses percent bs);
        to_in = omega (arith, may.within.buses.down_there, p.held.buses_are, case_buses percent bs);
        different = may.apart;
        small = rise_small (injection_at bs up) kw (up_small may.within.buses) may.within.rises;
      }

      held_here : Held (normal D) q.wires q.served q.live
      held_here = held_shifted up down kw (posed_normal D posed_here) state.held

      module _ (y : Judgement) (z : Delivered q.wires lat up down kw y) where
        -- The kernel's word on the changed case.
        word : Answered (normal D) q.wires q.live y
        word = record {
          kept = λ k u. z.kept k ∙ (even (normal C) (on flow) q.wires q.served q.live lat state).twice k u;
          says = subst (λ (N : Net). Says N (carried (nth q.live) y.latent.ahead) y.short)
              (held_net (normal D) q.wires q.served q.live held_here)
              (z.says (nth q.live) (λ i. pos_part (C.injection i)) (λ i. neg_part (C.injection i))
              (λ i. pos_part (D.injection i)) (λ i. neg_part (D.injection i))
              (even (normal C) (on flow) q.wires q.served q.live lat state)
              (subst (λ (N : Net). Balanced N (carried (nth q.live) lat.ahead) nothing nothing)
              (sym (held_net (normal C) q.wires q.served q.live state.held))
              (balanced (normal C) (on flow) q.wires q.served q.live lat state))
              (shift_parts C up down kw may.apart));
          grouped = z.grouped;
        }

        pub ends_short : {r : Answer} (x : Shortfall) → y.short ≡ Some x → r ≡ overloaded x.excess x.group
            → TransferEnds percent up down kw (lent bs flow table) (lent bs flow table) r
        ends_short x v a =
            overloads ok lent_fits
            (rw a (overload_normal D _ (overload (normal D) q.wires q.served q.live held_here y word x v))) refl

        pub fillable_here : Fillable q.wires.branches q.live y.latent.ahead (length flow)
        fillable_here = fillable (normal D) q.wires q.served q.live held_here y word (length flow)
            (omega (arith, may.passes.flow_room, p.branches_are))

        module _ (v : y.short ≡ None) (flow' : List ℤ)
            (flow_is : flow' ≡ headed q.wires.branches (λ j. pos (nth q.live j) -ℤ pos (nth y.latent.ahead j)) flow) where
          state_here : State (normal D) (on flow') q.wires q.served q.live y.latent
          state_here = state_left (normal D) q.wires q.served q.live held_here y word flow flow' v flow_is

          brief_here : Held D q.wires q.served q.brief
          brief_here = held_shifted up down kw posed_here p.held

          pub raisable_here : Raisable q.wires.branches q.live q.brief y.latent
          raisable_here = raisable D (on flow') q.wires q.served q.live q.brief y.latent state_here brief_here

          state_raised : {left : Latent} → Raised q.wires.branches q.live q.brief y.latent left
              → State D (on flow') q.wires q.served q.brief left
          state_raised lifted = raised_state D (on flow') q.wires q.served q.live q.brief y.latent state_here brief_here lifted

          pub poised_here : {left : Latent} → Raised q.wires.branches q.live q.brief y.latent left
              → Poised q.wires q.served q.brief left
          poised_here lifted = record { case = D; flow = on flow'; state = state_raised lifted }

          -- The flow of a branch is the same exactly if its latent capacity ahead is, and changes by no more than that does.
          both : (j : ℕ) → j < C.branches → nth y.latent.ahead j + pos_part (on flow' j) + neg_part (on flow j)
              ≡ nth lat.ahead j + pos_part (on flow j) + neg_part (on flow' j)
          both j u = omega (arith, state.latents.ahead_is j u, state_here.latents.ahead_is j u)

          slight_here : (j : ℕ) → j < C.branches → nat_abs (on flow' j -ℤ on flow j) ≤ kw
          slight_here j u = (apart_at_most (on flow' j) (on flow j) kw).1 (omega (arith, both j u, z.falls j), omega (arith, both j u, z.rises j))

          module _ (touched : List ℕ)
              (m : Changed q.wires.branches lat.ahead y.latent.ahead q.wires.branches touched) where
            in_wires : (j : ℕ) → j < C.branches → j < q.wires.branches
            in_wires j u = omega (arith, p.held.branches_are)

            marks : (j : ℕ) → j < C.branches → FlowChanged (on flow) (on flow') j → has touched j ≡ true
            marks j u n = m.names j (in_wires j u) (λ e. omega (arith, in_wires j u))
                (λ e. n (by_parts (on flow j) (on flow' j) (omega (arith, both j u))))

            only : (j : ℕ) → has touched j ≡ true → (j < C.branches) × FlowChanged (on flow) (on flow') j
            only j i =
                let d = m.named j i in
                let u : j < C.branches = omega (arith, d.below, p.held.branches_are) in
                (u, λ e. d.changed (omega (arith, both j u, ap pos_part e, ap neg_part e)))

            pub ends_moved : {bs' table' bits : List ℕ} {losses : ℕ} {r : Answer} {left : Latent}
                → Raised q.wires.branches q.live q.brief y.latent left → r ≡ Accepted → Bytes bs
                → Listing q.wires.branches (listed_at q.served touched table) bits → bs' ≡ shifted_bytes bs up down kw
                → ((E : Case) (f : ℕ → ℤ) → State E f q.wires q.served q.brief left → Rewritten E f q.served bits table table' losses)
                → TransferEnds percent up down kw (lent bs flow table) (lent bs' flow' table') r
            ends_moved {bs'} {table'} {bits} {losses} {r} {left} lifted a bytes list book_is fresh =
                let n : q.wires.branches ≤ length flow = omega (arith, may.passes.flow_room, p.branches_are) in
                let f : ℕ → ℤ = λ j. pos (nth q.live j) -ℤ pos (nth y.latent.ahead j) in
                let list' : Listing C.branches (listed_at q.served touched table) bits = rw p.held.branches_are at list in
                accepts ok lent_fits (rw a said_accepted) (record {
                  bytes = bytes;
                  book_is = book_is;
                  book_accepted = rw book_is (shifted_accepted may.within may.apart);
                  case_is = rw book_is (shifted_case may.within may.apart percent);
                  updated = updated D q.served touched (FlowChanged (on flow) (on flow')) p.held.posed.few_branches p.held.served_is
                      marks only
                      table bits list' (state_raised lifted).fits (fresh D (on flow') (state_raised lifted)).table_is
                      (ap length flow_is ∙ length_headed q.wires.branches f flow n)
                      (λ k u. rw flow_is (headed_rest q.wires.branches f flow k (pos 0) (omega (arith, p.held.branches_are))));
                  slight = slight_here;
                })
