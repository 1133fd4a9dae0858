-- Each way in which the lost branch's flow is replaced meets the promise.
use mathlib.Core.Path.{◌≡◌, refl, sym, ap, subst, ◌∙◌}
use mathlib.Core.Bool.{Bool, true, false, cond}
use mathlib.Core.List.{List}
use Prim.Native.Nat.{ℕ, ◌+◌, ◌≤◌, ◌<◌}
use native.Mathlib.Omega.{arith}
use borrow.Author.Tests.{ne_eqb}
use lib.Dec.{eqb}
use lib.ListN.{length, set}
use lib.Seq.{get_or-set_same, get_or-set_other}
use Rattle.rows.specs.Row.{nth}
use Rattle.rows.specs.Bit.{has}
use Rattle.rows.specs.Sum.{pick}
use Rattle.rows.proofs.Sum.{over_set, over_zero, pick_zero, side, below, equal, above}
use Rattle.grid.proofs.Net.{without}
use Rattle.grid.proofs.Flow.{Within, Balanced}
use Rattle.grid.proofs.Cut.{Settled, upper}
use Rattle.grid.proofs.Without.{ends_without, over_without}
use Rattle.search.specs.declared.Wires.{Wires}
use Rattle.search.specs.declared.Latent.{Latent}
use Rattle.reroute.specs.InsideMoves.{network, carried, both_ways, SameAt, NoneAt, Reroutes}
use Rattle.reroute.specs.Inside.{cut_at, Opened}
use Rattle.reroute.specs.InsideVerdicts.{Carrying, Says, Losable, Lost}
use Rattle.reroute.specs.declared.Judgement.{Judgement}
use Rattle.reroute.specs.declared.Rest.{Rest}
use Rattle.reroute.specs.declared.Moved.{Moved}
use Rattle.std.specs.Prelude.{Option, None, Some}
use Rattle.reroute.specs.declared.Shortfall.{Shortfall}
use Rattle.reroute.proofs.OnePlace.{cut_same, cut_none}
use Rattle.reroute.proofs.FlowVerdicts.{linked_ends, lost_row}
use Rattle.replace.specs.Inside.{Chosen, CarriesWith, Replaced}
use Rattle.replace.proofs.Confining.{confined_carries, none_confined}
use Rattle.replace.proofs.AttemptRows.{kept_same, lost_none}
use Rattle.replace.proofs.MergedRows.{nothing, merged_outside, merged_beyond, merged_lost}

none_some : {s : Shortfall} → None ≡ Some s → ⊥
none_some e = cc

module _ (W : Wires) (live : List ℕ) (latent : Latent) (named : List ℕ) (k : ℕ) (P : Losable W live latent k) (la : length latent.ahead ≡ 256)
    (lb : length latent.back ≡ 256) where
  -- A judgement that carries, of rows that keep their sums but on k.
  stands_lost : (r : Latent) (j : Judgement) → CarriesWith r j → NoneAt r k
      → ((i : ℕ) → (i ≡ k → ⊥) → both_ways r i ≡ both_ways latent i)
      → ((i : ℕ) → W.branches ≤ i → nth r.ahead i ≡ nth latent.ahead i)
      → ((gain load : ℕ → ℕ) → Balanced (network W (nth live) gain load) (carried (nth live) latent.ahead) (λ i. 0) (λ i. 0)
      → Carrying (without (network W (nth live) gain load) k) (carried (without (network W (nth live) gain load) k).limit r.ahead))
      → Lost W live latent k j
  stands_lost r j S gone kept past says = record {
    gone = rw S.latent gone;
    kept = λ i o. rw S.latent (kept i o);
    says = λ gain load B.
        let N = without (network W (nth live) gain load) k in
        subst (λ (o : Option Shortfall). Says N (carried N.limit j.latent.ahead) o) (sym S.short)
        (rw S.latent (says gain load B));
    unlisted = λ i u. rw S.latent (past i u);
    grouped = λ s e. absurd (none_some (sym S.short ∙ e));
  }

  -- ---- A branch without flow.
  module _ (e : nth latent.ahead k ≡ nth live k) where
    in_row : k < 256
    in_row = lost_row P

    still_balanced : (gain load : ℕ → ℕ) → Balanced (network W (nth live) gain load) (carried (nth live) latent.ahead) (λ i. 0) (λ i. 0)
        → Balanced (without (network W (nth live) gain load) k) (carried (without (network W (nth live) gain load) k).limit (set latent.ahead k 0)) (λ i. 0) (λ i. 0)
    still_balanced gain load B = record {
      bus = λ i h. omega (
        arith,
        B.bus i h,
        ap (pick (eqb (nth W.first k) i)) e,
        ap (pick (eqb (nth W.second k) i)) e,
        over_set W.branches (λ j. eqb (nth W.first j) i) latent.ahead k 0 P.below (omega (arith, in_row)),
        over_set W.branches (λ j. eqb (nth W.second j) i) latent.ahead k 0 P.below (omega (arith, in_row)),
        over_without W.branches (λ j. eqb (nth W.first j) i) (nth live) k P.below,
        over_without W.branches (λ j. eqb (nth W.second j) i) (nth live) k P.below,
        pick_zero (eqb (nth W.first k) i),
        pick_zero (eqb (nth W.second k) i),
      );
    }

    still_carries : (gain load : ℕ → ℕ) → Balanced (network W (nth live) gain load) (carried (nth live) latent.ahead) (λ i. 0) (λ i. 0)
        → Carrying (without (network W (nth live) gain load) k) (carried (without (network W (nth live) gain load) k).limit (set latent.ahead k 0))
    still_carries gain load B =
        let M = without (network W (nth live) gain load) k in
        let bal = still_balanced gain load B in
        let settled : Settled M (carried M.limit (set latent.ahead k 0)) (λ i. 0) (λ i. 0) =
        record { ends = ends_without (network W (nth live) gain load) k (linked_ends W P.linked (nth live) gain load); within = within gain load; balanced = bal } in
        record {
          within = within gain load;
          balanced = λ g. bal;
          groups = λ S. omega (arith, upper M (carried M.limit (set latent.ahead k 0)) (λ i. 0) (λ i. 0) settled S, over_zero W.buses S);
        }
      where
        back_fits : (j : ℕ) → j < W.branches → nth (set latent.ahead k 0) j ≤ cond (eqb j k) 0 (nth live j) + cond (eqb j k) 0 (nth live j)
        back_fits j u = elim (side j k) [
          | below l ↦ rw (ne_eqb j k (λ q. omega arith), get_or-set_other latent.ahead k j 0 0 (λ q. omega arith)) (omega (arith, P.even.twice j u))
          | equal l ↦ rw (l, get_or-set_same latent.ahead k 0 0 (omega (arith, in_row))) (omega arith)
          | above l ↦ rw (ne_eqb j k (λ q. omega arith), get_or-set_other latent.ahead k j 0 0 (λ q. omega arith)) (omega (arith, P.even.twice j u))
        ]

        within : (gain load : ℕ → ℕ)
            → Within (without (network W (nth live) gain load) k) (carried (without (network W (nth live) gain load) k).limit (set latent.ahead k 0))
        within gain load = record { ahead_fits = λ j u. omega arith; back_fits = back_fits }

    pub replaced_still : (j : Judgement) → CarriesWith (cut_at latent k) j → Replaced W live latent named k j
    replaced_still j S =
        let same : (i : ℕ) → (i ≡ k → ⊥) → nth j.latent.ahead i ≡ nth latent.ahead i = λ i o. rw S.latent (cut_same latent k i o).0 in
        record {
          lost = stands_lost (cut_at latent k) j S
              (cut_none latent k in_row la lb)
              (λ i o. omega (arith, cut_same latent k i o))
              (λ i u. (cut_same latent k i (λ q. omega (arith, P.below))).0)
              still_carries;
          idle = λ q. same;
          confined = λ gain load B h F i u o q. same i o;
        }

  -- ---- The first attempt, and what follows from it.
  module _ (flowing : nth latent.ahead k ≡ nth live k → ⊥) (q : Latent) (Q : Chosen W.branches named (cut_at latent k) nothing q) (spill : Rest)
      (O : Opened W live latent k spill)
      (m : Moved) (R : Reroutes W q spill m) where
    pub replaced_named : m.left ≡ 0 → (r : Latent) (j : Judgement) → Chosen W.branches named m.latent (cut_at latent k) r → CarriesWith r j
        → Replaced W live latent named k j
    replaced_named z r j G S = record {
      lost = stands_lost r j S
          (merged_lost W live latent named k P la lb G (R.idle k (lost_none W live latent named k P la lb q Q)))
          kept
          (λ i u. (past i u).0)
          (λ gain load B. confined_carries W live latent named k P la lb q Q spill O gain load B m R r G z);
      idle = λ e. absurd (flowing e);
      confined = λ gain load B h F i u o n. rw S.latent (outside i o n).0;
    }
      where
        outside : (i : ℕ) → (i ≡ k → ⊥) → has named i ≡ false → SameAt r latent i
        outside = merged_outside W live latent named k P la lb G

        past : (i : ℕ) → W.branches ≤ i → SameAt r latent i
        past = merged_beyond W live latent named k P la lb G

        kept : (i : ℕ) → (i ≡ k → ⊥) → both_ways r i ≡ both_ways latent i
        kept i o = elim (side i W.branches) [
          | below u ↦ inside u (has named i) refl
          | equal u ↦ omega (arith, past i (omega arith))
          | above u ↦ omega (arith, past i (omega arith))
        ]
          where
            inside : i < W.branches → (t : Bool) → has named i ≡ t → both_ways r i ≡ both_ways latent i
            inside u true e = omega (arith, G.inside i u e, R.kept i, kept_same W live latent named k P la lb q Q i u o e)
            inside u false e = omega (arith, outside i o e)

    pub replaced_all : (m.left ≡ 0 → ⊥) → (j : Judgement) → Lost W live latent k j → Replaced W live latent named k j
    replaced_all z j L = record {
      lost = L;
      idle = λ e. absurd (flowing e);
      confined = λ gain load B h F i u o n. absurd (none_confined W live latent named k P la lb q Q spill O gain load B m R h F (omega arith));
    }
