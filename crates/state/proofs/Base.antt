-- The rows of a case are its network: what the base flow asks for; and what the kernel's word on it says, an overload or a flow that fits.
use mathlib.Core.Path.{◌≡◌, refl, sym, ap, ◌∙◌, subst}
use mathlib.Core.Bool.{Bool}
use mathlib.Core.List.{List}
use Prim.Native.Nat.{ℕ, ◌+◌, ◌≤◌, ◌<◌}
use native.Mathlib.Omega.{arith}
use lib.IntN.{ℤ, pos, ◌-ℤ◌}
use Rattle.std.specs.Prelude.{Option, None, Some}
use Rattle.rows.specs.Row.{nth, headed}
use Rattle.rows.specs.Bit.{has}
use Rattle.rows.proofs.Row.{headed_at}
use Rattle.answer.specs.Answer.{overloaded}
use Rattle.answer.proofs.Said.{said_overloaded}
use Rattle.quantity.specs.Signed.{pos_part, neg_part}
use Rattle.quantity.proofs.Parts.{size_parts, one_side, minus_parts}
use Rattle.grid.proofs.Net.{Net}
use Rattle.search.specs.declared.Wires.{Wires}
use Rattle.reroute.specs.InsideMoves.{network, carried, both_ways}
use Rattle.reroute.specs.InsideVerdicts.{Carrying, Shortage, Says, Grouped, Basic, Based}
use Rattle.reroute.specs.declared.Judgement.{Judgement}
use Rattle.reroute.specs.declared.Shortfall.{Shortfall}
use Rattle.verdict.specs.Case.{Case, on}
use Rattle.verdict.proofs.Plain.{flow_of, base, overload_plain}
use Rattle.verdict.proofs.Loss.{Level}
use Rattle.verdict.proofs.Fitting.{nothing, settled_fits}
use Rattle.verdict.proofs.Alike.{SameFlow, within_alike, balanced_alike, gains_loads}
use Rattle.state.specs.Call.{OverloadSaid}
use Rattle.state.specs.Inside.{Held, State, Fillable}
use Rattle.state.proofs.TrueRecords.{group_bytes_lem, clipped, held_limit, held_small}

-- The kernel's word on a case: a flow that it carries, or by how much which group is short.
pub record Answered (C : Case) (W : Wires) (live : List ℕ) (r : Judgement) : Type 0 where
  pub kept : (k : ℕ) → k < W.branches → both_ways r.latent k ≡ nth live k + nth live k
  pub says : Says (base C) (carried (nth live) r.latent.ahead) r.short
  pub grouped : (s : Shortfall) → r.short ≡ Some s → Grouped W.buses s.group

module _ (C : Case) (level : Level C) (W : Wires) (served : List Bool) (live gain load : List ℕ) (h : Held C W served live)
    (gain_is : nth gain ≡ (λ i. pos_part (C.injection i))) (load_is : nth load ≡ (λ i. neg_part (C.injection i))) where
  pub base_net : network W (nth live) (nth gain) (nth load) ≡ base C
  base_net = rw (h.buses_are, h.branches_are, h.first_is, h.second_is, h.live_is, gain_is, load_is, sym level) refl

  gain_at : (i : ℕ) → nth gain i ≡ pos_part (C.injection i)
  gain_at i = ap (λ (l : ℕ → ℕ). l i) gain_is

  load_at : (i : ℕ) → nth load i ≡ neg_part (C.injection i)
  load_at i = ap (λ (l : ℕ → ℕ). l i) load_is

  -- What the base flow asks for.
  pub basic : Basic W live gain load
  basic = record {
    linked = h.linked;
    limits = held_small C W served live h;
    gains_small = λ i u. omega (arith, gain_at i, h.posed.sized i (rw (← h.buses_are) u), size_parts (C.injection i));
    apart = λ i u. omega (arith, gain_at i, load_at i, one_side (C.injection i));
  }

  pub based_answer : (r : Judgement) → Based W live gain load r → Answered C W live r
  based_answer r d = record {
    kept = λ k u. d.kept k;
    says = subst (λ (N : Net). Says N (carried (nth live) r.latent.ahead) r.short) base_net d.says;
    grouped = d.grouped;
  }

module _ (C : Case) (W : Wires) (served : List Bool) (live : List ℕ) (h : Held C W served live) (r : Judgement)
    (d : Answered C W live r) where
  word : (o : Option Shortfall) → r.short ≡ o → Says (base C) (carried (nth live) r.latent.ahead) o
  word o e = subst (λ (p : Option Shortfall). Says (base C) (carried (nth live) r.latent.ahead) p) e d.says

  -- Short: the book is refused with its base excess and the smallest group reaching it.
  pub overload : (x : Shortfall) → r.short ≡ Some x → OverloadSaid C (overloaded x.excess x.group)
  overload x v =
      let c : Shortage (base C) (has x.group) x.excess = word (Some x) v in
      let g = d.grouped x v in
      record {
        shortage = x.excess;
        group = x.group;
        answer = said_overloaded x.excess x.group;
        long = g.long;
        bytes = group_bytes_lem x.group g.long g.bytes;
        overload = (overload_plain C x.excess (has x.group)).1 (record {
          above = c.some;
          smallest = c.smallest;
          beyond = clipped C.buses x.group g.long (λ i u. g.beyond i (rw h.buses_are u));
        });
      }

  pub fillable : (room : ℕ) → W.branches ≤ room → Fillable W.branches live r.latent.ahead room
  fillable room u = record {
    few = rw h.branches_are h.posed.few_branches;
    fits_in = u;
    small = λ k v. (omega (arith, held_small C W served live h k v), omega (arith, held_small C W served live h k v, d.kept k v));
  }

  -- Carries: the flow that the latent capacities leave fits, and they are its latent capacities.
  pub state_left : (flow₀ flow : List ℤ) → r.short ≡ None
      → flow ≡ headed W.branches (λ k. pos (nth live k) -ℤ pos (nth r.latent.ahead k)) flow₀
      → State C (on flow) W served live r.latent
  state_left flow₀ flow v w =
      let e : (k : ℕ) → k < W.branches → on flow k ≡ pos (nth live k) -ℤ pos (nth r.latent.ahead k) =
      λ k u. ap (λ (l : List ℤ). on l k) w ∙ headed_at W.branches (λ j. pos (nth live j) -ℤ pos (nth r.latent.ahead j)) flow₀ k (pos 0) u in
      let c : Carrying (base C) (carried (nth live) r.latent.ahead) = word None v in
      let at : (k : ℕ) → k < C.branches → on flow k ≡ pos (nth live k) -ℤ pos (nth r.latent.ahead k) = λ k u. e k (rw h.branches_are u) in
      let parts : (k : ℕ) → k < C.branches → nth r.latent.ahead k + pos_part (on flow k) ≡ nth live k + neg_part (on flow k) =
      λ k u. omega (arith, minus_parts (pos (nth live k)) (pos (nth r.latent.ahead k)), ap pos_part (at k u), ap neg_part (at k u)) in
      let same : SameFlow (base C) (carried (nth live) r.latent.ahead) (flow_of (on flow)) = λ k u. omega (arith, parts k u) in
      record {
        held = h;
        latents = record {
          ahead_is = λ k u. omega (arith, parts k u, held_limit C W served live h k);
          back_is = λ k u. omega (arith, parts k u, held_limit C W served live h k, d.kept k (rw h.branches_are u));
        };
        fits = settled_fits C C.limit (on flow)
            (within_alike (base C) (carried (nth live) r.latent.ahead) (flow_of (on flow)) same c.within)
            (balanced_alike (base C) (carried (nth live) r.latent.ahead) (flow_of (on flow)) nothing nothing same
            (c.balanced (gains_loads C C.limit h.posed)));
      }
