-- From the kernel's word on a branch to be taken out to the flow that is left, or to the group that is short.
use mathlib.Core.Path.{◌≡◌, refl, sym, ap, ◌∙◌, subst}
use mathlib.Core.Bool.{Bool, false}
use mathlib.Core.List.{List}
use Prim.Native.Nat.{ℕ, ◌+◌, ◌≤◌, ◌<◌}
use native.Mathlib.Omega.{arith}
use native.Mathlib.Decide.{ℕ_discrete}
use lib.IntN.{ℤ, pos, ◌-ℤ◌}
use lib.ListN.{length, set, take, drop}
use lib.Seq.{get_or-set_same, get_or-set_other}
use Rattle.std.specs.Prelude.{Option, None, Some}
use Rattle.rows.specs.Row.{nth, headed}
use Rattle.rows.proofs.Row.{headed_at}
use Rattle.answer.specs.Answer.{overloaded}
use Rattle.answer.proofs.Said.{said_overloaded}
use Rattle.rows.specs.Bit.{has}
use Rattle.rows.specs.Sum.{pick}
use Rattle.quantity.specs.Signed.{pos_part, neg_part}
use Rattle.quantity.proofs.Parts.{by_parts, minus_parts}
use Rattle.grid.proofs.Net.{Net, without}
use Rattle.grid.proofs.Flow.{Within, Balanced}
use Rattle.search.specs.declared.Wires.{Wires}
use Rattle.search.specs.declared.Latent.{Latent}
use Rattle.reroute.specs.InsideMoves.{network, carried}
use Rattle.reroute.specs.InsideVerdicts.{Carrying, Shortage, Says}
use Rattle.reroute.specs.declared.Judgement.{Judgement}
use Rattle.reroute.specs.declared.Shortfall.{Shortfall}
use Rattle.replace.specs.Inside as replace
use Rattle.replace.specs.Inside.{Replaced}
use Rattle.verdict.specs.Case.{Case, out, on, Fits}
use Rattle.verdict.proofs.Plain.{flow_of, net_of, loss_net, overload_plain}
use Rattle.verdict.proofs.Fitting.{nothing, fits_within, fits_balanced, settled_fits}
use Rattle.verdict.proofs.Alike.{SameFlow, within_alike, balanced_alike, net_out, gains_loads}
use Rattle.verdict.proofs.Loss.{Level, level_smallest}
use Rattle.state.specs.Inside.{Held, State, Fillable}
use Rattle.state.specs.Call.{OverloadSaid}
use Rattle.state.proofs.TrueRecords.{clipped, group_bytes_lem, held_net, held_limit, limits, limit_at, even, says, balanced}
use Rattle.switch.proofs.Switched.{held_switched}
use Rattle.outage.specs.Promise.{Confined}

module _ (C : Case) (level : Level C) (flow : List ℤ) (W : Wires) (served : List Bool) (live : List ℕ) (lat : Latent) (s : State C (on flow) W served live lat)
    (k : ℕ) (there : k < C.branches) (named : List ℕ) (r : Judgement) (p : Replaced W live lat named k r) where
  abbrev gain : ℕ → ℕ
  gain i = pos_part (C.injection i)

  abbrev load : ℕ → ℕ
  load i = neg_part (C.injection i)

  abbrev limits_out : List ℕ
  limits_out = set live k 0

  word : (o : Option Shortfall) → r.short ≡ o → Says (loss_net C k) (carried (loss_net C k).limit r.latent.ahead) o
  word o e = subst (λ (x : Option Shortfall). Says (loss_net C k) (carried (loss_net C k).limit r.latent.ahead) x) e (says C (on flow) W served live lat s k r p.lost)

  -- Short: the case without k is overloaded by as much, round the same group.
  pub overload_out : (x : Shortfall) → r.short ≡ Some x → OverloadSaid (out C k) (overloaded x.excess x.group)
  overload_out x v =
      let c : Shortage (loss_net C k) (has x.group) x.excess = word (Some x) v in
      let g = p.lost.grouped x v in
      record {
        shortage = x.excess;
        group = x.group;
        answer = said_overloaded x.excess x.group;
        long = g.long;
        bytes = group_bytes_lem x.group g.long g.bytes;
        overload = (overload_plain (out C k) x.excess (has x.group)).1 (record {
          above = c.some;
          smallest = (level_smallest C k level (has x.group) x.excess).0 c.smallest;
          beyond = clipped C.buses x.group g.long (λ i u. g.beyond i (rw s.held.buses_are u));
        });
      }

  module _ (long-served : length served ≡ 256) (long-live : length live ≡ 256) where
    few : k < 256
    few = omega (arith, s.held.posed.few_branches)

    pub held_out : Held (out C k) W (set served k false) limits_out
    held_out = held_switched C W served live s.held long-served long-live k few false 0 refl

    limits_at : (j : ℕ) → nth limits_out j ≡ pick ((out C k).served j) (C.loss_limit j)
    limits_at = held_limit (out C k) W (set served k false) limits_out held_out

    other : (j : ℕ) → (j ≡ k → ⊥) → nth limits_out j ≡ nth live j
    other j n = get_or-set_other live k j 0 0 n

    -- Both latent capacities together are still twice the limit.
    twice : (j : ℕ) → j < C.branches → nth r.latent.ahead j + nth r.latent.back j ≡ nth limits_out j + nth limits_out j
    twice j u = go (ℕ_discrete j k)
      where
        go : Dec (j ≡ k) → nth r.latent.ahead j + nth r.latent.back j ≡ nth limits_out j + nth limits_out j
        go (yes e) = rw e (omega (arith, p.lost.gone, get_or-set_same live k 0 0 (omega (arith, few))))
        go (no n) = omega (arith, p.lost.kept j n, other j n, (even C (on flow) W served live lat s).twice j (omega (arith, s.held.branches_are)))

    pub fillable_out : (room : ℕ) → W.branches ≤ room → Fillable W.branches limits_out r.latent.ahead room
    fillable_out room u = record {
      few = rw s.held.branches_are s.held.posed.few_branches;
      fits_in = u;
      small = λ j v.
          let low : nth limits_out j ≤ 1000000 = lower j v (ℕ_discrete j k) in
          (omega arith, omega (arith, twice j (omega (arith, s.held.branches_are))));
    }
      where
        lower : (j : ℕ) → j < W.branches → Dec (j ≡ k) → nth limits_out j ≤ 1000000
        lower j v (yes e) = rw e (omega (arith, get_or-set_same live k 0 0 (omega (arith, few))))
        lower j v (no n) = omega (arith, other j n, limits C (on flow) W served live lat s j v)

    module _ (flow' : List ℤ) (flow_is : flow' ≡ headed W.branches (λ j. pos (nth limits_out j) -ℤ pos (nth r.latent.ahead j)) flow) where
      at : (j : ℕ) → j < C.branches → on flow' j ≡ pos (nth limits_out j) -ℤ pos (nth r.latent.ahead j)
      at j u = ap (λ (l : List ℤ). on l j) flow_is ∙ headed_at W.branches (λ j. pos (nth limits_out j) -ℤ pos (nth r.latent.ahead j)) flow j (pos 0) (omega (arith, s.held.branches_are))

      parts : (j : ℕ) → j < C.branches → nth r.latent.ahead j + pos_part (on flow' j) ≡ nth limits_out j + neg_part (on flow' j)
      parts j u = omega (arith, minus_parts (pos (nth limits_out j)) (pos (nth r.latent.ahead j)), ap pos_part (at j u), ap neg_part (at j u))

      -- Carries: the flow that is left fits the case without k.
      pub state_out : r.short ≡ None → State (out C k) (on flow') W (set served k false) limits_out r.latent
      state_out v =
          let c : Carrying (loss_net C k) (carried (loss_net C k).limit r.latent.ahead) = word None v in
          let same_limit : (j : ℕ) → (loss_net C k).limit j ≡ nth limits_out j =
          λ j. ap (λ (N : Net). N.limit j) (net_out C k C.loss_limit) ∙ sym (limits_at j) in
          let same : SameFlow (loss_net C k) (carried (loss_net C k).limit r.latent.ahead) (flow_of (on flow')) = λ j u. omega (arith, parts j u, same_limit j) in
          record {
            held = held_out;
            latents = record {
              ahead_is = λ j u. omega (arith, parts j u, limits_at j);
              back_is = λ j u. omega (arith, parts j u, limits_at j, twice j u);
            };
            fits = subst (λ (l : ℕ → ℕ). Fits (out C k) l (on flow')) level
                (settled_fits (out C k) C.loss_limit (on flow')
                (subst (λ (N : Net). Within N (flow_of (on flow'))) (net_out C k C.loss_limit)
                (within_alike (loss_net C k) (carried (loss_net C k).limit r.latent.ahead) (flow_of (on flow')) same c.within))
                (subst (λ (N : Net). Balanced N (flow_of (on flow')) nothing nothing) (net_out C k C.loss_limit)
                (balanced_alike (loss_net C k) (carried (loss_net C k).limit r.latent.ahead) (flow_of (on flow')) nothing nothing same
                (c.balanced (gains_loads C C.loss_limit s.held.posed)))));
          }

      -- The flow of another branch is the same exactly if its latent capacity ahead is.
      pub same_flow : (j : ℕ) → j < C.branches → (j ≡ k → ⊥) → nth lat.ahead j ≡ nth r.latent.ahead j → on flow' j ≡ on flow j
      same_flow j u n e =
          by_parts (on flow' j) (on flow j) (omega (arith, parts j u, other j n, s.latents.ahead_is j u, limit_at C (on flow) W served live lat s j))

      pub same_ahead : (j : ℕ) → j < C.branches → (j ≡ k → ⊥) → on flow j ≡ on flow' j → nth lat.ahead j ≡ nth r.latent.ahead j
      same_ahead j u n e =
          omega (arith, parts j u, other j n, s.latents.ahead_is j u, limit_at C (on flow) W served live lat s j, ap pos_part e, ap neg_part e)

      gone : on flow' k ≡ pos 0
      gone = by_parts (on flow' k) (pos 0) (omega (arith, parts k there, p.lost.gone, get_or-set_same live k 0 0 (omega (arith, few))))

      pub idle_out : on flow k ≡ pos 0 → (j : ℕ) → j < C.branches → on flow' j ≡ on flow j
      idle_out z j u = go (ℕ_discrete j k)
        where
          still : nth lat.ahead k ≡ nth live k
          still = omega (arith, s.latents.ahead_is k there, limit_at C (on flow) W served live lat s k, ap pos_part z, ap neg_part z)

          go : Dec (j ≡ k) → on flow' j ≡ on flow j
          go (yes e) = rw e (gone ∙ sym z)
          go (no n) = same_flow j u n (sym (p.idle still j n))

      pub confined_out : (rec : List ℕ) → named ≡ take 32 (drop 20 rec) → (h : ℕ → ℤ) → Fits (out C k) C.limit h
          → Confined C (on flow) rec k h → Confined C (on flow) rec k (on flow')
      confined_out rec e h F c j u n unnamed =
          same_flow j u n (sym (p.confined gain load held_balance (flow_of h) inside j (omega (arith, s.held.branches_are)) n (ap (λ (l : List ℕ). has l j) e ∙ unnamed)))
        where
          held_balance : Balanced (network W (nth live) gain load) (carried (nth live) lat.ahead) nothing nothing
          held_balance = subst (λ (N : Net). Balanced N (carried (nth live) lat.ahead) nothing nothing) (sym (held_net C W served live s.held)) (balanced C (on flow) W served live lat s)

          net : without (network W (nth live) gain load) k ≡ net_of (out C k) C.limit
          net = ap (λ (N : Net). without N k) (held_net C W served live s.held) ∙ net_out C k C.loss_limit ∙ ap (λ (l : ℕ → ℕ). net_of (out C k) l) level

          inside : replace.NamedOnly W live lat.ahead named k gain load (flow_of h)
          inside = record {
            within = subst (λ (N : Net). Within N (flow_of h)) (sym net) (fits_within (out C k) C.limit h F);
            balanced = subst (λ (N : Net). Balanced N (flow_of h) nothing nothing) (sym net) (fits_balanced (out C k) C.limit h F);
            same = λ i v m q.
                let w : i < C.branches = omega (arith, s.held.branches_are) in
                let z = c i w m (sym (ap (λ (l : List ℕ). has l i) e) ∙ q) in
                omega (arith, s.latents.ahead_is i w, limit_at C (on flow) W served live lat s i, ap pos_part z, ap neg_part z);
          }
