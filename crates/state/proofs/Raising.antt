-- The rows of the normal limits are those of the case whose losses are judged by them; raised to the limits of a loss they are the case's own.
use mathlib.Core.Path.{◌≡◌}
use mathlib.Core.Bool.{Bool}
use mathlib.Core.List.{List}
use Prim.Native.Nat.{ℕ, ◌+◌, ◌<◌, ◌≤◌}
use native.Mathlib.Omega.{arith}
use borrow.Author.Count.{below_more}
use lib.IntN.{ℤ}
use lib.ListN.{length, set, length-set}
use lib.Seq.{get_or-set_same, get_or-set_other}
use Rattle.rows.specs.Row.{nth}
use Rattle.rows.specs.Sum.{pick}
use Rattle.rows.proofs.Sum.{pick_le}
use Rattle.answer.specs.Answer.{Answer}
use Rattle.search.specs.declared.Wires.{Wires}
use Rattle.search.specs.declared.Latent.{Latent}
use Rattle.verdict.specs.Case.{Case}
use Rattle.verdict.proofs.Normal.{normal, posed_normal, fits_normal}
use Rattle.state.specs.Call.{OverloadSaid}
use Rattle.state.specs.Inside.{Held, State, RowRaisable, RowRaised, Raisable, Raised}
use Rattle.state.proofs.TrueRecords.{held_limit, held_small}

-- ---- A row raised branch by branch.
module _ (n : ℕ) (live brief row : List ℕ) where
  pub record Raising (r : List ℕ) (k : ℕ) : Type 0 where
    pub asked : RowRaisable n live brief row
    pub upto : k ≤ n
    pub long : length r ≡ 256
    pub so_far : (j : ℕ) → j < k → nth r j + nth live j ≡ nth row j + nth brief j

  pub raising_none : RowRaisable n live brief row → length row ≡ 256 → Raising row 0
  raising_none a l = record { asked = a; upto = omega arith; long = l; so_far = λ j u. absurd (omega arith) }

  pub raising_more : {r : List ℕ} {k : ℕ} (x : ℕ) → Raising r k → k < n → x + nth live k ≡ nth row k + nth brief k → Raising (set r k x) (k + 1)
  raising_more {r} {k} x w u e = record {
    asked = w.asked;
    upto = omega arith;
    long = simp length-set w.long;
    so_far = below_more _ k (λ j v. rw (get_or-set_other r k j x 0 (λ q. omega arith)) (w.so_far j v))
        (rw (get_or-set_same r k x 0 (omega (arith, w.asked.few, w.long))) e);
  }

  pub raising_all : {r : List ℕ} {k : ℕ} → Raising r k → k ≡ n → RowRaised n live brief row r
  raising_all {r} {k} w e = record { raised = λ j u. w.so_far j (omega arith) }

-- ---- The rows of a case.
pub held_normal : (C : Case) (W : Wires) (served : List Bool) (brief live : List ℕ) → Held C W served brief
    → nth live ≡ (λ k. pick (C.served k) (C.limit k))
    → Held (normal C) W served live
held_normal C W served brief live h e = record {
  posed = posed_normal C h.posed;
  linked = h.linked;
  buses_are = h.buses_are;
  branches_are = h.branches_are;
  first_is = h.first_is;
  second_is = h.second_is;
  served_is = h.served_is;
  live_is = e;
}

-- A refusal with 12 is that of the case.
pub overload_normal : (C : Case) (r : Answer) → OverloadSaid (normal C) r → OverloadSaid C r
overload_normal C r o = record
    { shortage = o.shortage; group = o.group; answer = o.answer; long = o.long; bytes = o.bytes; overload = o.overload }

module _ (C : Case) (f : ℕ → ℤ) (W : Wires) (served : List Bool) (live brief : List ℕ) (lat : Latent) (s : State (normal C) f W served live lat)
    (h : Held C W served brief) where
  live_at : (k : ℕ) → nth live k ≡ pick (C.served k) (C.limit k)
  live_at = held_limit (normal C) W served live s.held

  brief_at : (k : ℕ) → nth brief k ≡ pick (C.served k) (C.loss_limit k)
  brief_at = held_limit C W served brief h

  in_C : (k : ℕ) → k < W.branches → k < C.branches
  in_C k u = rw (← h.branches_are) u

  rising : (k : ℕ) → k < W.branches → nth live k ≤ nth brief k
  rising k u = omega (arith, live_at k, brief_at k, pick_le (C.served k) (C.limit k) (C.loss_limit k) (h.posed.rising k (in_C k u)))

  -- The latent capacities make up twice the normal limit.
  small : (row other : List ℕ) → ((k : ℕ) → k < W.branches → nth row k + nth other k ≡ nth live k + nth live k)
      → RowRaisable W.branches live brief row
  small row other e = record {
    few = h.linked.wired.size;
    rising = rising;
    small = λ k u. omega (arith, e k u, rising k u, held_small C W served brief h k u);
  }

  pub raisable : Raisable W.branches live brief lat
  raisable = record {
    ahead = small lat.ahead lat.back (λ k u. omega (arith, s.latents.ahead_is k (in_C k u), s.latents.back_is k (in_C k u), live_at k));
    back = small lat.back lat.ahead (λ k u. omega (arith, s.latents.ahead_is k (in_C k u), s.latents.back_is k (in_C k u), live_at k));
  }

  pub raised_state : {r : Latent} → Raised W.branches live brief lat r → State C f W served brief r
  raised_state w = record {
    held = h;
    latents = record {
      ahead_is = λ k u. omega (arith, s.latents.ahead_is k u, w.ahead.raised k (rw h.branches_are u), live_at k, brief_at k);
      back_is = λ k u. omega (arith, s.latents.back_is k u, w.back.raised k (rw h.branches_are u), live_at k, brief_at k);
    };
    fits = (fits_normal C C.limit f).1 s.fits;
  }
