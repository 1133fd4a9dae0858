-- A lent flow that passes both tests is the flow of a state; one that doesn't fits no case with these rows.
use mathlib.Core.Path.{◌≡◌, sym, ap, ◌∙◌, subst}
use mathlib.Core.Bool.{Bool}
use mathlib.Core.List.{List}
use Prim.Native.Nat.{ℕ, ◌+◌, ◌≤◌, ◌<◌}
use native.Mathlib.Omega.{arith}
use lib.IntN.{ℤ}
use Rattle.std.specs.Prelude.{Option, None, Some}
use Rattle.rows.specs.Row.{nth}
use Rattle.quantity.specs.Signed.{pos_part, neg_part}
use Rattle.quantity.proofs.Parts.{one_side}
use Rattle.grid.proofs.Net.{Net}
use Rattle.grid.proofs.Flow.{Balanced}
use Rattle.search.specs.declared.Wires.{Wires}
use Rattle.search.specs.declared.Latent.{Latent}
use Rattle.reroute.specs.InsideMoves.{network}
use Rattle.verdict.specs.Case.{Case, on, Fits}
use Rattle.verdict.proofs.Plain.{flow_of, base}
use Rattle.verdict.proofs.Loss.{Level}
use Rattle.verdict.proofs.Fitting.{nothing, fits_within, fits_balanced, settled_fits}
use Rattle.state.specs.Inside.{Held, State}
use Rattle.state.proofs.Base.{base_net, basic}
use Rattle.fit.specs.Inside.{Lendable, Fitted}

module _ (C : Case) (level : Level C) (W : Wires) (served : List Bool) (live gain load : List ℕ) (h : Held C W served live)
    (gain_is : nth gain ≡ (λ i. pos_part (C.injection i))) (load_is : nth load ≡ (λ i. neg_part (C.injection i))) where
  net : network W (nth live) (nth gain) (nth load) ≡ base C
  net = base_net C level W served live gain load h gain_is load_is

  pub lendable : (room : ℕ) → W.branches ≤ room → ((i : ℕ) → (nth gain i ≤ 2000000) × (nth load i ≤ 2000000)) → Lendable W live gain load room
  lendable room u small = record {
    wired = h.linked.wired;
    fits_in = u;
    limits = (basic C level W served live gain load h gain_is load_is).limits;
    small = small;
  }

  module _ (flow : List ℤ) (r : Option Latent) (d : Fitted W flow live gain load r) where
    live_at : (k : ℕ) → nth live k ≡ (base C).limit k
    live_at k = ap (λ (N : Net). N.limit k) net

    pub fit_state : (lat : Latent) → r ≡ Some lat → State C (on flow) W served live lat
    fit_state lat e =
        let l = d.left lat e in
        let inside : (k : ℕ) → k < C.branches → k < W.branches = λ k u. omega (arith, h.branches_are) in
        let at : (k : ℕ) → nth live k ≡ (base C).limit k = live_at in
        record {
          held = h;
          latents = record {
            ahead_is = λ k u. l.ahead_is k (inside k u) ∙ ap (λ (x : ℕ). x + neg_part (on flow k)) (ap (λ (m : ℕ → ℕ). m k) h.live_is);
            back_is = λ k u. l.back_is k (inside k u) ∙ ap (λ (x : ℕ). x + pos_part (on flow k)) (ap (λ (m : ℕ → ℕ). m k) h.live_is);
          };
          fits = settled_fits C C.limit (on flow)
              (record {
                ahead_fits = λ k u. omega (arith, (l.keeps k (inside k u)).ahead, at k);
                back_fits = λ k u. omega (arith, (l.keeps k (inside k u)).back, at k);
              })
              (subst (λ (N : Net). Balanced N (flow_of (on flow)) nothing nothing) net (d.balances lat e));
        }

    pub fit_not : r ≡ None → Fits C C.limit (on flow) → ⊥
    fit_not e F =
        let w = fits_within C C.limit (on flow) F in
        d.unfit e
        (λ k u.
        let v : k < C.branches = omega (arith, h.branches_are) in
        record {
          ahead = omega (arith, w.ahead_fits k v, one_side (on flow k), live_at k);
          back = omega (arith, w.back_fits k v, one_side (on flow k), live_at k);
        })
        (subst (λ (N : Net). Balanced N (flow_of (on flow)) nothing nothing) (sym net) (fits_balanced C C.limit (on flow) F))
