-- The two tests together say whether a lent flow fits.
use mathlib.Core.Path.{◌≡◌, refl, sym, ap, ◌∙◌, subst}
use mathlib.Core.Bool.{Bool, true, false, false≢true}
use mathlib.Core.List.{List}
use Prim.Native.Nat.{ℕ, ◌<◌, ◌≤◌}
use native.Mathlib.Omega.{arith}
use lib.IntN.{ℤ}
use lib.ListN.{length}
use Rattle.rows.specs.Row.{nth}
use Rattle.grid.proofs.Flow.{Balanced}
use Rattle.search.specs.declared.Wires.{Wires}
use Rattle.reroute.specs.InsideMoves.{network, carried}
use Rattle.search.specs.declared.Latent.{Latent}
use Rattle.verdict.specs.Case.{on}
use Rattle.verdict.proofs.Plain.{flow_of}
use Rattle.verdict.proofs.Alike.{SameFlow, balanced_alike}
use Rattle.fit.specs.Inside.{Left, Talliable, Tallied, Lendable, Fitted}
use Rattle.std.proofs.lemmas.Option.{same_Some}
use Rattle.std.proofs.lemmas.List.{ext_get_or}
use Rattle.std.specs.Bool.{Decides, then_some}
use lib.ListN.{take}
use lib.Seq.{get_or-take, length-take-le}
use Rattle.std.specs.Prelude.{None, Some}

module _ (W : Wires) (flow : List ℤ) (live gain load : List ℕ) where
  -- What the two sums ask for.
  ends_in : Lendable W live gain load (length flow) → ((k : ℕ) → k < W.branches → nth W.first k < 128) × ((k : ℕ) → k < W.branches → nth W.second k < 128)
  ends_in p = (λ k u. omega (arith, p.wired.first_in k u, p.wired.few), λ k u. omega (arith, p.wired.second_in k u, p.wired.few))

  module _ (x : Latent) (p : Lendable W live gain load (length flow)) (l : Left W.branches flow live x) where
    small_rows : (k : ℕ) → k < W.branches → (nth live k ≤ 1000000) × (nth x.ahead k ≤ 2000000)
    small_rows k u = (p.limits k u, omega (arith, l.ahead_is k u, (l.keeps k u).back, p.limits k u))

    pub coming : Talliable W.branches W.second live W.first x.ahead gain
    coming = record { few = p.wired.size; one_in = (ends_in p).1; other_in = (ends_in p).0; small = small_rows; small_start = λ i. (p.small i).0 }

    pub going : Talliable W.branches W.first live W.second x.ahead load
    going = record { few = p.wired.size; one_in = (ends_in p).0; other_in = (ends_in p).1; small = small_rows; small_start = λ i. (p.small i).1 }

  module _ (p : Lendable W live gain load (length flow)) (x : Latent) (l : Left W.branches flow live x) (comes goes : List ℕ)
      (cs : Tallied W.branches W.second live W.first x.ahead gain comes) (gs : Tallied W.branches W.first live W.second x.ahead load goes) where
    same : SameFlow (network W (nth live) (nth gain) (nth load)) (carried (nth live) x.ahead) (flow_of (on flow))
    same k u = omega (arith, l.ahead_is k u)

    back : SameFlow (network W (nth live) (nth gain) (nth load)) (flow_of (on flow)) (carried (nth live) x.ahead)
    back k u = omega (arith, l.ahead_is k u)

    at_bus : (i : ℕ) → i < W.buses → i < 128
    at_bus i u = omega (arith, p.wired.few)

    to_balance : ((i : ℕ) → i < W.buses → nth comes i ≡ nth goes i) → Balanced (network W (nth live) (nth gain) (nth load)) (carried (nth live) x.ahead) (λ i. 0) (λ i. 0)
    to_balance h = record { bus = λ i u. omega (arith, h i u, cs.sums i (at_bus i u), gs.sums i (at_bus i u)) }

    from_balance : Balanced (network W (nth live) (nth gain) (nth load)) (carried (nth live) x.ahead) (λ i. 0) (λ i. 0) → (i : ℕ) → i < W.buses → nth comes i ≡ nth goes i
    from_balance B i u = omega (arith, B.bus i u, cs.sums i (at_bus i u), gs.sums i (at_bus i u))

    pub fit_in : ((i : ℕ) → i < W.buses → nth comes i ≡ nth goes i) → Fitted W flow live gain load (Some x)
    fit_in e = record {
      left = λ lat q. subst (Left W.branches flow live) (same_Some x lat q) l;
      balances = λ lat q. balanced_alike (network W (nth live) (nth gain) (nth load)) (carried (nth live) x.ahead) (flow_of (on flow)) (λ i. 0) (λ i. 0) same
          (to_balance e);
      unfit = λ q. cc;
    }

    fit_not : (((i : ℕ) → i < W.buses → nth comes i ≡ nth goes i) → ⊥) → Fitted W flow live gain load None
    fit_not n = record {
      left = λ lat q. cc;
      balances = λ lat q. cc;
      unfit = λ q h B. n
          (from_balance (balanced_alike (network W (nth live) (nth gain) (nth load)) (flow_of (on flow)) (carried (nth live) x.ahead) (λ i. 0) (λ i. 0) back B));
    }

    -- The answer by the test of the two rows.
    pub fit_by : length comes ≡ 128 → length goes ≡ 128 → (t : Bool) → Decides t (take W.buses comes ≡ take W.buses goes) → Fitted W flow live gain load (then_some t x)
    fit_by a b true d =
        let e = d.0 refl in
        fit_in (λ i u. sym (get_or-take W.buses comes i 0 u) ∙ ap (λ (r : List ℕ). nth r i) e ∙ get_or-take W.buses goes i 0 u)
    fit_by a b false d =
        fit_not (λ h. false≢true (d.1 (ext_get_or 0 (take W.buses comes) (take W.buses goes) (long comes a ∙ sym (long goes b))
        (λ i u. let v : i < W.buses = omega (arith, long comes a) in get_or-take W.buses comes i 0 v ∙ h i v ∙ sym (get_or-take W.buses goes i 0 v)))))
      where
        long : (r : List ℕ) → length r ≡ 128 → length (take W.buses r) ≡ W.buses
        long r z = length-take-le W.buses r (omega (arith, p.wired.few))
