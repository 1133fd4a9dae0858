-- x brought from one bus to another: rerouted as a surplus at the one and a deficit at the other, which balance what the two bring.
use mathlib.Core.Path.{◌≡◌, ap, ◌∙◌}
use Prim.Native.Nat.{ℕ, ◌+◌, ◌≤◌}
use native.Mathlib.Omega.{arith}
use lib.Dec.{eqb}
use Rattle.rows.specs.Row.{nth}
use Rattle.rows.specs.Sum.{Group, all, pick, over}
use Rattle.rows.proofs.Sum.{over_one, over_same, pick_part}
use Rattle.grid.proofs.Flow.{Balanced}
use Rattle.search.specs.declared.Wires.{Wires}
use Rattle.search.specs.declared.Latent.{Latent}
use Rattle.reroute.specs.InsideMoves.{network, carried, total, Reroutable, Settles, Reroutes}
use Rattle.reroute.specs.InsideVerdicts.{Deliverable, Delivered}
use Rattle.reroute.specs.Inside.{Judged, rest_between}
use Rattle.reroute.specs.declared.Moved.{Moved}
use Rattle.reroute.specs.declared.Judgement.{Judgement}
use Rattle.reroute.proofs.OnePlace.{one_at}
use Rattle.reroute.proofs.FlowVerdicts.{judged_says, judged_grouped, pick_apart}

module _ {W : Wires} {latent : Latent} {u v x : ℕ} (P : Deliverable W latent u v x) where
  surplus_at : (y i : ℕ) → nth (rest_between u v y).surplus i ≡ pick (eqb u i) y
  surplus_at y i = one_at 128 u y i (omega (arith, P.linked.wired.few, P.from_in))

  deficit_at : (y i : ℕ) → nth (rest_between u v y).deficit i ≡ pick (eqb v i) y
  deficit_at y i = one_at 128 v y i (omega (arith, P.linked.wired.few, P.to_in))

  -- What a group of buses has of it.
  pub surplus_of : (S : Group) → over W.buses S (nth (rest_between u v x).surplus) ≡ pick (S u) x
  surplus_of S = over_same W.buses S S _ _ (λ i l. ap (pick (S i)) (surplus_at x i)) ∙ over_one W.buses S u x P.from_in

  pub deficit_of : (S : Group) → over W.buses S (nth (rest_between u v x).deficit) ≡ pick (S v) x
  deficit_of S = over_same W.buses S S _ _ (λ i l. ap (pick (S i)) (deficit_at x i)) ∙ over_one W.buses S v x P.to_in

  -- Any amount that is small enough can be rerouted.
  pub between_ready : (y : ℕ) → y ≤ 2000000 → Reroutable W latent (rest_between u v y)
  between_ready y h = record {
    linked = P.linked;
    sums = P.sums;
    small = λ i l. omega (arith, surplus_at y i, pick_part (eqb u i) y);
    apart = λ i l. rw (surplus_at y i, deficit_at y i) (pick_apart u v y i P.different);
  }

  -- The flow as it was, with x left at u and wanted at v.
  settles : (limit gain load gain' load' : ℕ → ℕ) → Balanced (network W limit gain load) (carried limit latent.ahead) (λ i. 0) (λ i. 0)
      → ((i : ℕ) → gain' i + load i + pick (eqb v i) x ≡ gain i + load' i + pick (eqb u i) x)
      → Settles W limit gain' load' latent (rest_between u v x)
  settles limit gain load gain' load' B e = record { bus = λ i h. omega (arith, B.bus i h, e i, surplus_at x i, deficit_at x i) }

  pub delivered : {m : Moved} → Reroutes W latent (rest_between u v x) m → {j : Judgement} → Judged m j → Delivered W latent u v x j
  delivered {m} R {j} J =
      let whole : total W.buses (rest_between u v x).surplus ≡ x = surplus_of all in
      record {
        kept = λ k. rw J.latent (R.kept k);
        rises = λ k. rw J.latent (omega (arith, R.rises k));
        falls = λ k. rw J.latent (omega (arith, R.falls k));
        says = λ limit gain load gain' load' e B d.
            judged_says W P.linked latent (rest_between u v x) m R limit gain' load' e (settles limit gain load gain' load' B d) j J;
        grouped = judged_grouped R J;
      }
