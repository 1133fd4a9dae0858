-- What may be kept: a carrying branch whose flow is untouched and whose reroute names no touched branch stays as recorded, whatever injections and statuses changed elsewhere.
use mathlib.Core.Path.{◌≡◌, refl, sym, ◌∙◌}
use mathlib.Core.Bool.{Bool, true, false, cond, true≢false}
use mathlib.Core.List.{List}
use Prim.Native.Nat.{ℕ, zero, suc, ◌+◌, ◌≤◌, ◌<◌}
use native.Mathlib.Omega.{arith}
use borrow.Author.Tests.{eq-eqb, ne_eqb}
use lib.Dec.{eqb}
use lib.IntN.{ℤ, pos, nat_abs, ℤ_discrete}
use Rattle.rows.specs.Sum.{Group, pick, over}
use Rattle.rows.proofs.Sum.{side, below, equal, above}
use Rattle.quantity.specs.Signed.{pos_part, neg_part}
use Rattle.grid.proofs.Flow.{Balanced}
use Rattle.verdict.specs.Case.{Case, Posed, out, Fits}
use Rattle.verdict.specs.Excess.{Carries}
use Rattle.verdict.specs.Record.{names, Rerouted}
use Rattle.verdict.proofs.Plain.{net_of, flow_of}
use Rattle.verdict.proofs.Fitting.{nothing, served_self, served_other, fits_balanced, balanced_bus}
use Rattle.verdict.proofs.Loss.{fits_carries}

-- Two cases of the same wires and ratings: injections and statuses may differ.
pub record Wired (C D : Case) : Type 0 where
  pub same_buses : C.buses ≡ D.buses
  pub same_branches : C.branches ≡ D.branches
  pub same_first : C.first ≡ D.first
  pub same_second : C.second ≡ D.second
  pub same_limit : C.loss_limit ≡ D.loss_limit

pick_four : (s : Bool) (a b c d a' b' c' d' : ℕ) → a + b + c + d ≡ a' + b' + c' + d' → pick s a + pick s b + pick s c + pick s d ≡ pick s a' + pick s b' + pick s c' + pick s d'
pick_four true a b c d a' b' c' d' e = e
pick_four false a b c d a' b' c' d' e = refl

over_four : (n : ℕ) (S : Group) (a b c d a' b' c' d' : ℕ → ℕ) → ((k : ℕ) → k < n → a k + b k + c k + d k ≡ a' k + b' k + c' k + d' k)
    → over n S a + over n S b + over n S c + over n S d ≡ over n S a' + over n S b' + over n S c' + over n S d'
unfolding over
over_four zero S a b c d a' b' c' d' h = refl
over_four (suc n) S a b c d a' b' c' d' h =
    omega (arith, over_four n S a b c d a' b' c' d' (λ k u. h k (omega arith)), pick_four (S n) _ _ _ _ _ _ _ _ (h n (omega arith)))

-- On one branch, the flow m does to g what h does to f.
data Moved (m g h f : ℤ) : Type 0 where
  gone : m ≡ pos 0 → h ≡ pos 0 → g ≡ f → Moved m g h f
  named : m ≡ h → g ≡ f → Moved m g h f
  plain : m ≡ g → h ≡ f → Moved m g h f

moved_parts : (m g h f : ℤ) → Moved m g h f → pos_part m + neg_part g + neg_part h + pos_part f ≡ neg_part m + pos_part g + pos_part h + neg_part f
moved_parts m g h f (gone p q r) = rw (p, q, r) (omega arith)
moved_parts m g h f (named p q) = rw (p, q) (omega arith)
moved_parts m g h f (plain p q) = rw (p, q) (omega arith)

-- g balances the injections of D; h and f both balance those of C.
moved_balanced : (C D : Case) (l : ℕ → ℕ) (m g h f : ℕ → ℤ) → C.buses ≡ D.buses → ((k : ℕ) → k < D.branches → Moved (m k) (g k) (h k) (f k))
    → C.branches ≡ D.branches → C.first ≡ D.first → C.second ≡ D.second
    → Balanced (net_of D l) (flow_of g) nothing nothing → Balanced (net_of C l) (flow_of h) nothing nothing → Balanced (net_of C l) (flow_of f) nothing nothing → Balanced (net_of D l) (flow_of m) nothing nothing
moved_balanced C D l m g h f n e nb nf ns wg wh wf = record {
  bus = λ i u. omega (
    arith,
    wg.bus i u,
    rw (nb, nf, ns) at (wh.bus i (omega arith)),
    rw (nb, nf, ns) at (wf.bus i (omega arith)),
    all (λ k. eqb (D.first k) i),
    all (λ k. eqb (D.second k) i),
  );
}
  where
    all : (S : Group) →
        over D.branches S (λ k. pos_part (m k)) + over D.branches S (λ k. neg_part (g k)) + over D.branches S (λ k. neg_part (h k)) + over D.branches S (λ k. pos_part (f k))
        ≡ over D.branches S (λ k. neg_part (m k)) + over D.branches S (λ k. pos_part (g k)) + over D.branches S (λ k. pos_part (h k)) + over D.branches S (λ k. neg_part (f k))
    all S = over_four D.branches S _ _ _ _ _ _ _ _ (λ k u. moved_parts _ _ _ _ (e k u))

pub stable : (x y : ℤ) → ((x ≡ y → ⊥) → ⊥) → x ≡ y
stable x y h = elim (ℤ_discrete x y) [ yes e ↦ e | no n ↦ absurd (h n) ]

-- Branch k carries in C, its reroute is that of the flow h; from C with f to D with g neither k nor a branch that it names was touched.
module _ (C D : Case) (w : Wired C D) (f g : ℕ → ℤ) (k : ℕ) (rec : List ℕ) (p : Posed D) (ff : Fits C C.limit f) (fg : Fits D D.limit g) (lk : k < D.branches)
    (kept : g k ≡ f k) (r : Rerouted C f k rec)
    (clear : (j : ℕ) → j < D.branches → names rec j ≡ true → (g j ≡ f j) × (C.served j ≡ D.served j)) where
  -- g, changed as h changed f.
  merged : ℕ → ℤ
  merged j = cond (eqb j k) (pos 0) (cond (names rec j) (r.flow j) (g j))

  at_k : merged k ≡ pos 0
  unfolding merged
  at_k = rw (eq-eqb k k refl) refl

  at_named : (j : ℕ) → (j ≡ k → ⊥) → names rec j ≡ true → merged j ≡ r.flow j
  unfolding merged
  at_named j n e = rw (ne_eqb j k n, e) refl

  at_plain : (j : ℕ) → (j ≡ k → ⊥) → names rec j ≡ false → merged j ≡ g j
  unfolding merged
  at_plain j n e = rw (ne_eqb j k n, e) refl

  in_C : (j : ℕ) → j < D.branches → j < C.branches
  in_C j u = rw w.same_branches u

  -- h is f where it isn't named.
  plain_is : (j : ℕ) → j < D.branches → (j ≡ k → ⊥) → names rec j ≡ false → r.flow j ≡ f j
  plain_is j u n e = stable _ _ (λ d. true≢false (sym ((r.exactly j (in_C j u)).1 (n, d)) ∙ e))

  data Which (j : ℕ) : Type 0 where
    lost : j ≡ k → Which j
    rerouted : (j ≡ k → ⊥) → names rec j ≡ true → Which j
    alone : (j ≡ k → ⊥) → names rec j ≡ false → Which j

  which : (j : ℕ) → Which j
  which j = elim (side j k) [ below l ↦ go (λ e. omega arith) (names rec j) refl | equal l ↦ lost l | above l ↦ go (λ e. omega arith) (names rec j) refl ]
    where
      go : (j ≡ k → ⊥) → (t : Bool) → names rec j ≡ t → Which j
      go n true e = rerouted n e
      go n false e = alone n e

  moved : (j : ℕ) → j < D.branches → Moved (merged j) (g j) (r.flow j) (f j)
  moved j u = elim (which j) [
    | lost e ↦ rw e (gone at_k (r.fits.still k (in_C k lk) (served_self C k false)) kept)
    | rerouted n e ↦ named (at_named j n e) (clear j u e).0
    | alone n e ↦ plain (at_plain j n e) (plain_is j u n e)
  ]

  balanced : Balanced (net_of D C.loss_limit) (flow_of merged) nothing nothing
  balanced =
      moved_balanced C D C.loss_limit merged g r.flow f w.same_buses moved w.same_branches w.same_first w.same_second
      (record { bus = (fits_balanced D D.limit g fg).bus })
      (record { bus = (fits_balanced (out C k) C.loss_limit r.flow r.fits).bus })
      (record { bus = (fits_balanced C C.limit f ff).bus })

  -- A named branch stands as it stood.
  served_named : (j : ℕ) → j < D.branches → (j ≡ k → ⊥) → names rec j ≡ true → (out C k).served j ≡ (out D k).served j
  served_named j u n e = served_other C k false j n ∙ (clear j u e).1 ∙ sym (served_other D k false j n)

  merged_still : (j : ℕ) → j < D.branches → (out D k).served j ≡ false → merged j ≡ pos 0
  merged_still j u o = elim (which j) [
    | lost e ↦ rw e at_k
    | rerouted n e ↦ at_named j n e ∙ r.fits.still j (in_C j u) (served_named j u n e ∙ o)
    | alone n e ↦ at_plain j n e ∙ fg.still j u (sym (served_other D k false j n) ∙ o)
  ]

  merged_within : (j : ℕ) → j < D.branches → (out D k).served j ≡ true → nat_abs (merged j) ≤ D.loss_limit j
  merged_within j u o = elim (which j) [
    | lost e ↦ rw (e, at_k) (omega arith)
    | rerouted n e ↦ rw (at_named j n e, ← w.same_limit) (r.fits.within j (in_C j u) (served_named j u n e ∙ o))
    | alone n e ↦ rw (at_plain j n e) (omega (arith, fg.within j u (sym (served_other D k false j n) ∙ o), p.rising j u))
  ]

  merged_fits : Fits (out D k) D.loss_limit merged
  merged_fits = record { still = merged_still; within = merged_within; bus = balanced_bus D C.loss_limit merged balanced }

  pub keep_reroute : Rerouted D g k rec
  keep_reroute = record {
    flow = merged;
    fits = merged_fits;
    exactly = λ j u. (to j u, from j u);
    beyond = λ j u. r.beyond j (rw w.same_branches u);
    idle = λ e. r.idle (sym kept ∙ e);
  }
    where
      to : (j : ℕ) → j < D.branches → names rec j ≡ true → (j ≡ k → ⊥) × (merged j ≡ g j → ⊥)
      to j u e = let x = (r.exactly j (in_C j u)).0 e in (x.0, λ q. x.1 (sym (at_named j x.0 e) ∙ q ∙ (clear j u e).0))

      from : (j : ℕ) → j < D.branches → (j ≡ k → ⊥) × (merged j ≡ g j → ⊥) → names rec j ≡ true
      from j u x = go (names rec j) refl
        where
          go : (t : Bool) → names rec j ≡ t → names rec j ≡ true
          go true e = e
          go false e = absurd (x.1 (at_plain j x.0 e))

  pub keep_carries : Carries D k
  keep_carries = fits_carries D merged k p merged_fits
