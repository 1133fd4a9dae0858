-- What moving x along a way does: the sums of the latent capacities stay, each changes by x at most, and only the two ends of the way see a change.
use mathlib.Core.Path.{◌≡◌, refl, sym, ap, ap₂, subst, ◌∙◌}
use mathlib.Core.Bool.{cond}
use mathlib.Core.List.{List, [], ◌∷◌}
use Prim.Native.Nat.{ℕ, suc, ◌+◌, ◌-◌, ◌^◌, ◌<◌, ◌≤◌, min}
use native.Mathlib.Omega.{arith}
use native.Mathlib.Decide.{ℕ_discrete}
use borrow.Author.Tests.{eq-eqb, ne_eqb}
use lib.Dec.{eqb}
use lib.ListN.{length, set, length-set}
use lib.Seq.{get_or-set_same, get_or-set_other}
use Rattle.rows.specs.Row.{nth}
use Rattle.rows.specs.Sum.{pick}
use Rattle.rows.proofs.Sum.{pick_add, over_set}
use Rattle.search.specs.InsideSearch.{narrow, Distinct}
use Rattle.search.specs.declared.Wires.{Wires}
use Rattle.search.specs.declared.Latent.{Latent}
use Rattle.reroute.specs.InsideMoves.{Sums}
use Rattle.reroute.specs.Inside.{ends, Movable, Moves}
use Rattle.reroute.proofs.Walks.{Hop, Walk, walk_start, walk_end, both, branch, walk_on, to_second, walk_forth, walk_back}

narrow_ahead : (f s a b : List ℕ) (v k : ℕ) (ks : List ℕ) → nth s k ≡ v → narrow f s a b v (k ∷ ks) ≡ min (narrow f s a b (nth f k) ks) (nth a k)
narrow_ahead f s a b v k ks e = rw (eq-eqb (nth s k) v e)

narrow_back : (f s a b : List ℕ) (v k : ℕ) (ks : List ℕ) → (nth s k ≡ v → ⊥) → narrow f s a b v (k ∷ ks) ≡ min (narrow f s a b (nth s k) ks) (nth b k)
narrow_back f s a b v k ks e = rw (ne_eqb (nth s k) v e)

-- a store at branch k leaves a way that does not use k
narrow_kept : (f s a b : List ℕ) (k x y v : ℕ) (ks : List ℕ) → ((i : ℕ) → i < length ks → nth ks i ≡ k → ⊥)
    → narrow f s (set a k x) (set b k y) v ks ≡ narrow f s a b v ks
narrow_kept f s a b k x y v [] n = refl
narrow_kept f s a b k x y v (j ∷ js) n =
    let z : j ≡ k → ⊥ = n 0 (omega arith) in
    ap₂
    min
    (narrow_kept f s a b k x y (cond (eqb (nth s j) v) (nth f j) (nth s j)) js (λ i l. n (suc i) (omega arith)))
    (ap₂ (cond (eqb (nth s j) v)) (get_or-set_other a k j x 0 z) (get_or-set_other b k j y 0 z))

-- x is moved on the way from the goal back to bus `at`; on the rest of the way every branch still has it.
pub record Going (n : ℕ) (f s a₀ b₀ m : List ℕ) (goal x : ℕ) (a b : List ℕ) (at steps : ℕ) : Type 0 where
  pub few : n ≤ 256
  pub long : length m ≡ 128
  pub walk : Walk n f s m goal at steps
  pub fits : x ≤ narrow f s a b at walk.ks
  pub once : Distinct walk.ks
  pub long_a : length a ≡ 256
  pub long_b : length b ≡ 256
  pub sums : Sums n (record { ahead = a₀; back = b₀ })
  pub same : (k : ℕ) → nth a k + nth b k ≡ nth a₀ k + nth b₀ k
  pub beyond : (k : ℕ) → n ≤ k → nth a k ≡ nth a₀ k
  pub rises : (k : ℕ) → nth a k ≤ nth a₀ k + x
  pub falls : (k : ℕ) → nth a₀ k ≤ nth a k + x
  pub ahead_still : (i : ℕ) → i < length walk.ks → nth a (nth walk.ks i) ≡ nth a₀ (nth walk.ks i)
  pub drift : (i : ℕ) → ends n f a i + ends n s a₀ i + pick (eqb at i) x ≡ ends n f a₀ i + ends n s a i + pick (eqb goal i) x

pub going_start : {W : Wires} {m : List ℕ} {latent : Latent} {goal x : ℕ} → Movable W m latent goal x → length m ≡ 128 → length latent.ahead ≡ 256
    → length latent.back ≡ 256
    → Going W.branches W.first W.second latent.ahead latent.back m goal x latent.ahead latent.back goal 0
unfolding walk_start
going_start {W} {m} {latent} {goal} {x} M long long_a long_b =
    record {
      few = M.few;
      long = long;
      walk = walk_start W.branches W.first W.second m goal M.trail.from M.trail.ks M.trail.path M.trail.short;
      fits = omega (arith, M.fits, M.trail.least);
      once = M.trail.branches_once;
      long_a = long_a;
      long_b = long_b;
      sums = M.sums;
      same = λ k. refl;
      beyond = λ k l. refl;
      rises = λ k. omega arith;
      falls = λ k. omega arith;
      ahead_still = λ i l. refl;
      drift = λ i. refl;
    }

module _ {n : ℕ} {f s a₀ b₀ m : List ℕ} {goal x : ℕ} {a b : List ℕ} {at steps : ℕ} (G : Going n f s a₀ b₀ m goal x a b at steps) where
  module _ (z : nth m at ≡ 1 → ⊥) where
    in_n : nth m at - 2 < n
    in_n = branch n f s m goal at steps G.walk z

    pub going_branch : nth m at - 2 < 256
    going_branch = omega (arith, in_n, G.few)

    in_a : nth m at - 2 < length a
    in_a = omega (arith, going_branch, G.long_a)

    in_b : nth m at - 2 < length b
    in_b = omega (arith, going_branch, G.long_b)

    H : Hop (nth m at - 2) n f s m G.walk.from at G.walk.ks
    H = (both n f s m goal at steps G.walk z).1

    fits_here : x ≤ narrow f s a b at ((nth m at - 2) ∷ H.rest)
    fits_here = subst (λ (l : List ℕ). x ≤ narrow f s a b at l) H.is G.fits

    lone : Distinct ((nth m at - 2) ∷ H.rest)
    lone = subst Distinct H.is G.once

    fresh : (i : ℕ) → i < length H.rest → nth H.rest i ≡ nth m at - 2 → ⊥
    fresh i l g = lone.once 0 (suc i) (omega arith) (omega arith) (sym g)

    -- no branch of the way that is left was changed
    still : (i : ℕ) → i < length ((nth m at - 2) ∷ H.rest) → nth a (nth ((nth m at - 2) ∷ H.rest) i) ≡ nth a₀ (nth ((nth m at - 2) ∷ H.rest) i)
    still = subst (λ (l : List ℕ). (i : ℕ) → i < length l → nth a (nth l i) ≡ nth a₀ (nth l i)) H.is G.ahead_still

    -- the rest of the records, whichever way the branch goes: p and q are the new latent capacities there
    step : (u p q : ℕ) (W : Walk n f s m goal u (steps + 1)) → W.ks ≡ H.rest → x ≤ narrow f s a b u H.rest
        → p + q ≡ nth a (nth m at - 2) + nth b (nth m at - 2) → p ≤ nth a (nth m at - 2) + x → nth a (nth m at - 2) ≤ p + x
        → ((i : ℕ) → ends n f (set a (nth m at - 2) p) i + ends n s a₀ i + pick (eqb u i) x ≡ ends n f a₀ i + ends n s (set a (nth m at - 2) p) i + pick (eqb goal i) x)
        → Going n f s a₀ b₀ m goal x (set a (nth m at - 2) p) (set b (nth m at - 2) q) u (steps + 1)
    step u p q W e l sum up down d =
        record {
          few = G.few;
          long = G.long;
          walk = W;
          fits = rw e (omega (arith, l, narrow_kept f s a b (nth m at - 2) p q u H.rest fresh));
          once = rw e (record { once = λ i j g h w. lone.once (suc i) (suc j) (omega arith) (omega arith) w });
          long_a = length-set a (nth m at - 2) p ∙ G.long_a;
          long_b = length-set b (nth m at - 2) q ∙ G.long_b;
          sums = G.sums;
          same = sames;
          beyond = λ j h. get_or-set_other a (nth m at - 2) j p 0 (omega (arith, in_n)) ∙ G.beyond j h;
          rises = λ j. (apart j).0;
          falls = λ j. (apart j).1;
          ahead_still = rw e (λ i h. get_or-set_other a (nth m at - 2) (nth H.rest i) p 0 (fresh i h) ∙ still (suc i) (omega arith));
          drift = d;
        }
      where
        apart : (j : ℕ) → (nth (set a (nth m at - 2) p) j ≤ nth a₀ j + x) × (nth a₀ j ≤ nth (set a (nth m at - 2) p) j + x)
        apart j = which (ℕ_discrete j (nth m at - 2))
          where
            which : Dec (j ≡ nth m at - 2) → (nth (set a (nth m at - 2) p) j ≤ nth a₀ j + x) × (nth a₀ j ≤ nth (set a (nth m at - 2) p) j + x)
            which (yes g) = rw (g, get_or-set_same a (nth m at - 2) p 0 in_a) (omega (arith, still 0 (omega arith)))
            which (no d') = rw (get_or-set_other a (nth m at - 2) j p 0 d') (G.rises j, G.falls j)

        sames : (j : ℕ) → nth (set a (nth m at - 2) p) j + nth (set b (nth m at - 2) q) j ≡ nth a₀ j + nth b₀ j
        sames j = which (ℕ_discrete j (nth m at - 2))
          where
            which : Dec (j ≡ nth m at - 2) → nth (set a (nth m at - 2) p) j + nth (set b (nth m at - 2) q) j ≡ nth a₀ j + nth b₀ j
            which (yes g) = rw (g, get_or-set_same a (nth m at - 2) p 0 in_a, get_or-set_same b (nth m at - 2) q 0 in_b) (sum ∙ G.same (nth m at - 2))
            which (no d') = rw (get_or-set_other a (nth m at - 2) j p 0 d', get_or-set_other b (nth m at - 2) j q 0 d') (G.same j)

    module _ (g : nth s (nth m at - 2) ≡ at) where
      both_fit : (x ≤ narrow f s a b (nth f (nth m at - 2)) H.rest) × (x ≤ nth a (nth m at - 2))
      both_fit = omega (arith, fits_here, narrow_ahead f s a b at (nth m at - 2) H.rest g)

      pub forth_room : x ≤ nth a (nth m at - 2)
      forth_room = both_fit.1

      pub forth_sum : nth b (nth m at - 2) + x < 2 ^ 32
      forth_sum = omega (arith, forth_room, G.sums.fit (nth m at - 2) in_n, G.same (nth m at - 2))

      -- p and q are the new latent capacities of the branch
      pub going_forth : (p q : ℕ) → p + x ≡ nth a (nth m at - 2) → q ≡ nth b (nth m at - 2) + x
          → Going n f s a₀ b₀ m goal x (set a (nth m at - 2) p) (set b (nth m at - 2) q) (nth f (nth m at - 2)) (steps + 1)
      unfolding walk_forth walk_on H
      going_forth p q ep eq =
          step
          (nth f (nth m at - 2))
          p
          q
          (walk_forth n f s m goal at steps G.walk z g)
          refl
          both_fit.0
          (omega arith)
          (omega arith)
          (omega arith)
          (λ i. omega (
            arith,
            G.drift i,
            over_set n (λ j. eqb (nth f j) i) a (nth m at - 2) p in_n in_a,
            over_set n (λ j. eqb (nth s j) i) a (nth m at - 2) p in_n in_a,
            pick_add (eqb (nth f (nth m at - 2)) i) p x,
            pick_add (eqb (nth s (nth m at - 2)) i) p x,
            ap (pick (eqb (nth f (nth m at - 2)) i)) ep,
            ap (pick (eqb (nth s (nth m at - 2)) i)) ep,
            ap (λ (v : ℕ). pick (eqb v i) x) g,
          ))

    module _ (g : nth s (nth m at - 2) ≡ at → ⊥) where
      both_fit_back : (x ≤ narrow f s a b (nth s (nth m at - 2)) H.rest) × (x ≤ nth b (nth m at - 2))
      both_fit_back = omega (arith, fits_here, narrow_back f s a b at (nth m at - 2) H.rest g)

      pub back_room : x ≤ nth b (nth m at - 2)
      back_room = both_fit_back.1

      pub back_sum : nth a (nth m at - 2) + x < 2 ^ 32
      back_sum = omega (arith, back_room, G.sums.fit (nth m at - 2) in_n, G.same (nth m at - 2))

      first_at : nth f (nth m at - 2) ≡ at
      first_at = (to_second n f s m goal at steps G.walk z g).1

      pub going_back : (p q : ℕ) → p ≡ nth a (nth m at - 2) + x → q + x ≡ nth b (nth m at - 2)
          → Going n f s a₀ b₀ m goal x (set a (nth m at - 2) p) (set b (nth m at - 2) q) (nth s (nth m at - 2)) (steps + 1)
      unfolding walk_back walk_on H
      going_back p q ep eq =
          step
          (nth s (nth m at - 2))
          p
          q
          (walk_back n f s m goal at steps G.walk z g)
          refl
          both_fit_back.0
          (omega arith)
          (omega arith)
          (omega arith)
          (λ i. omega (
            arith,
            G.drift i,
            over_set n (λ j. eqb (nth f j) i) a (nth m at - 2) p in_n in_a,
            over_set n (λ j. eqb (nth s j) i) a (nth m at - 2) p in_n in_a,
            pick_add (eqb (nth f (nth m at - 2)) i) (nth a (nth m at - 2)) x,
            pick_add (eqb (nth s (nth m at - 2)) i) (nth a (nth m at - 2)) x,
            ap (pick (eqb (nth f (nth m at - 2)) i)) ep,
            ap (pick (eqb (nth s (nth m at - 2)) i)) ep,
            ap (λ (v : ℕ). pick (eqb v i) x) first_at,
          ))

pub going_end : {W : Wires} {m : List ℕ} {latent r : Latent} {goal x at steps : ℕ}
    → Going W.branches W.first W.second latent.ahead latent.back m goal x r.ahead r.back at steps → nth m at ≡ 1 → Moves W m latent goal x r
going_end {goal = goal} {at = at} {steps = steps} G z =
    record {
      same = G.same;
      beyond = G.beyond;
      rises = G.rises;
      falls = G.falls;
      drift = λ from ks p i. rw (walk_end _ _ _ _ goal at steps G.walk z from ks p) (G.drift i);
    }
