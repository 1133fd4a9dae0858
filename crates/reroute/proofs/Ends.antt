-- The two ways out of the rounds: nothing left, or a group reached. Either way the group is the smallest with the largest excess.
use mathlib.Core.Path.{◌≡◌, refl, sym, ◌∙◌}
use mathlib.Core.Bool.{Bool, true, false, true≢false}
use mathlib.Core.List.{List}
use Prim.Native.Nat.{ℕ, ◌+◌, ◌-◌, ◌/◌, ◌%◌, ◌^◌, ◌<◌, ◌≤◌}
use native.Mathlib.Omega.{arith}
use native.Mathlib.Nat.{zero-div}
use native.Mathlib.Decide.{ℕ_discrete}
use borrow.Author.Tests.{ltb-true}
use lib.ListN.{replicate}
use Rattle.rows.specs.Row.{nth}
use Rattle.rows.specs.Sum.{all}
use Rattle.rows.specs.Bit.{bit_at, has}
use Rattle.rows.proofs.Sum.{over_term}
use Rattle.grid.proofs.Net.{EndsThere}
use Rattle.grid.proofs.Flow.{Within}
use Rattle.grid.proofs.ReachBySteps.{Reached, Roomy, along, against, Surplus}
use Rattle.grid.proofs.ReachWithin.{reach_within, reach_more}
use Rattle.grid.proofs.Cut.{smallest}
use Rattle.search.specs.InsideSearch.{scene, Way, Step, Start, marked, Grouped, Searched}
use Rattle.search.specs.InsideSearch.Way.{forth, back}
use Rattle.search.specs.declared.Wires.{Wires}
use Rattle.search.specs.declared.Latent.{Latent}
use Rattle.search.specs.declared.Work.{Work}
use Rattle.search.specs.declared.Search.TheVariants.{Group}
use Rattle.search.specs.declared.Found.{Found}
use Rattle.search.proofs.Marking.{blank}
use Rattle.search.proofs.Answering.{group_of, marked_bus}
use Rattle.reroute.specs.InsideMoves.{network, carried, TwiceLimit, Settles, Reroutes}
use Rattle.reroute.specs.declared.Rest.{Rest}
use Rattle.reroute.proofs.Casting.{surplus_role, role_surplus, deficit_role}
use Rattle.reroute.proofs.Rounds.{Round}

-- No bus is in the group of 16 zero bytes.
pub nobody : (v : ℕ) → has (replicate 16 0) v ≡ false
unfolding bit_at
nobody v = let z : nth (replicate 16 0) (v / 8) / 2 ^ (7 - v % 8) % 2 ≡ 0 = rw (blank 16 (v / 8), zero-div (2 ^ (7 - v % 8))) refl in rw z refl

module _ {W : Wires} {latent₀ latent : Latent} {rest₀ rest : Rest} {r : List ℕ} {left : ℕ} (R : Round W latent₀ rest₀ latent rest r left) where
  ends_in : (limit gain load : ℕ → ℕ) → EndsThere (network W limit gain load)
  ends_in limit gain load = record { first_in = R.ready.linked.wired.first_in; second_in = R.ready.linked.wired.second_in }

  -- The steps of the search are those over spare capacity, and its starts the buses with surplus left.
  module _ (limit gain load : ℕ → ℕ) (e : TwiceLimit W.branches latent₀ limit) where
    twice : (k : ℕ) → k < W.branches → nth latent.ahead k + nth latent.back k ≡ limit k + limit k
    twice k h = R.same k ∙ e.twice k h

    spare_of : (u v : ℕ) → Step (scene W latent r) u v → Roomy (network W limit gain load) (carried limit latent.ahead) u v
    spare_of u v s = by s.arc.way
      where
        by : Way s.capacity u (nth W.first s.branch) (nth W.second s.branch) (nth latent.ahead s.branch) (nth latent.back s.branch) v
            → Roomy (network W limit gain load) (carried limit latent.ahead) u v
        by (forth p q c) = along s.branch s.arc.below p q (omega (arith, s.arc.some))
        by (back p q c) = against s.branch s.arc.below p q (omega (arith, s.arc.some, twice s.branch s.arc.below))

    step_of : (u v : ℕ) → Roomy (network W limit gain load) (carried limit latent.ahead) u v → Step (scene W latent r) u v
    step_of u v (along k h p q g) = record {
      branch = k;
      capacity = nth latent.ahead k;
      arc = record { below = h; some = omega arith; way = forth p q refl };
    }
    step_of u v (against k h p q g) = record {
      branch = k;
      capacity = nth latent.back k;
      arc = record { below = h; some = omega (arith, twice k h); way = back p q refl };
    }

    surplus_of : (i : ℕ) → Start (scene W latent r) i → Surplus W.buses (nth rest.surplus) i
    surplus_of i s = record {
      bus = s.bus;
      some = role_surplus (nth rest.surplus i) (nth rest.deficit i) (sym (R.roles.role i s.bus) ∙ s.role);
    }

    start_of : (i : ℕ) → Surplus W.buses (nth rest.surplus) i → Start (scene W latent r) i
    start_of i s = record {
      bus = s.bus;
      role = R.roles.role i s.bus ∙ sym (surplus_role (nth rest.surplus i) (nth rest.deficit i) s.some);
    }

    still_within : Within (network W limit gain load) (carried limit latent.ahead)
    still_within = record { ahead_fits = λ k h. omega arith; back_fits = λ k h. omega (arith, twice k h) }

  still_balanced : (limit gain load : ℕ → ℕ) → Settles W limit gain load latent₀ rest₀ → Settles W limit gain load latent rest
  still_balanced limit gain load B = record { bus = λ i h. omega (arith, B.bus i h, R.drift i) }

  -- A group g of the buses reached, none of them a goal.
  module _ (g : List ℕ) (reached : Reached (Step (scene W latent r)) (Start (scene W latent r)) W.buses (has g))
      (apart : (i : ℕ) → i < W.buses → has g i ≡ true → nth r i ≡ 2 → ⊥)
      (empty : left ≡ 0 → g ≡ replicate 16 0) (beyond : (v : ℕ) → W.buses ≤ v → v < 128 → has g v ≡ false) (bytes : (j : ℕ) → j < 16 → nth g j < 256) where
    served : (i : ℕ) → i < W.buses → has g i ≡ true → nth rest.deficit i ≡ 0
    served i h m = which (ℕ_discrete (nth rest.deficit i) 0)
      where
        which : Dec (nth rest.deficit i ≡ 0) → nth rest.deficit i ≡ 0
        which (yes z) = z
        which (no z) =
            absurd (apart i h m (R.roles.role i h ∙ sym (deficit_role (nth rest.surplus i) (nth rest.deficit i) (omega (arith, R.ready.apart i h, R.less_l i, R.less_d i)) (omega arith))))

    round_ends : Reroutes W latent₀ rest₀ (record { latent = latent; rest = rest; group = g; left = left })
    round_ends =
        record {
          kept = R.same;
          unlisted = λ k h. (R.beyond k h, omega (arith, R.beyond k h, R.same k));
          idle = λ k z. omega (arith, R.same k);
          less_surplus = R.less_l;
          less_deficit = R.less_d;
          left_over = R.sum;
          rises = R.rises;
          falls = R.falls;
          within = still_within;
          balanced = still_balanced;
          smallest = λ limit gain load e B. rw R.sum (smallest
              (network W limit gain load)
              (carried limit latent.ahead)
              (nth rest.surplus)
              (nth rest.deficit)
              (record { ends = ends_in limit gain load; within = still_within limit gain load e; balanced = still_balanced limit gain load B })
              (has g)
              (record {
                sound = λ i h m. reach_more (surplus_of limit gain load e) (spare_of limit gain load e) (reached.sound i h m);
                complete = λ i t. reached.complete i (reach_more (start_of limit gain load e) (step_of limit gain load e) t);
              })
              served);
          empty = empty;
          beyond = beyond;
          bytes = bytes;
        }

  -- Nothing is left: nothing is reached.
  pub round_done : left ≤ 0 → Reroutes W latent₀ rest₀ (record { latent = latent; rest = rest; group = replicate 16 0; left = left })
  round_done z =
      round_ends
      (replicate 16 0)
      (record { sound = λ i h m. absurd (true≢false (sym m ∙ nobody i)); complete = λ i t. reach_within (has (replicate 16 0)) none_starts (λ u v s m. absurd (true≢false (sym m ∙ nobody u))) t })
      (λ i h m. absurd (true≢false (sym m ∙ nobody i)))
      (λ e. refl)
      (λ v h g. nobody v)
      (λ j h. omega (arith, blank 16 j))
    where
      none_starts : (i : ℕ) → Start (scene W latent r) i → has (replicate 16 0) i ≡ true
      none_starts i s =
          absurd (omega (arith, R.sum, over_term W.buses all (nth rest.surplus) i s.bus, role_surplus (nth rest.surplus i) (nth rest.deficit i) (sym (R.roles.role i s.bus) ∙ s.role)))

-- No route is left: the group reached.
pub round_stuck : {W : Wires} {w : Work} {r : List ℕ} {fd : Found} → Searched W w r fd → fd.answer ≡ Group
    → {latent₀ : Latent} {rest₀ rest : Rest} {left : ℕ} → 0 < left
    → Round W latent₀ rest₀ w.latent rest r left → Reroutes W latent₀ rest₀ (record { latent = fd.work.latent; rest = rest; group = fd.group; left = left })
round_stuck {W} {w} {r} {fd} S e some R =
    rw S.same_latent (round_ends
    R
    fd.group
    (record { sound = λ i h m. G.reached.sound i h (sym (same i (in_row i h)) ∙ m); complete = λ i t. let m = G.reached.complete i t in same i (in_row i (listed i m)) ∙ m })
    (λ i h m. G.apart i h (ltb-true 0 (nth fd.work.marks i) (sym (same i (in_row i h)) ∙ m)))
    (λ z. absurd (omega arith))
    off
    G.bits.byte)
  where
    G : Grouped (scene W w.latent r) fd.work.marks fd.group
    G = group_of S e

    same : (i : ℕ) → i < 128 → has fd.group i ≡ marked fd.work.marks i
    same = G.bits.bit

    in_row : (i : ℕ) → i < W.buses → i < 128
    in_row i h = omega (arith, R.ready.linked.wired.few)

    listed : (i : ℕ) → marked fd.work.marks i ≡ true → i < W.buses
    listed i m = marked_bus S.queued i (ltb-true 0 (nth fd.work.marks i) m)

    off : (v : ℕ) → W.buses ≤ v → v < 128 → has fd.group v ≡ false
    off v h g = go (has fd.group v) refl
      where
        go : (t : Bool) → has fd.group v ≡ t → has fd.group v ≡ false
        go true q = absurd (omega (arith, listed v (sym (same v g) ∙ q)))
        go false q = q
