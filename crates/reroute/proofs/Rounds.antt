-- The rounds of rerouting: what every round keeps, and what one route changes.
use mathlib.Core.Path.{◌≡◌, sym, subst, ◌∙◌}
use mathlib.Core.List.{List}
use Prim.Native.Nat.{ℕ, ◌+◌, ◌-◌, ◌<◌, ◌≤◌}
use native.Mathlib.Omega.{arith}
use native.Mathlib.Decide.{ℕ_discrete}
use lib.Dec.{eqb}
use lib.ListN.{length, set, length-set}
use lib.Seq.{get_or-set_same, get_or-set_other}
use Rattle.rows.specs.Row.{nth}
use Rattle.rows.specs.Sum.{all, pick}
use Rattle.rows.proofs.Sum.{over_set, over_term}
use Rattle.search.specs.InsideSearch.{scene, Routed, Searched}
use Rattle.search.specs.declared.Wires.{Wires}
use Rattle.search.specs.declared.Latent.{Latent}
use Rattle.search.specs.declared.Work.{Work}
use Rattle.search.specs.declared.Search.TheVariants.{Route}
use Rattle.search.specs.declared.Found.{Found}
use Rattle.search.proofs.Answering.{route_of}
use Rattle.reroute.specs.InsideMoves.{both_ways, total, Reroutable}
use Rattle.reroute.specs.Inside.{role_of, Roles, ends, Moves}
use Rattle.reroute.specs.declared.Rest.{Rest}
use Rattle.reroute.proofs.OnePlace.{set_less}
use Rattle.reroute.proofs.Casting.{role_surplus, role_deficit}

-- From latent₀ and rest₀ to latent and rest: each bus's balance is what it was, and r has the roles.
pub record Round (W : Wires) (latent₀ : Latent) (rest₀ : Rest) (latent : Latent) (rest : Rest) (r : List ℕ) (left : ℕ) : Type 0 where
  pub ready : Reroutable W latent₀ rest₀
  pub long_l : length rest.surplus ≡ 128
  pub long_d : length rest.deficit ≡ 128
  pub long_r : length r ≡ 128
  pub same : (k : ℕ) → both_ways latent k ≡ both_ways latent₀ k
  pub beyond : (k : ℕ) → W.branches ≤ k → nth latent.ahead k ≡ nth latent₀.ahead k
  pub rises : (k : ℕ) → nth latent.ahead k + left ≤ nth latent₀.ahead k + total W.buses rest₀.surplus
  pub falls : (k : ℕ) → nth latent₀.ahead k + left ≤ nth latent.ahead k + total W.buses rest₀.surplus
  pub less_l : (i : ℕ) → nth rest.surplus i ≤ nth rest₀.surplus i
  pub less_d : (i : ℕ) → nth rest.deficit i ≤ nth rest₀.deficit i
  pub drift :
      (i : ℕ) → ends W.branches W.first latent.ahead i + ends W.branches W.second latent₀.ahead i + nth rest₀.surplus i + nth rest.deficit i
      ≡ ends W.branches W.first latent₀.ahead i + ends W.branches W.second latent.ahead i + nth rest.surplus i + nth rest₀.deficit i
  pub roles : Roles W.buses rest r
  pub sum : left ≡ total W.buses rest.surplus

-- What is moved over a route: no more than it has room for, than the surplus s and than the deficit t, and something if each is.
pub record Amount (room s t x : ℕ) : Type 0 where
  pub in_room : x ≤ room
  pub in_surplus : x ≤ s
  pub in_deficit : x ≤ t
  pub some : 0 < room → 0 < s → 0 < t → 0 < x

-- A route is found.
module _ {W : Wires} {w : Work} {r : List ℕ} {fd : Found} (S : Searched W w r fd) {goal room start : ℕ} (e : fd.answer ≡ Route goal room start)
    {latent₀ : Latent} {rest₀ rest : Rest} {left : ℕ}
    (R : Round W latent₀ rest₀ w.latent rest r left) where
  routed : Routed (scene W w.latent r) fd.work.marks goal room start
  routed = route_of S e

  pub goal_bus : goal < 128
  goal_bus = omega (arith, routed.bus, R.ready.linked.wired.few)

  goal_some : 0 < nth rest.deficit goal
  goal_some = role_deficit (nth rest.surplus goal) (nth rest.deficit goal) (sym (R.roles.role goal routed.bus) ∙ routed.goal)

  start_in : start < W.buses
  start_in = routed.origin.bus

  pub start_bus : start < 128
  start_bus = omega (arith, start_in, R.ready.linked.wired.few)

  start_some : 0 < nth rest.surplus start
  start_some = role_surplus (nth rest.surplus start) (nth rest.deficit start) (sym (R.roles.role start start_in) ∙ routed.origin.role)

  -- a bus has no deficit beside a surplus
  no_lack : nth rest.deficit start ≡ 0
  no_lack = omega (arith, start_some, R.ready.apart start start_in, R.less_l start, R.less_d start)

  no_more : nth rest.surplus goal ≡ 0
  no_more = omega (arith, goal_some, R.ready.apart goal routed.bus, R.less_l goal, R.less_d goal)

  apart : goal ≡ start → ⊥
  apart g = let z : nth rest.surplus start ≡ 0 = subst (λ (v : ℕ). nth rest.surplus v ≡ 0) g no_more in omega (arith, start_some)

  module _ {x : ℕ} (A : Amount room (nth rest.surplus start) (nth rest.deficit goal) x) where
    pub in_left : x ≤ left
    in_left = omega (arith, A.in_surplus, R.sum, over_term W.buses all (nth rest.surplus) start start_in)

    less_at : (i : ℕ) → nth (set rest.surplus start (nth rest.surplus start - x)) i + pick (eqb start i) x ≡ nth rest.surplus i
    less_at i = set_less rest.surplus start x i (omega (arith, R.long_l, start_bus)) A.in_surplus

    lack_at : (i : ℕ) → nth (set rest.deficit goal (nth rest.deficit goal - x)) i + pick (eqb goal i) x ≡ nth rest.deficit i
    lack_at i = set_less rest.deficit goal x i (omega (arith, R.long_d, goal_bus)) A.in_deficit

    module _ {p q : ℕ} (ep : p ≡ role_of (nth rest.surplus start - x) 0) (eq : q ≡ role_of 0 (nth rest.deficit goal - x)) where
      -- the roles at the two ends of the route, and elsewhere
      role_at : (i : ℕ) → i < W.buses
          → nth (set (set r start p) goal q) i ≡ role_of (nth (set rest.surplus start (nth rest.surplus start - x)) i) (nth (set rest.deficit goal (nth rest.deficit goal - x)) i)
      role_at i h = which (ℕ_discrete i goal) (ℕ_discrete i start)
        where
          which : Dec (i ≡ goal) → Dec (i ≡ start)
              → nth (set (set r start p) goal q) i ≡ role_of (nth (set rest.surplus start (nth rest.surplus start - x)) i) (nth (set rest.deficit goal (nth rest.deficit goal - x)) i)
          which (yes g) o =
              rw (
                g,
                get_or-set_same (set r start p) goal q 0 (omega (arith, length-set r start p, R.long_r, goal_bus)),
                get_or-set_other rest.surplus start goal (nth rest.surplus start - x) 0 apart,
                get_or-set_same rest.deficit goal (nth rest.deficit goal - x) 0 (omega (arith, R.long_d, goal_bus)),
                no_more,
              ) eq
          which (no n) (yes g) =
              rw (
                get_or-set_other (set r start p) goal i q 0 n,
                get_or-set_other rest.deficit goal i (nth rest.deficit goal - x) 0 n,
                g,
                get_or-set_same r start p 0 (omega (arith, R.long_r, start_bus)),
                get_or-set_same rest.surplus start (nth rest.surplus start - x) 0 (omega (arith, R.long_l, start_bus)),
                no_lack,
              ) ep
          which (no n) (no n') =
              rw (
                get_or-set_other (set r start p) goal i q 0 n,
                get_or-set_other r start i p 0 n',
                get_or-set_other rest.surplus start i (nth rest.surplus start - x) 0 n',
                get_or-set_other rest.deficit goal i (nth rest.deficit goal - x) 0 n,
              ) (R.roles.role i h)

      pub round_again : {latent' : Latent} → Moves W fd.work.marks fd.work.latent goal x latent'
          → Round W latent₀ rest₀ latent' (record { surplus = set rest.surplus start (nth rest.surplus start - x); deficit = set rest.deficit goal (nth rest.deficit goal - x) })
          (set (set r start p) goal q) (left - x)
      round_again {latent'} moves =
          let moved : Moves W fd.work.marks w.latent goal x latent' = rw S.same_latent at moves in
          record {
            ready = R.ready;
            long_l = length-set rest.surplus start (nth rest.surplus start - x) ∙ R.long_l;
            long_d = length-set rest.deficit goal (nth rest.deficit goal - x) ∙ R.long_d;
            long_r = length-set (set r start p) goal q ∙ length-set r start p ∙ R.long_r;
            same = λ k. moved.same k ∙ R.same k;
            beyond = λ k h. moved.beyond k h ∙ R.beyond k h;
            rises = λ k. omega (arith, moved.rises k, R.rises k, in_left);
            falls = λ k. omega (arith, moved.falls k, R.falls k, in_left);
            less_l = λ i. omega (arith, less_at i, R.less_l i);
            less_d = λ i. omega (arith, lack_at i, R.less_d i);
            drift = λ i. omega (arith, R.drift i, rw routed.starts at (moved.drift routed.trail.from routed.trail.ks routed.trail.path i), less_at i, lack_at i);
            roles = record { role = role_at };
            sum = omega (
              arith,
              R.sum,
              A.in_surplus,
              in_left,
              over_set W.buses all rest.surplus start (nth rest.surplus start - x) start_in (omega (arith, R.long_l, start_bus)),
            );
          }
