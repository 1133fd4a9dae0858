-- The walk back along the marks, from a goal to its start.
use mathlib.Core.Path.{◌≡◌, refl, sym, ap, subst, ◌∙◌}
use mathlib.Core.List.{List, ◌∷◌}
use Prim.Native.Nat.{ℕ, ◌+◌, ◌-◌, ◌<◌, ◌≤◌}
use native.Mathlib.Omega.{arith}
use native.Mathlib.Decide.{ℕ_discrete}
use lib.ListN.{length}
use Rattle.rows.specs.Row.{nth}
use Rattle.search.specs.InsideSearch.{Joins, Path, stop, via}
use Rattle.search.specs.InsideSearch.Joins.{forth, back}

-- One step back, over branch k.
pub record Hop (k n : ℕ) (f s m : List ℕ) (from v : ℕ) (ks : List ℕ) : Type 0 where
  pub u : ℕ
  pub rest : List ℕ
  pub is : ks ≡ k ∷ rest
  pub below : k < n
  pub apart : u ≡ v → ⊥
  pub joins : Joins u (nth f k) (nth s k) v
  pub path : Path n f s m from u rest

hop : (n : ℕ) (f s m : List ℕ) (from v : ℕ) (ks : List ℕ) → Path n f s m from v ks → (nth m v ≡ 1 → ⊥)
    → (2 ≤ nth m v) × Hop (nth m v - 2) n f s m from v ks
hop n f s m from v ks (stop w e h g) z = absurd (z g)
hop n f s m from v ks (via k u w js h l y a g c) z =
    (omega arith, subst (λ (j : ℕ). Hop j n f s m from w (k ∷ js)) (omega arith) (record { u = u; rest = js; is = refl; below = l; apart = a; joins = y; path = c }))

arrived : (n : ℕ) (f s m : List ℕ) (from v : ℕ) (ks : List ℕ) → Path n f s m from v ks → nth m v ≡ 1 → from ≡ v
arrived n f s m from v ks (stop w e h g) z = e
arrived n f s m from v ks (via k u w js h l y a g c) z = absurd (omega arith)

bus_of : (n : ℕ) (f s m : List ℕ) (from v : ℕ) (ks : List ℕ) → Path n f s m from v ks → v < 128
bus_of n f s m from v ks (stop w e h g) = h
bus_of n f s m from v ks (via k u w js h l y a g c) = h

only_forth : (u a b v : ℕ) → Joins u a b v → (u ≡ v → ⊥) → b ≡ v → u ≡ a
only_forth u a b v (forth p r) n e = sym p
only_forth u a b v (back p r) n e = absurd (n (sym p ∙ e))

only_back : (u a b v : ℕ) → Joins u a b v → (b ≡ v → ⊥) → (u ≡ b) × (a ≡ v)
only_back u a b v (forth p r) n = absurd (n r)
only_back u a b v (back p r) n = (sym p, r)

same_end : (u u' a b v : ℕ) → Joins u a b v → Joins u' a b v → (u ≡ v → ⊥) → (u' ≡ v → ⊥) → u' ≡ u
same_end u u' a b v j j' n n' = pick_end (ℕ_discrete b v)
  where
    pick_end : Dec (b ≡ v) → u' ≡ u
    pick_end (yes e) = only_forth u' a b v j' n' e ∙ sym (only_forth u a b v j n e)
    pick_end (no d) = (only_back u' a b v j' d).0 ∙ sym (only_back u a b v j d).0

-- The marks lead back to one start alone.
one_start : (n : ℕ) (f s m : List ℕ) (from from' v : ℕ) (ks ks' : List ℕ) → Path n f s m from v ks → Path n f s m from' v ks' → from' ≡ from
one_start n f s m from from' v ks ks' (stop w e h g) p = arrived n f s m from' w ks' p g ∙ sym e
one_start n f s m from from' v ks ks' (via k u w js h l y a g c) p =
    let H : Hop k n f s m from' w ks' = subst (λ (j : ℕ). Hop j n f s m from' w ks') (omega arith) (hop n f s m from' w ks' p (λ z. omega arith)).1 in
    one_start n f s m from from' u js H.rest c
    (subst (λ (j : ℕ). Path n f s m from' j H.rest) (same_end _ _ _ _ _ y H.joins a H.apart) H.path)

-- Some way back from the goal is walked as far as bus `at`, in so many steps.
pub record Walk (n : ℕ) (f s m : List ℕ) (goal at steps : ℕ) : Type 0 where
  pub from : ℕ
  pub ks : List ℕ
  pub path : Path n f s m from at ks
  pub every : List ℕ
  pub origin : Path n f s m from goal every
  pub left : length ks + steps < 128

unfoldable pub walk_start : (n : ℕ) (f s m : List ℕ) (goal from : ℕ) (ks : List ℕ) → Path n f s m from goal ks → length ks < 128
    → Walk n f s m goal goal 0
walk_start n f s m goal from ks p l = record { from = from; ks = ks; path = p; every = ks; origin = p; left = omega arith }

module _ (n : ℕ) (f s m : List ℕ) (goal at steps : ℕ) (T : Walk n f s m goal at steps) where
  pub walk_end : nth m at ≡ 1 → (from : ℕ) (ks : List ℕ) → Path n f s m from goal ks → from ≡ at
  walk_end z from ks p = one_start n f s m T.from from goal T.every ks T.origin p ∙ arrived n f s m T.from at T.ks T.path z

  module _ (z : nth m at ≡ 1 → ⊥) where
    pub both : (2 ≤ nth m at) × Hop (nth m at - 2) n f s m T.from at T.ks
    both = hop n f s m T.from at T.ks T.path z

    pub two : 2 ≤ nth m at
    two = both.0

    pub branch : nth m at - 2 < n
    branch = both.1.below

    unfoldable pub walk_on : (u : ℕ) → both.1.u ≡ u → Walk n f s m goal u (steps + 1)
    walk_on u e =
        record {
          from = T.from;
          ks = both.1.rest;
          path = subst (λ (v : ℕ). Path n f s m T.from v both.1.rest) e both.1.path;
          every = T.every;
          origin = T.origin;
          left = omega (arith, T.left, ap length both.1.is);
        }

    pub to_first : nth s (nth m at - 2) ≡ at → both.1.u ≡ nth f (nth m at - 2)
    to_first g = only_forth _ _ _ _ both.1.joins both.1.apart g

    pub to_second : (nth s (nth m at - 2) ≡ at → ⊥) → (both.1.u ≡ nth s (nth m at - 2)) × (nth f (nth m at - 2) ≡ at)
    to_second g = only_back _ _ _ _ both.1.joins g

    unfoldable pub walk_forth : nth s (nth m at - 2) ≡ at → Walk n f s m goal (nth f (nth m at - 2)) (steps + 1)
    walk_forth g = walk_on _ (to_first g)

    unfoldable pub walk_back : (nth s (nth m at - 2) ≡ at → ⊥) → Walk n f s m goal (nth s (nth m at - 2)) (steps + 1)
    walk_back g = walk_on _ (to_second g).0
