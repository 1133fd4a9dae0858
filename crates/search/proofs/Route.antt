-- The route back from a queued bus: its branches, its buses, its smallest latent capacity and its start.
use mathlib.Core.Path.{◌≡◌, refl, sym, ap, subst, ◌∙◌}
use mathlib.Core.List.{List, [], ◌∷◌}
use mathlib.Core.Logic.{◌⊎◌, inl, inr, ⊎_elim}
use Prim.Native.Nat.{ℕ, zero, suc, ◌+◌, ◌<◌, ◌≤◌, min}
use native.Mathlib.Omega.{arith}
use borrow.Author.Tests.{eq-eqb, ne_eqb}
use lib.ListN.{length}
use Rattle.rows.specs.Row.{nth}
use Rattle.search.specs.InsideSearch.{Scene, Way, Arc, Start, Joins, Path, stop, via, narrow, stops, Distinct, Trail}
use Rattle.search.specs.InsideSearch.Way.{forth, back}
use Rattle.search.specs.InsideSearch.Joins.{forth as ahead_of_lem, back as back-of}
use Rattle.search.specs.Inside.{Placed, root, joined, Tree}
use Rattle.search.proofs.Marking.{distinct_cons}

-- Two ways over one branch meet at an end.
meet : (c u v c' u' v' a b x y : ℕ) → Way c u a b x y v → Way c' u' a b x y v' → (v ≡ v') ⊎ (v ≡ u')
meet c u v c' u' v' a b x y (forth p r s) (forth p' r' s') = inl (sym r ∙ r')
meet c u v c' u' v' a b x y (forth p r s) (back p' r' s') = inr (sym r ∙ p')
meet c u v c' u' v' a b x y (back p r s) (forth p' r' s') = inr (sym r ∙ p')
meet c u v c' u' v' a b x y (back p r s) (back p' r' s') = inl (sym r ∙ r')

joins : (c u a b x y v : ℕ) → Way c u a b x y v → Joins u a b v
joins c u a b x y v (forth p r s) = ahead_of_lem p r
joins c u a b x y v (back p r s) = back-of p r

-- One branch more on the way back, from v to u.
narrow_step : (f s a b : List ℕ) (k c u v : ℕ) (ks : List ℕ) → (u ≡ v → ⊥) → Way c u (nth f k) (nth s k) (nth a k) (nth b k) v
    → min (narrow f s a b u ks) c ≡ narrow f s a b v (k ∷ ks)
narrow_step f s a b k c u v ks n (forth p r e) = rw (eq-eqb (nth s k) v r, p, e)
narrow_step f s a b k c u v ks n (back p r e) = rw (ne_eqb (nth s k) v (λ g. n (sym p ∙ g)), p, e)

stops_step : (f s : List ℕ) (c k u v x y : ℕ) (ks : List ℕ) → (u ≡ v → ⊥) → Way c u (nth f k) (nth s k) x y v
    → stops f s v (k ∷ ks) ≡ v ∷ stops f s u ks
stops_step f s c k u v x y ks n (forth p r e) = rw (eq-eqb (nth s k) v r, p)
stops_step f s c k u v x y ks n (back p r e) = rw (ne_eqb (nth s k) v (λ g. n (sym p ∙ g)), p)

-- Branch k joins two places of the queue, both below `bound`.
record Used (N : Scene) (q : List ℕ) (bound k : ℕ) : Type 0 where
  hi : ℕ
  lo : ℕ
  c : ℕ
  under : hi < bound
  falls : lo < hi
  arc : Arc N k c (nth q lo) (nth q hi)

-- Bus v stands at a place of the queue below `bound`.
record Passed (q : List ℕ) (bound v : ℕ) : Type 0 where
  spot : ℕ
  under : spot < bound
  is : nth q spot ≡ v

record Line (N : Scene) (m q w o : List ℕ) (p : ℕ) : Type 0 where
  origin : Start N (nth o (nth q p))
  ks : List ℕ
  path : Path N.branches N.first N.second m (nth o (nth q p)) (nth q p) ks
  least : nth w (nth q p) ≡ narrow N.first N.second N.ahead N.back (nth q p) ks
  some : 0 < nth w (nth q p)
  short : length ks ≤ p
  used : (i : ℕ) → i < length ks → Used N q (p + 1) (nth ks i)
  passed : (i : ℕ) → i < length (stops N.first N.second (nth q p) ks) → Passed q (p + 1) (nth (stops N.first N.second (nth q p) ks) i)
  branches_once : Distinct ks
  buses_once : Distinct (stops N.first N.second (nth q p) ks)

lone_bus : (v : ℕ) → Distinct (v ∷ [])
lone_bus v = distinct_cons v [] (λ j l. absurd (omega arith)) (record { once = λ i j l h. absurd (omega arith) })

module _ (N : Scene) (m q w o : List ℕ) (t : ℕ) (T : Tree N m q w o t) where
  module _ (p a k c : ℕ) (h : p < t) (d : a < p) (x : Arc N k c (nth q a) (nth q p)) (L : Line N m q w o a) where
    used_more : (i : ℕ) → i < length (k ∷ L.ks) → Used N q (p + 1) (nth (k ∷ L.ks) i)
    used_more zero l = record { hi = p; lo = a; c = c; under = omega arith; falls = d; arc = x }
    used_more (suc i) l =
        let U : Used N q (a + 1) (nth L.ks i) = L.used i (omega arith) in
        record { hi = U.hi; lo = U.lo; c = U.c; under = omega arith; falls = U.falls; arc = U.arc }

    new_branch : (j : ℕ) → j < length L.ks → k ≡ nth L.ks j → ⊥
    new_branch j l e =
        ⊎_elim (λ g. T.once U.hi p (omega (arith, U.under)) h (sym g)) (λ g. T.once U.lo p (omega (arith, U.under, U.falls)) h (sym g)) (meet _ _ _ _ _ _ _ _ _ _ x.way same.way)
      where
        U : Used N q (a + 1) (nth L.ks j)
        U = L.used j l

        same : Arc N k U.c (nth q U.lo) (nth q U.hi)
        same = subst (λ (v : ℕ). Arc N v U.c (nth q U.lo) (nth q U.hi)) (sym e) U.arc

    before : List ℕ
    before = stops N.first N.second (nth q a) L.ks

    passed_more : (i : ℕ) → i < length (nth q p ∷ before) → Passed q (p + 1) (nth (nth q p ∷ before) i)
    unfolding before
    passed_more zero l = record { spot = p; under = omega arith; is = refl }
    passed_more (suc i) l = let P = L.passed i (omega arith) in record { spot = P.spot; under = omega (arith, P.under); is = P.is }

    new_bus : (j : ℕ) → j < length before → nth q p ≡ nth before j → ⊥
    unfolding before
    new_bus j l e = let P = L.passed j l in T.once P.spot p (omega (arith, P.under)) h (P.is ∙ sym e)

    more_stops : stops N.first N.second (nth q p) (k ∷ L.ks) ≡ nth q p ∷ before
    unfolding before
    more_stops = stops_step N.first N.second c k (nth q a) (nth q p) _ _ L.ks (T.once a p d h) x.way

    line_more : nth m (nth q p) ≡ k + 2 → nth w (nth q p) ≡ min (nth w (nth q a)) c → nth o (nth q p) ≡ nth o (nth q a) → Line N m q w o p
    unfolding before
    line_more e r i =
        record {
          origin = rw i L.origin;
          ks = k ∷ L.ks;
          path = via k (nth q a) (nth q p) L.ks (omega (arith, T.bus p h, T.small)) x.below (joins _ _ _ _ _ _ _ x.way) (T.once a p d h) e (rw i L.path);
          least = r ∙ ap (λ (v : ℕ). min v c) L.least ∙ narrow_step N.first N.second N.ahead N.back k c (nth q a) (nth q p) L.ks (T.once a p d h) x.way;
          some = omega (arith, r, x.some, L.some);
          short = omega (arith, L.short);
          used = used_more;
          passed = subst (λ (vs : List ℕ). (i : ℕ) → i < length vs → Passed q (p + 1) (nth vs i)) (sym more_stops) passed_more;
          branches_once = distinct_cons k L.ks new_branch L.branches_once;
          buses_once = subst Distinct (sym more_stops) (distinct_cons (nth q p) before new_bus L.buses_once);
        }

  line : (p : ℕ) → p < t → ((a : ℕ) → a < p → Line N m q w o a) → Placed N m q w o p → Line N m q w o p
  line p h ih (root s e r i) =
      record {
        origin = rw i (record { bus = T.bus p h; role = s });
        ks = [];
        path = stop (nth q p) i (omega (arith, T.bus p h, T.small)) e;
        least = r;
        some = omega arith;
        short = omega arith;
        used = λ i l. absurd (omega arith);
        passed = only;
        branches_once = record { once = λ i j l b g. absurd (omega arith) };
        buses_once = lone_bus (nth q p);
      }
    where
      only : (i : ℕ) → i < length (nth q p ∷ []) → Passed q (p + 1) (nth (nth q p ∷ []) i)
      only zero l = record { spot = p; under = omega arith; is = refl }
      only (suc i) l = absurd (omega arith)
  line p h ih (joined a k c d x e r i) = line_more p a k c h d x (ih a d) e r i

  lines : (n p : ℕ) → p < n → p < t → Line N m q w o p
  lines zero p l h = absurd (omega arith)
  lines (suc n) p l h = line p h (λ (a : ℕ) (d : a < p). lines n a (omega arith) (omega arith)) (T.place p h)

  module _ (v : ℕ) (g : 0 < nth m v) where
    spot : (p : ℕ) × (p < t) × (nth q p ≡ v)
    spot = T.held v g

    own : Line N m q w o spot.0
    own = lines (suc spot.0) spot.0 (omega arith) spot.1

    pub trail_of : (r : Trail N.branches N.first N.second N.ahead N.back m v (nth w v)) × (r.from ≡ nth o v)
    trail_of = (
      record {
        from = nth o v;
        ks = own.ks;
        path = subst (λ (u : ℕ). Path N.branches N.first N.second m (nth o u) u own.ks) spot.2 own.path;
        least = subst (λ (u : ℕ). nth w u ≡ narrow N.first N.second N.ahead N.back u own.ks) spot.2 own.least;
        short = omega (arith, own.short, spot.1, T.count);
        branches_once = own.branches_once;
        buses_once = subst (λ (u : ℕ). Distinct (stops N.first N.second u own.ks)) spot.2 own.buses_once;
      },
      refl,
    )

    pub origin_of : Start N (nth o v)
    origin_of = subst (λ (u : ℕ). Start N (nth o u)) spot.2 own.origin

    pub room_of : 0 < nth w v
    room_of = subst (λ (u : ℕ). 0 < nth w u) spot.2 own.some
