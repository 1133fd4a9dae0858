-- The two loops of the search: what holds between queued buses, and between the branches of one.
use mathlib.Core.Path.{◌≡◌, refl, sym, subst, ◌∙◌}
use mathlib.Core.Bool.{cond}
use mathlib.Core.List.{List}
use mathlib.Core.Logic.{◌⊎◌, inl, inr, ⊎_elim}
use Prim.Native.Nat.{ℕ, ◌+◌, ◌%◌, ◌<◌, ◌≤◌, min}
use native.Mathlib.Omega.{arith}
use native.Mathlib.Decide.{ℕ_discrete}
use borrow.Author.Count.{below_more}
use borrow.Author.Tests.{lt-ltb, le-ltb}
use lib.Dec.{ltb}
use lib.ListN.{length, set, length-set}
use lib.Seq.{get_or-set_same, get_or-set_other}
use Rattle.rows.specs.Row.{nth}
use Rattle.rows.proofs.Sum.{below, equal, above, side as order}
use Rattle.search.specs.InsideLinks.{Touches, Met, at_first, at_second, branch_of, Least, Linked}
use Rattle.search.specs.InsideSearch.{Scene, scene, Way, Arc, Trail, Routed}
use Rattle.search.specs.InsideSearch.Way.{forth, back}
use Rattle.search.specs.Inside.{Tree, Seeded}
use Rattle.search.specs.declared.Wires.{Wires}
use Rattle.search.specs.declared.Latent.{Latent}
use Rattle.search.specs.declared.Grown.{Grown}
use Rattle.search.proofs.Marking.{either_place, still_positive}
use Rattle.search.proofs.Links.{after_least, far_in}
use Rattle.search.proofs.Tree.{positive, New, link, fit_q, grow}
use Rattle.search.proofs.Route.{trail_of, origin_of, room_of}

-- Every branch of the buses before place `at` was followed.
pub record Scan (W : Wires) (latent : Latent) (roles m q w o : List ℕ) (at tail : ℕ) : Type 0 where
  pub linked : Linked W
  pub tree : Tree (scene W latent roles) m q w o tail
  pub within : at ≤ tail
  pub seeds : (v : ℕ) → v < W.buses → nth roles v ≡ 1 → 0 < nth m v
  pub apart : (v : ℕ) → 0 < nth m v → nth roles v ≡ 2 → ⊥
  pub closed : (p k c v : ℕ) → p < at → Arc (scene W latent roles) k c (nth q p) v → 0 < nth m v

-- So was every branch of bus `here`, at place `at`, below that of `side`, which meets it at `here` or is 512.
pub record Turn (W : Wires) (latent : Latent) (roles m q w o : List ℕ) (at tail here low side : ℕ) : Type 0 where
  pub scan : Scan W latent roles m q w o at tail
  pub below : at < tail
  pub is_here : nth q at ≡ here
  pub is_low : nth w here ≡ low
  pub top : side ≤ 512
  pub under : side < 512 → side % 256 < W.branches
  pub met : side < 512 → Met W.first W.second here (side % 256) side
  pub done : (j c v : ℕ) → j < branch_of side → Arc (scene W latent roles) j c here v → 0 < nth m v

arc_touches : (N : Scene) (k c u v : ℕ) → Arc N k c u v → Touches N.first N.second k u
arc_touches N k c u v x = by x.way
  where
    by : Way c u (nth N.first k) (nth N.second k) (nth N.ahead k) (nth N.back k) v → Touches N.first N.second k u
    by (forth p r e) = inl p
    by (back p r e) = inr p

pub scan_start : {W : Wires} (latent : Latent) {roles : List ℕ} {T : Grown} → Linked W → Seeded W.buses roles T
    → Scan W latent roles T.marks T.queue T.room T.origin 0 T.count
scan_start {W} latent {roles} K S =
    record {
      linked = K;
      tree = S.tree (scene W latent roles) refl refl;
      within = omega arith;
      seeds = S.seeds;
      apart = S.apart;
      closed = λ p k c v d. absurd (omega arith);
    }

module _ {W : Wires} {latent : Latent} {roles m q w o : List ℕ} {h t here low side : ℕ} (R : Turn W latent roles m q w o h t here low side) where
  here_marked : 0 < nth m here
  here_marked = subst (λ (v : ℕ). 0 < nth m v) R.is_here (positive (scene W latent roles) m q w o h (R.scan.tree.place h R.below))

  module _ (l : side < 512) where
    pub turn_next : Least W.branches W.first W.second (side % 256 + 1) here (nth W.after side)
    turn_next = after_least W R.scan.linked (side % 256) here side (R.under l) (R.met l)

    far_bus : nth W.far side < W.buses
    far_bus = far_in W R.scan.linked (side % 256) here side (R.under l) (R.met l)

    pub far_row : nth W.far side < 128
    far_row = omega (arith, far_bus, R.scan.linked.wired.few)

-- k is the branch of the side, `to` the bus at its other end and `spare` its latent capacity that way
module _ {W : Wires} {latent : Latent} {roles m q w o : List ℕ} {h t here low side k to spare : ℕ} (R : Turn W latent roles m q w o h t here low side)
    (l : side < 512) (is-k : side % 256 ≡ k)
    (is-to : nth W.far side ≡ to) (is-spare : spare ≡ cond (ltb side 256) (nth latent.ahead k) (nth latent.back k)) where
  in_net : k < W.branches
  in_net = rw is-k at (R.under l)

  in_row : k < 256
  in_row = omega arith

  met : Met W.first W.second here k side
  met = rw is-k at (R.met l)

  from_first : side ≡ k → (nth W.second k ≡ to) × (nth latent.ahead k ≡ spare)
  from_first e = (sym (R.scan.linked.far_first k in_net) ∙ (rw e at is-to), sym (rw (lt-ltb side 256 (omega (arith, in_row))) at is-spare))

  from_second : side ≡ k + 256 → (nth W.first k ≡ to) × (nth latent.back k ≡ spare)
  from_second e = (sym (R.scan.linked.far_second k in_net) ∙ (rw e at is-to), sym (rw (le-ltb side 256 (omega arith)) at is-spare))

  -- the branch leads from `here` to `to`
  way : Way spare here (nth W.first k) (nth W.second k) (nth latent.ahead k) (nth latent.back k) to
  way = by met
    where
      by : Met W.first W.second here k side
          → Way spare here (nth W.first k) (nth W.second k) (nth latent.ahead k) (nth latent.back k) to
      by (at_first e g) = let y = from_first e in forth g y.0 y.1
      by (at_second e g) = let y = from_second e in back g y.0 y.1

  to_bus : to < W.buses
  to_bus = rw is-to at (far_bus R l)

  to_row : to < 128
  to_row = rw is-to at (far_row R l)

  -- and to no other bus that is not marked yet
  covers : (c v : ℕ) → Arc (scene W latent roles) k c here v → (0 < nth m v) ⊎ ((to ≡ v) × (spare ≡ c))
  covers c v x = pick (ℕ_discrete v here)
    where
      ways : (v ≡ here → ⊥) → Met W.first W.second here k side
          → Way c here (nth W.first k) (nth W.second k) (nth latent.ahead k) (nth latent.back k) v → (to ≡ v) × (spare ≡ c)
      ways d (at_first e i) (forth p g s) = let y = from_first e in (sym y.0 ∙ g, sym y.1 ∙ s)
      ways d (at_first e i) (back p g s) = absurd (d (sym g ∙ i))
      ways d (at_second e i) (forth p g s) = absurd (d (sym g ∙ i))
      ways d (at_second e i) (back p g s) = let y = from_second e in (sym y.0 ∙ g, sym y.1 ∙ s)

      pick : Dec (v ≡ here) → (0 < nth m v) ⊎ ((to ≡ v) × (spare ≡ c))
      pick (yes e) = inl (rw e (here_marked R))
      pick (no d) = inr (ways d met x.way)

  next : Least W.branches W.first W.second (k + 1) here (nth W.after side)
  next = rw is-k at (turn_next R l)

  -- to the next branch of `here`; marks, queue, rooms and origins may have grown
  step : (m' q' w' o' : List ℕ) (t' : ℕ) → Scan W latent roles m' q' w' o' h t' → h < t' → nth q' h ≡ here → nth w' here ≡ low
      → ((v : ℕ) → 0 < nth m v → 0 < nth m' v)
      → ((c v : ℕ) → Arc (scene W latent roles) k c here v → 0 < nth m' v) → Turn W latent roles m' q' w' o' h t' here low (nth W.after side)
  step m' q' w' o' t' C d e e' wid last = record {
    scan = C;
    below = d;
    is_here = e;
    is_low = e';
    top = next.top;
    under = next.under;
    met = next.met;
    done = each;
  }
    where
      each : (j c v : ℕ) → j < branch_of (nth W.after side) → Arc (scene W latent roles) j c here v → 0 < nth m' v
      each j c v d' x = elim (order j k) [
        | below i ↦ wid v (R.done j c v (omega arith) x)
        | equal i ↦ last c v (subst (λ (i : ℕ). Arc (scene W latent roles) i c here v) i x)
        | above i ↦ absurd (next.none j (omega arith) d' x.below (arc_touches (scene W latent roles) j c here v x))
      ]

  -- a branch that brings nothing new: no latent capacity that way, or a bus that is marked
  pub turn_skip : (0 < spare → nth m to ≡ 0 → ⊥) → Turn W latent roles m q w o h t here low (nth W.after side)
  turn_skip f = step m q w o t R.scan R.below R.is_here R.is_low (λ v g. g) last
    where
      last : (c v : ℕ) → Arc (scene W latent roles) k c here v → 0 < nth m v
      last c v x = ⊎_elim (λ g. g) (λ e. subst (λ (u : ℕ). 0 < nth m u) e.0 (let n = f (rw e.1 x.some) in omega arith)) (covers c v x)

  -- a bus that is new
  module _ (some : 0 < spare) (z : nth m to ≡ 0) (least : ℕ) (is-least : least ≡ min low spare) where
    new_room : nth (set w to least) to ≡ least
    new_room = get_or-set_same w to least 0 (omega (arith, to_row, R.scan.tree.wide))

    keep : (v : ℕ) → (v ≡ to → ⊥) → nth (set w to least) v ≡ nth w v
    keep v n = get_or-set_other w to v least 0 n

    long_w : length (set w to least) ≡ 128
    long_w = length-set w to least ∙ R.scan.tree.wide

    new_origin : nth (set o to (nth o here)) to ≡ nth o here
    new_origin = get_or-set_same o to (nth o here) 0 (omega (arith, to_row, R.scan.tree.whole))

    keep_o : (v : ℕ) → (v ≡ to → ⊥) → nth (set o to (nth o here)) v ≡ nth o v
    keep_o v n = get_or-set_other o to v (nth o here) 0 n

    long_o : length (set o to (nth o here)) ≡ 128
    long_o = length-set o to (nth o here) ∙ R.scan.tree.whole

    arc : Arc (scene W latent roles) k spare (nth q h) to
    arc = record { below = in_net; some = some; way = rw R.is_here way }

    new_link : New (scene W latent roles) q w o t to (k + 2) (nth (set w to least) to) (nth (set o to (nth o here)) to)
    new_link = link h k spare R.below arc refl (rw (new_room, R.is_here, R.is_low) is-least) (rw (new_origin, R.is_here) refl)

    pub turn_room : t < 128
    turn_room = omega (
      arith,
      fit_q (scene W latent roles) m q w (set w to least) o (set o to (nth o here)) t to (k + 2) R.scan.tree to_bus z (omega arith) long_w keep long_o keep_o,
      R.scan.tree.slots,
    )

    pub turn_tree : Tree (scene W latent roles) (set m to (k + 2)) (set q t to) (set w to least) (set o to (nth o here)) (t + 1)
    turn_tree =
        grow (scene W latent roles) m q w (set w to least) o (set o to (nth o here)) t to (k + 2) R.scan.tree to_bus z (omega arith) long_w keep
        long_o keep_o new_link

    to_in : to < length m
    to_in = omega (arith, to_row, R.scan.tree.long)

    wider : (v : ℕ) → 0 < nth m v → 0 < nth (set m to (k + 2)) v
    wider v g = still_positive m to (k + 2) v to_in (omega arith) g

    to_marked : 0 < nth (set m to (k + 2)) to
    to_marked = rw (get_or-set_same m to (k + 2) 0 to_in) (omega arith)

    pub turn_hit : nth roles to ≡ 2 → Routed (scene W latent roles) (set m to (k + 2)) to least (nth o here)
    turn_hit g =
        record {
          bus = to_bus;
          goal = g;
          some = rw new_room at (room_of (scene W latent roles) (set m to (k + 2)) (set q t to) (set w to least) (set o to (nth o here)) (t + 1) turn_tree to to_marked);
          trail = found.0;
          starts = found.1;
          origin = rw new_origin at (origin_of (scene W latent roles) (set m to (k + 2)) (set q t to) (set w to least) (set o to (nth o here)) (t + 1) turn_tree to to_marked);
        }
      where
        found : (x : Trail W.branches W.first W.second latent.ahead latent.back (set m to (k + 2)) to least) × (x.from ≡ nth o here)
        found =
            rw (new_room, new_origin) at
            (trail_of (scene W latent roles) (set m to (k + 2)) (set q t to) (set w to least) (set o to (nth o here)) (t + 1) turn_tree to to_marked)

    queue_old : (p : ℕ) → p < t → nth (set q t to) p ≡ nth q p
    queue_old p d = get_or-set_other q t p to 0 (omega arith)

    turn_scan : (nth roles to ≡ 2 → ⊥) → Scan W latent roles (set m to (k + 2)) (set q t to) (set w to least) (set o to (nth o here)) h (t + 1)
    turn_scan f =
        record {
          linked = R.scan.linked;
          tree = turn_tree;
          within = omega (arith, R.below);
          seeds = λ v d s. wider v (R.scan.seeds v d s);
          apart = λ v g. ⊎_elim (λ e. rw e f) (λ g'. R.scan.apart v g') (either_place m to (k + 2) v g);
          closed = λ p j c v d x. wider v (R.scan.closed p j c v d (rw (queue_old p (omega (arith, R.below))) at x));
        }

    turn_done : (c v : ℕ) → Arc (scene W latent roles) k c here v → 0 < nth (set m to (k + 2)) v
    turn_done c v x = ⊎_elim (wider v) (λ e. subst (λ (u : ℕ). 0 < nth (set m to (k + 2)) u) e.0 to_marked) (covers c v x)

    here_old : here ≡ to → ⊥
    here_old e = let g : 0 < nth m to = subst (λ (v : ℕ). 0 < nth m v) e (here_marked R) in omega arith

    pub turn_mark : (nth roles to ≡ 2 → ⊥)
        → {T : Grown} → T ≡ record { marks = set m to (k + 2); queue = set q t to; room = set w to least; origin = set o to (nth o here); count = t + 1 }
        → Turn W latent roles T.marks T.queue T.room T.origin h T.count here low (nth W.after side)
    turn_mark f e =
        rw e (step
        (set m to (k + 2))
        (set q t to)
        (set w to least)
        (set o to (nth o here))
        (t + 1)
        (turn_scan f)
        (omega (arith, R.below))
        (queue_old h R.below ∙ R.is_here)
        (keep here here_old ∙ R.is_low)
        wider
        turn_done)

pub turn_end : {W : Wires} {latent : Latent} {roles m q w o : List ℕ} {h t here low side : ℕ} → Turn W latent roles m q w o h t here low side
    → 512 ≤ side → Scan W latent roles m q w o (h + 1) t
turn_end {W} {latent} {roles} {m} {q} {w} {o} {h} {t} {here} {low} {side} R l =
    record {
      linked = R.scan.linked;
      tree = R.scan.tree;
      within = omega (arith, R.below);
      seeds = R.scan.seeds;
      apart = R.scan.apart;
      closed =
          λ p j c v d x. below_more (λ (i : ℕ). Arc (scene W latent roles) j c (nth q i) v → 0 < nth m v) h (λ i d' x'. R.scan.closed i j c v d' x') (λ x'. last j c v (rw R.is_here at x')) p d x;
    }
  where
    last : (j c v : ℕ) → Arc (scene W latent roles) j c here v → 0 < nth m v
    last j c v x = R.done j c v (omega (arith, x.below, R.scan.linked.wired.size)) x
