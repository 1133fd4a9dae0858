-- The tree of the queued buses: what one more bus keeps, and that every bus of it is reached.
use mathlib.Core.Path.{◌≡◌, sym, ap, subst, ◌∙◌}
use mathlib.Core.List.{List}
use mathlib.Core.Logic.{⊎_elim}
use Prim.Native.Nat.{ℕ, zero, suc, ◌+◌, ◌<◌, min}
use native.Mathlib.Omega.{arith}
use native.Mathlib.Nat.{eq-or-lt_of_le}
use borrow.Author.Count.{below_more}
use lib.ListN.{length, set, length-set}
use lib.Seq.{get_or-set_same, get_or-set_other}
use Rattle.rows.specs.Row.{nth}
use Rattle.grid.specs.Reach.{Reach, here, onward}
use Rattle.search.specs.InsideSearch.{Scene, Arc, Step, Start, Queued}
use Rattle.search.specs.Inside.{Placed, root, joined, Tree}
use Rattle.search.proofs.Marking.{zeros_set, either_place}

pub positive : (N : Scene) (m q w o : List ℕ) (p : ℕ) → Placed N m q w o p → 0 < nth m (nth q p)
positive N m q w o p (root s e r i) = omega arith
positive N m q w o p (joined a k c l x e r i) = omega arith

-- Why a bus may join: it is a start, or a branch leads to it from a queued bus.
pub data New (N : Scene) (q w o : List ℕ) (t to val room from : ℕ) : Type 0 where
  seed : nth N.roles to ≡ 1 → val ≡ 1 → room ≡ 4294967295 → from ≡ to → New N q w o t to val room from
  link : (j k c : ℕ) → j < t → Arc N k c (nth q j) to → val ≡ k + 2 → room ≡ min (nth w (nth q j)) c → from ≡ nth o (nth q j)
      → New N q w o t to val room from

-- the rooms w become w' and the origins o become o', which differ at `to` alone
module _ (N : Scene) (m q w w' o o' : List ℕ) (t to val : ℕ) (T : Tree N m q w o t) (b : to < N.buses) (z : nth m to ≡ 0) (pos : 0 < val)
    (wide' : length w' ≡ 128) (keep : (v : ℕ) → (v ≡ to → ⊥) → nth w' v ≡ nth w v)
    (whole' : length o' ≡ 128) (keep_o : (v : ℕ) → (v ≡ to → ⊥) → nth o' v ≡ nth o v) where
  fit_m : to < length m
  fit_m = omega (arith, T.small, T.long)

  pub fit_q : t < length q
  fit_q = omega (arith, zeros_set m to val fit_m z pos, T.count, T.slots)

  away : (p : ℕ) → p < t → nth q p ≡ to → ⊥
  away p h e = let g : 0 < nth m to = subst (λ (v : ℕ). 0 < nth m v) e (positive N m q w o p (T.place p h)) in omega arith

  old_q : (p : ℕ) → p < t → nth (set q t to) p ≡ nth q p
  old_q p h = get_or-set_other q t p to 0 (omega arith)

  old_m : (p : ℕ) → p < t → nth (set m to val) (nth q p) ≡ nth m (nth q p)
  old_m p h = get_or-set_other m to (nth q p) val 0 (away p h)

  old_w : (p : ℕ) → p < t → nth w' (nth q p) ≡ nth w (nth q p)
  old_w p h = keep (nth q p) (away p h)

  old_o : (p : ℕ) → p < t → nth o' (nth q p) ≡ nth o (nth q p)
  old_o p h = keep_o (nth q p) (away p h)

  new_q : nth (set q t to) t ≡ to
  new_q = get_or-set_same q t to 0 fit_q

  new_m : nth (set m to val) to ≡ val
  new_m = get_or-set_same m to val 0 fit_m

  kept : (p : ℕ) → p < t → Placed N m q w o p → Placed N (set m to val) (set q t to) w' o' p
  kept p h (root s e r i) = root (rw (old_q p h) s) (rw (old_q p h, old_m p h) e) (rw (old_q p h, old_w p h) r) (rw (old_q p h, old_o p h) i)
  kept p h (joined a k c l x e r i) =
      joined a k c l (rw (old_q a (omega arith), old_q p h) x) (rw (old_q p h, old_m p h) e)
      (rw (old_q p h, old_q a (omega arith), old_w p h, old_w a (omega arith)) r)
      (rw (old_q p h, old_q a (omega arith), old_o p h, old_o a (omega arith)) i)

  fresh : New N q w o t to val (nth w' to) (nth o' to) → Placed N (set m to val) (set q t to) w' o' t
  fresh (seed s e r i) = root (rw new_q s) (rw (new_q, new_m) e) (rw new_q r) (rw new_q i)
  fresh (link a k c l x e r i) =
      joined a k c l (rw (old_q a l, new_q) x) (rw (new_q, new_m) e) (rw (new_q, old_q a l, old_w a l) r) (rw (new_q, old_q a l, old_o a l) i)

  lone : (i j : ℕ) → i < j → j < t + 1 → nth (set q t to) i ≡ nth (set q t to) j → ⊥
  lone i j l h e = ⊎_elim at_end before (eq-or-lt_of_le (omega arith))
    where
      at_end : j ≡ t → ⊥
      at_end d = away i (omega arith) (sym (old_q i (omega arith)) ∙ e ∙ ap (λ (v : ℕ). nth (set q t to) v) d ∙ new_q)

      before : j < t → ⊥
      before d = T.once i j l d (sym (old_q i (omega arith)) ∙ e ∙ old_q j d)

  hold : (v : ℕ) → 0 < nth (set m to val) v → (p : ℕ) × (p < t + 1) × (nth (set q t to) p ≡ v)
  hold v g = ⊎_elim now then (either_place m to val v g)
    where
      now : v ≡ to → (p : ℕ) × (p < t + 1) × (nth (set q t to) p ≡ v)
      now e = (t, omega arith, new_q ∙ sym e)

      then : 0 < nth m v → (p : ℕ) × (p < t + 1) × (nth (set q t to) p ≡ v)
      then g' = let r : (p : ℕ) × (p < t) × (nth q p ≡ v) = T.held v g' in (r.0, omega arith, old_q r.0 r.1 ∙ r.2)

  pub grow : New N q w o t to val (nth w' to) (nth o' to) → Tree N (set m to val) (set q t to) w' o' (t + 1)
  grow n =
      record {
        long = length-set m to val ∙ T.long;
        slots = length-set q t to ∙ T.slots;
        wide = wide';
        whole = whole';
        small = T.small;
        count = omega (arith, zeros_set m to val fit_m z pos, T.count);
        bus = below_more (λ (p : ℕ). nth (set q t to) p < N.buses) t (λ p h. rw (old_q p h) (T.bus p h)) (rw new_q b);
        place = below_more (λ (p : ℕ). Placed N (set m to val) (set q t to) w' o' p) t (λ p h. kept p h (T.place p h)) (fresh n);
        held = hold;
        once = lone;
      }

module _ (N : Scene) (m q w o : List ℕ) (t : ℕ) (T : Tree N m q w o t) where
  pub tree_queued : Queued N.buses m q t
  tree_queued =
      record {
        few = omega (arith, T.count);
        bus = T.bus;
        mark = λ p h. positive N m q w o p (T.place p h);
        held = T.held;
        once = T.once;
      }

  up : (p : ℕ) → p < t → ((a : ℕ) → a < p → Reach (Step N) (Start N) (nth q a)) → Placed N m q w o p → Reach (Step N) (Start N) (nth q p)
  up p h ih (root s e r i) = here (record { bus = T.bus p h; role = s })
  up p h ih (joined a k c d x e r i) = onward (ih a d) (record { branch = k; capacity = c; arc = x })

  climb : (n p : ℕ) → p < n → p < t → Reach (Step N) (Start N) (nth q p)
  climb zero p l h = absurd (omega arith)
  climb (suc n) p l h = up p h (λ (a : ℕ) (d : a < p). climb n a (omega arith) (omega arith)) (T.place p h)

  pub marked_reached : (v : ℕ) → 0 < nth m v → Reach (Step N) (Start N) v
  marked_reached v g =
      let r : (p : ℕ) × (p < t) × (nth q p ≡ v) = T.held v g in
      subst (λ (u : ℕ). Reach (Step N) (Start N) u) r.2 (climb (suc r.0) r.0 (omega arith) r.1)
