-- Paths over branches in service: they go on, they leave no group that no such branch leaves, and whether there is one is computed branch by branch.
use mathlib.Core.Path.{◌≡◌, refl, sym, subst, ◌∙◌}
use mathlib.Core.Bool.{Bool, true, false, ◌&&◌, ◌||◌, true≢false, false≢true}
use Prim.Native.Nat.{ℕ, zero, suc, ◌<◌}
use native.Mathlib.Omega.{arith}
use borrow.Author.Tests.{eqb-true, eq-eqb}
use lib.Dec.{eqb}
use Rattle.rows.specs.Sum.{Group}
use Rattle.rows.proofs.Row.{both_true, or_true}
use Rattle.rows.proofs.Sum.{side, below, equal, above}
use Rattle.grid.specs.Reach.{Reach, here, onward, Tied, along, against, OnIsland}
use Rattle.grid.proofs.ReachWithin.{reach_within, reach_more}
use Rattle.grid.proofs.OneSmallestGroup.{same_truth}

-- From where one path ended, another goes on.
pub reach_then : {step : ℕ → ℕ → Type 0} {start : ℕ → Type 0} {u v : ℕ} → Reach step start u → Reach step (λ i. i ≡ u) v → Reach step start v
reach_then {step} {start} r (here e) = subst (Reach step start) (sym e) r
reach_then r (onward q s) = onward (reach_then r q) s

-- No path leaves a group that no branch in service leaves.
pub island_within : (n : ℕ) (first second : ℕ → ℕ) (served : Group) (R : Group) → ((k : ℕ) → k < n → served k ≡ true → R (first k) ≡ R (second k))
    → {u v : ℕ} → OnIsland n first second served u v → R u ≡ true → R v ≡ true
island_within n first second served R whole p r = reach_within R (λ i e. rw e r) keep p
  where
    keep : (a b : ℕ) → Tied n first second served a b → R a ≡ true → R b ≡ true
    keep a b (along k l s p q) h = rw (← q, ← whole k l s, p) h
    keep a b (against k l s p q) h = rw (← q, whole k l s, p) h

-- The same branches in another writing.
pub island_as : {n m : ℕ} {f g s t : ℕ → ℕ} {on in_use : Group} → n ≡ m → ((k : ℕ) → f k ≡ g k) → ((k : ℕ) → s k ≡ t k)
    → ((k : ℕ) → k < n → on k ≡ true → in_use k ≡ true) → {u v : ℕ} → OnIsland n f s on u v → OnIsland m g t in_use u v
island_as {n} {m} {f} {g} {s} {t} {on} {in_use} e p q o = reach_more (λ i h. h) written
  where
    written : (a b : ℕ) → Tied n f s on a b → Tied m g t in_use a b
    written a b (along k l i x y) = along k (rw (← e) l) (o k l i) (sym (p k) ∙ x) (sym (q k) ∙ y)
    written a b (against k l i x y) = against k (rw (← e) l) (o k l i) (sym (q k) ∙ x) (sym (p k) ∙ y)

-- Whether v stands on the island of u: with one branch more, over that branch too, in one of its directions.
unfoldable pub together : (ℕ → ℕ) → (ℕ → ℕ) → Group → ℕ → ℕ → ℕ → Bool
together f s on zero u v = eqb u v
together f s on (suc n) u v =
    together f s on n u v
    || (on n && ((together f s on n u (f n) && together f s on n (s n) v) || (together f s on n u (s n) && together f s on n (f n) v)))

-- The ways in which it is: without branch n, or over it forth, or back.
data Ways (a c p q r t : Bool) : Type 0 where
  plain : a ≡ true → Ways a c p q r t
  forth : c ≡ true → p ≡ true → q ≡ true → Ways a c p q r t
  back : c ≡ true → r ≡ true → t ≡ true → Ways a c p q r t

ways_of : (a c p q r t : Bool) → a || (c && ((p && q) || (r && t))) ≡ true → Ways a c p q r t
ways_of true c p q r t e = plain refl
ways_of false false p q r t e = absurd (false≢true e)
ways_of false true true true r t e = forth refl refl refl
ways_of false true true false r t e = let b = both_true r t e in back refl b.0 b.1
ways_of false true false q r t e = let b = both_true r t e in back refl b.0 b.1

ways_in : (a c p q r t : Bool) → Ways a c p q r t → a || (c && ((p && q) || (r && t))) ≡ true
ways_in a c p q r t (plain e) = rw e refl
ways_in a c p q r t (forth e g h) = rw (e, g, h) (or_true a)
ways_in a c p q r t (back e g h) = rw (e, g, h) (last a (p && q))
  where
    last : (x y : Bool) → x || (y || true) ≡ true
    last true y = refl
    last false y = or_true y

module _ (f s : ℕ → ℕ) (on : Group) where
  abbrev joins : ℕ → ℕ → ℕ → Bool
  joins n u v = together f s on n u v

  abbrev Way : ℕ → ℕ → ℕ → Type 0
  Way n u v =
      Ways (joins n u v) (on n) (joins n u (f n)) (joins n (s n) v) (joins n u (s n)) (joins n (f n) v)

  way_of : (n u v : ℕ) → joins (suc n) u v ≡ true → Way n u v
  unfolding together
  way_of n u v e = ways_of (joins n u v) (on n) (joins n u (f n)) (joins n (s n) v) (joins n u (s n)) (joins n (f n) v) e

  way_in : (n u v : ℕ) → Way n u v → joins (suc n) u v ≡ true
  unfolding together
  way_in n u v w = ways_in (joins n u v) (on n) (joins n u (f n)) (joins n (s n) v) (joins n u (s n)) (joins n (f n) v) w

  pub together_self : (n u : ℕ) → joins n u u ≡ true
  unfolding together
  together_self zero u = eq-eqb u u refl
  together_self (suc n) u = way_in n u u (plain (together_self n u))

  -- A branch below n + 1 is one below n, or n in one of its directions.
  data Last (n v w : ℕ) : Type 0 where
    earlier : Tied n f s on v w → Last n v w
    over : on n ≡ true → f n ≡ v → s n ≡ w → Last n v w
    under : on n ≡ true → s n ≡ v → f n ≡ w → Last n v w

  last_of : (n v w : ℕ) → Tied (suc n) f s on v w → Last n v w
  last_of n v w (along k l o p q) = elim (side k n) [
    | below h ↦ earlier (along k h o p q)
    | equal h ↦ over (rw (← h) o) (rw (← h) p) (rw (← h) q)
    | above h ↦ absurd (omega arith)
  ]
  last_of n v w (against k l o p q) = elim (side k n) [
    | below h ↦ earlier (against k h o p q)
    | equal h ↦ under (rw (← h) o) (rw (← h) p) (rw (← h) q)
    | above h ↦ absurd (omega arith)
  ]

  keeps_more : (n : ℕ) → ((u v w : ℕ) → Tied n f s on v w → joins n u v ≡ true → joins n u w ≡ true)
      → (u v w : ℕ) → Last n v w → Way n u v → Way n u w
  keeps_more n ih u v w (earlier t) (plain e) = plain (ih u v w t e)
  keeps_more n ih u v w (earlier t) (forth c p q) = forth c p (ih (s n) v w t q)
  keeps_more n ih u v w (earlier t) (back c p q) = back c p (ih (f n) v w t q)
  keeps_more n ih u v w (over c a b) (plain e) = forth c (rw a e) (rw b (together_self n w))
  keeps_more n ih u v w (over c a b) (forth _ p q) = forth c p (rw b (together_self n w))
  keeps_more n ih u v w (over c a b) (back _ p q) = plain (rw (← b) p)
  keeps_more n ih u v w (under c a b) (plain e) = back c (rw a e) (rw b (together_self n w))
  keeps_more n ih u v w (under c a b) (forth _ p q) = plain (rw (← b) p)
  keeps_more n ih u v w (under c a b) (back _ p q) = back c p (rw b (together_self n w))

  keeps : (n u v w : ℕ) → Tied n f s on v w → joins n u v ≡ true → joins n u w ≡ true
  keeps zero u v w (along k l o p q) e = absurd (omega arith)
  keeps zero u v w (against k l o p q) e = absurd (omega arith)
  keeps (suc n) u v w t e = way_in n u w (keeps_more n (keeps n) u v w (last_of n v w t) (way_of n u v e))

  tied_more : (n : ℕ) (u v : ℕ) → Tied n f s on u v → Tied (suc n) f s on u v
  tied_more n u v (along k l o p q) = along k (omega arith) o p q
  tied_more n u v (against k l o p q) = against k (omega arith) o p q

  island_more : (n u v : ℕ) → OnIsland n f s on u v → OnIsland (suc n) f s on u v
  island_more n u v = reach_more (λ i e. e) (tied_more n)

  -- What is computed is that there is a path.
  pub together_sound : (n u v : ℕ) → joins n u v ≡ true → OnIsland n f s on u v
  unfolding together
  together_sound zero u v e = here (sym (eqb-true u v e))
  together_sound (suc n) u v e = elim (way_of n u v e) [
    | plain h ↦ island_more n u v (together_sound n u v h)
    | forth c p q ↦
        reach_then (onward (island_more n u (f n) (together_sound n u (f n) p)) (along n (omega arith) c refl refl))
        (island_more n (s n) v (together_sound n (s n) v q))
    | back c p q ↦
        reach_then (onward (island_more n u (s n) (together_sound n u (s n) p)) (against n (omega arith) c refl refl))
        (island_more n (f n) v (together_sound n (f n) v q))
  ]

  pub together_complete : (n u v : ℕ) → OnIsland n f s on u v → joins n u v ≡ true
  together_complete n u v r = reach_within (joins n u) (λ i e. rw e (together_self n u)) (λ a b t. keeps n u a b t) r

  -- No branch in service leaves the group that is computed.
  pub together_whole : (n u k : ℕ) → k < n → on k ≡ true → joins n u (f k) ≡ joins n u (s k)
  together_whole n u k l o =
      same_truth _ _ (keeps n u (f k) (s k) (along k l o refl refl)) (keeps n u (s k) (f k) (against k l o refl refl))

  -- So whether there is a path is decided.
  pub on-island? : (n u v : ℕ) → Dec (OnIsland n f s on u v)
  on-island? n u v = go (joins n u v) refl
    where
      go : (t : Bool) → joins n u v ≡ t → Dec (OnIsland n f s on u v)
      go true e = yes (together_sound n u v e)
      go false e = no (λ r. true≢false (sym (together_complete n u v r) ∙ e))
