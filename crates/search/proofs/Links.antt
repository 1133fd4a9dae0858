-- The rows of links, built from the highest branch down.
use mathlib.Core.Path.{◌≡◌, refl, sym, subst, ◌∙◌}
use mathlib.Core.List.{List}
use mathlib.Core.Logic.{◌⊎◌, inl, inr, ⊎_elim}
use Prim.Native.Nat.{ℕ, ◌+◌, ◌-◌, ◌%◌, ◌<◌, ◌≤◌}
use native.Mathlib.Omega.{arith}
use native.Mathlib.Nat.{eq-or-lt_of_le}
use native.Mathlib.Decide.{ℕ_discrete}
use lib.ListN.{length, set, replicate, length-set, get_or-replicate}
use lib.Seq.{get_or-set_same, get_or-set_other}
use Rattle.rows.specs.Row.{nth}
use Rattle.search.specs.InsideLinks.{Linkable, Touches, Met, at_first, at_second, Least, Linked}
use Rattle.search.specs.declared.Wires.{Wires}

-- The branches from k on are linked: h is `head`, x is `after`, z is `far`.
pub record Chained (buses n : ℕ) (f s h x z : List ℕ) (k : ℕ) : Type 0 where
  pub wired : Linkable buses n f s
  pub within : k ≤ n
  pub long : length h ≡ 128
  pub long_after : length x ≡ 512
  pub long_far : length z ≡ 512
  pub lowest : (v : ℕ) → v < buses → Least n f s k v (nth h v)
  pub next_first : (j : ℕ) → k ≤ j → j < n → Least n f s (j + 1) (nth f j) (nth x j)
  pub next_second : (j : ℕ) → k ≤ j → j < n → Least n f s (j + 1) (nth s j) (nth x (j + 256))
  pub far_first : (j : ℕ) → k ≤ j → j < n → nth z j ≡ nth s j
  pub far_second : (j : ℕ) → k ≤ j → j < n → nth z (j + 256) ≡ nth f j

none_left : (n : ℕ) (f s : List ℕ) (v : ℕ) → n ≤ 256 → Least n f s n v 512
none_left n f s v l = record {
  top = omega arith;
  above = l;
  under = λ h. absurd (omega arith);
  met = λ h. absurd (omega arith);
  none = λ j a h b. absurd (omega arith);
}

pub chained_none : {buses n : ℕ} {f s : List ℕ} → Linkable buses n f s → Chained buses n f s (replicate 128 512) (replicate 512 512) (replicate 512 0) n
chained_none {buses} {n} {f} {s} w =
    record {
      wired = w;
      within = omega arith;
      long = refl;
      long_after = refl;
      long_far = refl;
      lowest = λ v h. rw (get_or-replicate {A = ℕ} 128 v 512 0 (omega (arith, w.few))) (none_left n f s v w.size);
      next_first = λ j a h. absurd (omega arith);
      next_second = λ j a h. absurd (omega arith);
      far_first = λ j a h. absurd (omega arith);
      far_second = λ j a h. absurd (omega arith);
    }

-- A row of sides, with y stored at the first side of branch k and z at its second.
module _ (x : List ℕ) (long : length x ≡ 512) (k y z : ℕ) (h : k < 256) where
  long_both : length (set (set x k y) (k + 256) z) ≡ 512
  long_both = length-set (set x k y) (k + 256) z ∙ length-set x k y ∙ long

  new_first : nth (set (set x k y) (k + 256) z) k ≡ y
  new_first = rw (get_or-set_other (set x k y) (k + 256) k z 0 (omega arith)) (get_or-set_same x k y 0 (omega arith))

  new_second : nth (set (set x k y) (k + 256) z) (k + 256) ≡ z
  new_second = get_or-set_same (set x k y) (k + 256) z 0 (omega (arith, length-set x k y))

  old : (i : ℕ) → (i ≡ k → ⊥) → (i ≡ k + 256 → ⊥) → nth (set (set x k y) (k + 256) z) i ≡ nth x i
  old i d e = rw (get_or-set_other (set x k y) (k + 256) i z 0 e) (get_or-set_other x k i y 0 d)

-- One branch more, below: k is the one before.
module _ (buses n : ℕ) (f s h x z : List ℕ) (k : ℕ) (C : Chained buses n f s h x z (k + 1)) where
  in_n : k < n
  in_n = omega (arith, C.within)

  in_row : k < 256
  in_row = omega (arith, in_n, C.wired.size)

  first_bus : nth f k < length h
  first_bus = omega (arith, C.wired.first_in k in_n, C.wired.few, C.long)

  second_bus : nth s k < length h
  second_bus = omega (arith, C.wired.second_in k in_n, C.wired.few, C.long)

  -- a bus that k does not touch
  past : (v side : ℕ) → Least n f s (k + 1) v side → (Touches f s k v → ⊥) → Least n f s k v side
  past v side L t =
      record {
        top = L.top;
        above = omega (arith, L.above);
        under = L.under;
        met = L.met;
        none = λ j a b c. ⊎_elim (λ e. rw (← e) t) (λ d. L.none j (omega arith) b c) (eq-or-lt_of_le a);
      }

  -- a bus that k touches, with its side there
  first_of : (v side : ℕ) → side % 256 ≡ k → side < 512 → Met f s v k side → Least n f s k v side
  first_of v side e l t =
      record {
        top = omega arith;
        above = omega arith;
        under = λ l'. rw e in_n;
        met = λ l'. rw e t;
        none = λ j a b. absurd (omega arith);
      }

  low : (j : ℕ) → k ≤ j → (k ≡ j) ⊎ (k + 1 ≤ j)
  low j l = ⊎_elim (λ e. inl e) (λ d. inr (omega arith)) (eq-or-lt_of_le l)

  at_first_bus : (v : ℕ) → nth f k ≡ v → nth (set h (nth f k) k) v ≡ k
  at_first_bus v e = rw (← e) (get_or-set_same h (nth f k) k 0 first_bus)

  lowest' : (v : ℕ) → v < buses → Least n f s k v (nth (set (set h (nth f k) k) (nth s k) (k + 256)) v)
  lowest' v l = pick (ℕ_discrete v (nth s k)) (ℕ_discrete v (nth f k))
    where
      pick : Dec (v ≡ nth s k) → Dec (v ≡ nth f k) → Least n f s k v (nth (set (set h (nth f k) k) (nth s k) (k + 256)) v)
      pick (yes e) g =
          rw (e, get_or-set_same (set h (nth f k) k) (nth s k) (k + 256) 0 (omega (arith, second_bus, length-set h (nth f k) k))) (first_of (nth s k) (k + 256) (omega (arith, in_row)) (omega (arith, in_row)) (at_second refl refl))
      pick (no d) (yes e) =
          rw (get_or-set_other (set h (nth f k) k) (nth s k) v (k + 256) 0 d, at_first_bus v (sym e)) (first_of v k (omega (arith, in_row)) (omega (arith, in_row)) (at_first refl (sym e)))
      pick (no d) (no g) =
          rw (get_or-set_other (set h (nth f k) k) (nth s k) v (k + 256) 0 d, get_or-set_other h (nth f k) v k 0 g) (past v (nth h v) (C.lowest v l) (⊎_elim (λ e. g (sym e)) (λ e. d (sym e))))

  next_first' : (j : ℕ) → k ≤ j → j < n → Least n f s (j + 1) (nth f j) (nth (set (set x k (nth h (nth f k))) (k + 256) (nth h (nth s k))) j)
  next_first' j a l = ⊎_elim now then (low j a)
    where
      now : k ≡ j → Least n f s (j + 1) (nth f j) (nth (set (set x k (nth h (nth f k))) (k + 256) (nth h (nth s k))) j)
      now d = rw (← d, new_first x C.long_after k (nth h (nth f k)) (nth h (nth s k)) in_row) (C.lowest (nth f k) (C.wired.first_in k in_n))

      then : k + 1 ≤ j → Least n f s (j + 1) (nth f j) (nth (set (set x k (nth h (nth f k))) (k + 256) (nth h (nth s k))) j)
      then d =
          rw (old x C.long_after k (nth h (nth f k)) (nth h (nth s k)) in_row j (omega arith) (omega (arith, C.wired.size))) (C.next_first j d l)

  next_second' : (j : ℕ) → k ≤ j → j < n → Least n f s (j + 1) (nth s j) (nth (set (set x k (nth h (nth f k))) (k + 256) (nth h (nth s k))) (j + 256))
  next_second' j a l = ⊎_elim now then (low j a)
    where
      now : k ≡ j → Least n f s (j + 1) (nth s j) (nth (set (set x k (nth h (nth f k))) (k + 256) (nth h (nth s k))) (j + 256))
      now d = rw (← d, new_second x C.long_after k (nth h (nth f k)) (nth h (nth s k)) in_row) (C.lowest (nth s k) (C.wired.second_in k in_n))

      then : k + 1 ≤ j → Least n f s (j + 1) (nth s j) (nth (set (set x k (nth h (nth f k))) (k + 256) (nth h (nth s k))) (j + 256))
      then d =
          rw (old x C.long_after k (nth h (nth f k)) (nth h (nth s k)) in_row (j + 256) (omega (arith, in_row)) (omega arith)) (C.next_second j d l)

  far_first' : (j : ℕ) → k ≤ j → j < n → nth (set (set z k (nth s k)) (k + 256) (nth f k)) j ≡ nth s j
  far_first' j a l = ⊎_elim now then (low j a)
    where
      now : k ≡ j → nth (set (set z k (nth s k)) (k + 256) (nth f k)) j ≡ nth s j
      now d = rw (← d) (new_first z C.long_far k (nth s k) (nth f k) in_row)

      then : k + 1 ≤ j → nth (set (set z k (nth s k)) (k + 256) (nth f k)) j ≡ nth s j
      then d = rw (old z C.long_far k (nth s k) (nth f k) in_row j (omega arith) (omega (arith, C.wired.size))) (C.far_first j d l)

  far_second' : (j : ℕ) → k ≤ j → j < n → nth (set (set z k (nth s k)) (k + 256) (nth f k)) (j + 256) ≡ nth f j
  far_second' j a l = ⊎_elim now then (low j a)
    where
      now : k ≡ j → nth (set (set z k (nth s k)) (k + 256) (nth f k)) (j + 256) ≡ nth f j
      now d = rw (← d) (new_second z C.long_far k (nth s k) (nth f k) in_row)

      then : k + 1 ≤ j → nth (set (set z k (nth s k)) (k + 256) (nth f k)) (j + 256) ≡ nth f j
      then d = rw (old z C.long_far k (nth s k) (nth f k) in_row (j + 256) (omega (arith, in_row)) (omega arith)) (C.far_second j d l)

  chained_more : Chained buses n f s (set (set h (nth f k) k) (nth s k) (k + 256)) (set (set x k (nth h (nth f k))) (k + 256) (nth h (nth s k))) (set (set z k (nth s k)) (k + 256) (nth f k)) k
  chained_more =
      record {
        wired = C.wired;
        within = omega (arith, in_n);
        long = length-set (set h (nth f k) k) (nth s k) (k + 256) ∙ length-set h (nth f k) k ∙ C.long;
        long_after = long_both x C.long_after k (nth h (nth f k)) (nth h (nth s k)) in_row;
        long_far = long_both z C.long_far k (nth s k) (nth f k) in_row;
        lowest = lowest';
        next_first = next_first';
        next_second = next_second';
        far_first = far_first';
        far_second = far_second';
      }

-- The same, in the terms of the loop, where k falls by one.
module _ {buses n : ℕ} {f s h x z : List ℕ} {k : ℕ} (C : Chained buses n f s h x z k) (pos : 0 < k) where
  fallen : Chained buses n f s h x z (k - 1 + 1)
  fallen = subst (λ (j : ℕ). Chained buses n f s h x z j) (omega arith) C

  pub chain_falls : Chained buses n f s (set (set h (nth f (k - 1)) (k - 1)) (nth s (k - 1)) (k - 1 + 256)) (set (set x (k - 1) (nth h (nth f (k - 1)))) (k - 1 + 256) (nth h (nth s (k - 1)))) (set (set z (k - 1) (nth s (k - 1))) (k - 1 + 256) (nth f (k - 1))) (k - 1)
  chain_falls = chained_more buses n f s h x z (k - 1) fallen

-- What stands after a side: the next one at the same bus.
pub after_least : (W : Wires) → Linked W → (k v side : ℕ) → k < W.branches → Met W.first W.second v k side
    → Least W.branches W.first W.second (k + 1) v (nth W.after side)
after_least W K k v side h (at_first e g) = rw (e, ← g) (K.next_first k h)
after_least W K k v side h (at_second e g) = rw (e, ← g) (K.next_second k h)

-- The other end of a side is a bus.
pub far_in : (W : Wires) → Linked W → (k v side : ℕ) → k < W.branches → Met W.first W.second v k side → nth W.far side < W.buses
far_in W K k v side h (at_first e g) = rw (e, K.far_first k h) (K.wired.second_in k h)
far_in W K k v side h (at_second e g) = rw (e, K.far_second k h) (K.wired.first_in k h)
