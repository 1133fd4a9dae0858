-- The form in natural numbers that proofs reason about: the network and the flow of a case without signs, and one law that joins the two forms.
use mathlib.Core.Path.{◌≡◌, refl}
use mathlib.Core.Bool.{Bool, true, false, not, ◌&&◌, cond}
use mathlib.Core.Logic.{◌↔◌}
use Prim.Native.Nat.{ℕ, ◌+◌, ◌≤◌, ◌<◌}
use native.Mathlib.Omega.{arith}
use lib.Dec.{eqb, ltb→lt, lt→ltb}
use lib.IntN.{ℤ, pos, negsuc, nat_abs, ◌-ℤ◌}
use lib.Signed.{◌≤ℤ◌, ◌<ℤ◌}
use Rattle.rows.specs.Sum.{Group, any, pick}
use Rattle.rows.proofs.Sum.{over_same}
use Rattle.quantity.specs.Signed.{pos_part, neg_part}
use Rattle.quantity.proofs.Parts.{one_side, minus, minus_parts, at_most, sum_parts, size_parts}
use Rattle.grid.proofs.Net.{Net, gains, loads, ratings, without}
use Rattle.grid.proofs.Flow.{Flow}
use Rattle.grid.proofs.Excess.{Exceeds, AtMost, SmallestOf}
use Rattle.verdict.specs.Case.{Case}
use Rattle.verdict.specs.Excess.{P, R, RWithout, one_end, excess, excess_without, Largest, NoExcess, Overload, Short, Carries}

-- Gain and load are the parts of an injection, and a branch out of service may carry nothing.
abbrev pub net_of : Case → (ℕ → ℕ) → Net
net_of C limit = record {
  buses = C.buses;
  branches = C.branches;
  first = C.first;
  second = C.second;
  limit = λ k. pick (C.served k) (limit k);
  gain = λ i. pos_part (C.injection i);
  load = λ i. neg_part (C.injection i);
}

abbrev pub flow_of : (ℕ → ℤ) → Flow
flow_of f = record { ahead = λ k. pos_part (f k); back = λ k. neg_part (f k) }

-- The network of the base flow, and the one that the loss of b is judged by.
abbrev pub base : Case → Net
base C = net_of C C.limit

abbrev pub loss_net : Case → ℕ → Net
loss_net C b = without (net_of C C.loss_limit) b

-- ---- Signs: p is g less l.
above_zero : (p : ℤ) (r : ℕ) → (pos r <ℤ p) ↔ (neg_part p + r < pos_part p)
above_zero (pos a) r = (λ e. omega (arith, ltb→lt r a e.lt), λ e. record { lt = lt→ltb r a (omega arith) })
above_zero (negsuc a) r = (λ e. absurd e.lt, λ e. absurd (omega arith))

pub power_over : (p : ℤ) (r : ℕ) → pos r <ℤ p → r < nat_abs p
power_over p r e = omega (arith, (above_zero p r).0 e, size_parts p)

module _ (p : ℤ) (r g l : ℕ) (is : pos_part p + l ≡ neg_part p + g) where
  signed_exact : (v : ℕ) → (p -ℤ pos r ≡ pos v) ↔ (g ≡ l + r + v)
  signed_exact v = (λ e. omega (arith, (minus p (pos r) (pos v)).0 e, one_side p), λ e. (minus p (pos r) (pos v)).1 (omega (arith, one_side p)))

  signed_most : (v : ℕ) → ((p -ℤ pos r) ≤ℤ pos v) ↔ (g ≤ l + r + v)
  signed_most v = (
    λ e. omega (arith, minus_parts p (pos r), (at_most (p -ℤ pos r) v).0 e),
    λ e. (at_most (p -ℤ pos r) v).1 (omega (arith, minus_parts p (pos r))),
  )

  signed_above : (pos r <ℤ p) ↔ (l + r < g)
  signed_above = (λ e. omega (arith, (above_zero p r).0 e), λ e. (above_zero p r).1 (omega (arith, one_side p)))

-- ---- R(S) of a case is that of its network.
pick_served : (s c : Bool) (x : ℕ) → pick (s && c) x ≡ pick c (pick s x)
pick_served true true x = refl
pick_served true false x = refl
pick_served false true x = refl
pick_served false false x = refl

pick_without : (s c t : Bool) (x : ℕ) → pick ((s && c) && not t) x ≡ pick c (cond t 0 (pick s x))
pick_without true true true x = refl
pick_without true true false x = refl
pick_without true false t x = refl
pick_without false true true x = refl
pick_without false true false x = refl
pick_without false false t x = refl

ratings_are : (C : Case) (S : Group) → R C S ≡ ratings (base C) S
ratings_are C S = over_same _ _ _ _ _ (λ k u. pick_served (C.served k) (one_end C k S) (C.limit k))

ratings_without_are : (C : Case) (b : ℕ) (S : Group) → RWithout C b S ≡ ratings (loss_net C b) S
ratings_without_are C b S = over_same _ _ _ _ _ (λ k u. pick_without (C.served k) (one_end C k S) (eqb k b) (C.loss_limit k))

-- ---- The value e of a group is what its network N gives it beyond what may leave it.
pub record Reads (N : Net) (e : Group → ℤ) : Type 0 where
  pub exact : (S : Group) (v : ℕ) → (e S ≡ pos v) ↔ Exceeds N S v
  pub most : (S : Group) (v : ℕ) → (e S ≤ℤ pos v) ↔ AtMost N S v

module _ (C : Case) where
  brought : (S : Group) → pos_part (P C S) + loads (base C) S ≡ neg_part (P C S) + gains (base C) S
  brought S = sum_parts C.buses S C.injection

  pub base_reads : Reads (base C) (excess C)
  base_reads = record {
    exact = λ S. rw (ratings_are C S) (signed_exact (P C S) (ratings (base C) S) (gains (base C) S) (loads (base C) S) (brought S));
    most = λ S. rw (ratings_are C S) (signed_most (P C S) (ratings (base C) S) (gains (base C) S) (loads (base C) S) (brought S));
  }

  pub loss_reads : (b : ℕ) → Reads (loss_net C b) (excess_without C b)
  loss_reads b = record {
    exact = λ S. rw (ratings_without_are C b S) (signed_exact (P C S) (ratings (loss_net C b) S) (gains (loss_net C b) S) (loads (loss_net C b) S) (brought S));
    most = λ S. rw (ratings_without_are C b S) (signed_most (P C S) (ratings (loss_net C b) S) (gains (loss_net C b) S) (loads (loss_net C b) S) (brought S));
  }

  -- A surplus above what may leave the group, and a surplus.
  pub excess_above : (S : Group) → (pos (R C S) <ℤ P C S) ↔ (loads (base C) S + ratings (base C) S < gains (base C) S)
  excess_above S = rw (ratings_are C S) (signed_above (P C S) (ratings (base C) S) (gains (base C) S) (loads (base C) S) (brought S))

  pub without_above : (b : ℕ) (S : Group) → (pos (RWithout C b S) <ℤ P C S) ↔ (loads (loss_net C b) S + ratings (loss_net C b) S < gains (loss_net C b) S)
  without_above b S =
      rw (ratings_without_are C b S) (signed_above (P C S) (ratings (loss_net C b) S) (gains (loss_net C b) S) (loads (loss_net C b) S) (brought S))

  pub power_above : (S : Group) → (pos 0 <ℤ P C S) ↔ (loads (base C) S < gains (base C) S)
  power_above S =
      let h = signed_above (P C S) 0 (gains (base C) S) (loads (base C) S) (brought S) in
      (λ e. omega (arith, h.0 e), λ e. h.1 (omega arith))

-- ---- The law that joins the two forms.
pub record PlainLargest (N : Net) (among : Group → Bool) (v : ℕ) (S : Group) : Type 0 where
  pub above : 0 < v
  pub smallest : SmallestOf N among S v
  pub beyond : (i : ℕ) → N.buses ≤ i → S i ≡ false

pub joined : (N : Net) (e : Group → ℤ) → Reads N e → (among : Group → Bool) (v : ℕ) (S : Group) → Largest N.buses among e v S ↔ PlainLargest N among v S
joined N e r among v S = (
  λ l. record {
    above = l.above;
    smallest = record {
      listed = l.admitted;
      reaches = (r.exact S v).0 l.reaches;
      largest = λ T m. (r.most T v).0 (l.largest T m);
      least = λ T m x. l.smallest T m ((r.exact T v).1 x);
    };
    beyond = l.beyond;
  },
  λ p. record {
    above = p.above;
    admitted = p.smallest.listed;
    reaches = (r.exact S v).1 p.smallest.reaches;
    largest = λ T m. (r.most T v).1 (p.smallest.largest T m);
    smallest = λ T m x. p.smallest.least T m ((r.exact T v).0 x);
    beyond = p.beyond;
  },
)

-- ---- Its instances.
module _ (C : Case) where
  pub overload_plain : (v : ℕ) (S : Group) → Overload C v S ↔ PlainLargest (base C) any v S
  overload_plain = joined (base C) (excess C) (base_reads C) any

  pub no_excess_plain : NoExcess C ↔ ((S : Group) → AtMost (base C) S 0)
  no_excess_plain = (λ h S. ((base_reads C).most S 0).0 (h S), λ h S. ((base_reads C).most S 0).1 (h S))

  pub short_plain : (b v : ℕ) (S : Group) → Short C b v S ↔ PlainLargest (loss_net C b) (one_end C b) v S
  short_plain b = joined (loss_net C b) (excess_without C b) (loss_reads C b) (one_end C b)

  pub carries_plain : (b : ℕ) → Carries C b ↔ ((S : Group) → one_end C b S ≡ true → AtMost (loss_net C b) S 0)
  carries_plain b = (λ h S m. ((loss_reads C b).most S 0).0 (h S m), λ h S m. ((loss_reads C b).most S 0).1 (h S m))
