-- A fitting flow is a settled flow of the network, and the other way round; so no group has an excess.
use mathlib.Core.Path.{◌≡◌, refl, sym, ap, ◌∙◌}
use mathlib.Core.Bool.{Bool, true, false, cond}
use Prim.Native.Nat.{ℕ, ◌+◌, ◌≤◌, ◌<◌}
use native.Mathlib.Omega.{arith}
use native.Mathlib.Decide.{ℕ_discrete}
use borrow.Author.Tests.{eq-eqb, ne_eqb}
use lib.Dec.{eqb}
use lib.IntN.{ℤ, pos, nat_abs, ◌-ℤ◌}
use Rattle.rows.specs.Sum.{Group, pick}
use Rattle.rows.proofs.Sum.{over_zero, over_same}
use Rattle.quantity.specs.Signed.{pos_part, neg_part}
use Rattle.quantity.proofs.Parts.{one_side, by_parts, minus, sum_parts, size_parts}
use Rattle.grid.proofs.Net.{EndsThere, crosses, ratings, without}
use Rattle.grid.proofs.Flow.{Within, Balanced}
use Rattle.grid.proofs.Excess.{AtMost}
use Rattle.grid.proofs.Cut.{Settled, upper}
use Rattle.verdict.specs.Case.{Case, Posed, with_status, out, Fits, leaving, arriving}
use Rattle.verdict.specs.Excess.{NoExcess}
use Rattle.verdict.proofs.Plain.{net_of, flow_of, no_excess_plain}

abbrev pub nothing : ℕ → ℕ
nothing i = 0

-- ---- The case with other statuses and other limits of a loss, which are not below the normal ones, can be judged as well.
pub posed_as : (C : Case) (served : ℕ → Bool) (loss : ℕ → ℕ) → Posed C → ((k : ℕ) → k < C.branches → loss k ≤ 1000000)
    → ((k : ℕ) → k < C.branches → C.limit k ≤ loss k) → Posed (record {
      buses = C.buses;
      branches = C.branches;
      first = C.first;
      second = C.second;
      served = served;
      injection = C.injection;
      limit = C.limit;
      loss_limit = loss;
    })
posed_as C served loss p rated rising = record {
  some_bus = p.some_bus;
  few_buses = p.few_buses;
  few_branches = p.few_branches;
  first_in = p.first_in;
  second_in = p.second_in;
  apart = p.apart;
  sized = p.sized;
  balanced = p.balanced;
  rated = rated;
  rising = rising;
}

-- ---- One status changed.
module _ (C : Case) (b : ℕ) (s : Bool) where
  pub served_self : (with_status C b s).served b ≡ s
  served_self = rw (eq-eqb b b refl) refl

  pub served_other : (k : ℕ) → (k ≡ b → ⊥) → (with_status C b s).served k ≡ C.served k
  served_other k n = rw (ne_eqb k b n) refl

  pub posed_status : Posed C → Posed (with_status C b s)
  posed_status p = posed_as C (with_status C b s).served C.loss_limit p p.rated p.rising

-- R(S) of the case without b is R(S) without b.
pub ratings_out : (C : Case) (b : ℕ) (limit : ℕ → ℕ) (S : Group) → ratings (net_of (out C b) limit) S ≡ ratings (without (net_of C limit) b) S
ratings_out C b limit S = over_same _ _ _ _ _ (λ k u. ap (pick (crosses (net_of C limit) S k)) (one (eqb k b) (C.served k) (limit k)))
  where
    one : (t s : Bool) (x : ℕ) → pick (cond t false s) x ≡ cond t 0 (pick s x)
    one true s x = refl
    one false s x = refl

pub ends : (C : Case) (limit : ℕ → ℕ) → Posed C → EndsThere (net_of C limit)
ends C limit p = record { first_in = p.first_in; second_in = p.second_in }

-- ---- Signs taken off, and put on again.
module _ (C : Case) (limit : ℕ → ℕ) (f : ℕ → ℤ) where
  pub fits_within : Fits C limit f → Within (net_of C limit) (flow_of f)
  fits_within h = record { ahead_fits = λ k u. ahead k u (C.served k) refl; back_fits = λ k u. back k u (C.served k) refl }
    where
      ahead : (k : ℕ) → k < C.branches → (s : Bool) → C.served k ≡ s → pos_part (f k) ≤ neg_part (f k) + pick (C.served k) (limit k)
      ahead k u true e = rw e (omega (arith, h.within k u e, size_parts (f k)))
      ahead k u false e = rw e (omega (arith, ap pos_part (h.still k u e)))

      back : (k : ℕ) → k < C.branches → (s : Bool) → C.served k ≡ s → neg_part (f k) ≤ pos_part (f k) + pick (C.served k) (limit k)
      back k u true e = rw e (omega (arith, h.within k u e, size_parts (f k)))
      back k u false e = rw e (omega (arith, ap neg_part (h.still k u e)))

  pub fits_balanced : Fits C limit f → Balanced (net_of C limit) (flow_of f) nothing nothing
  fits_balanced h = record {
    bus = λ i u. omega (
      arith,
      (minus (leaving C f i) (arriving C f i) (C.injection i)).0 (h.bus i u),
      sum_parts C.branches (λ k. eqb (C.first k) i) f,
      sum_parts C.branches (λ k. eqb (C.second k) i) f,
    );
  }

  pub fits_settled : Posed C → Fits C limit f → Settled (net_of C limit) (flow_of f) nothing nothing
  fits_settled p h = record { ends = ends C limit p; within = fits_within h; balanced = fits_balanced h }

  pub balanced_bus : Balanced (net_of C limit) (flow_of f) nothing nothing → (i : ℕ) → i < C.buses → leaving C f i -ℤ arriving C f i ≡ C.injection i
  balanced_bus b i u = (minus (leaving C f i) (arriving C f i) (C.injection i)).1 (omega (
    arith,
    b.bus i u,
    sum_parts C.branches (λ k. eqb (C.first k) i) f,
    sum_parts C.branches (λ k. eqb (C.second k) i) f,
  ))

  pub settled_fits : Within (net_of C limit) (flow_of f) → Balanced (net_of C limit) (flow_of f) nothing nothing → Fits C limit f
  settled_fits w b = record {
    still = λ k u e. by_parts (f k) (pos 0) (omega (arith, rw e at (w.ahead_fits k u), rw e at (w.back_fits k u)));
    within = λ k u e. omega (arith, size_parts (f k), one_side (f k), rw e at (w.ahead_fits k u), rw e at (w.back_fits k u));
    bus = balanced_bus b;
  }

  -- No group of a case with a fitting flow has an excess above 0.
  pub none_above : Posed C → Fits C limit f → (S : Group) → AtMost (net_of C limit) S 0
  none_above p h S = omega (arith, upper (net_of C limit) (flow_of f) nothing nothing (fits_settled p h) S, over_zero C.buses S)

-- A case with a fitting flow has no base excess.
pub fits_none : (C : Case) (f : ℕ → ℤ) → Posed C → Fits C C.limit f → NoExcess C
fits_none C f p h = (no_excess_plain C).1 (none_above C C.limit f p h)

-- A flow that keeps to limits keeps to higher ones.
pub fits_more : (C : Case) (low high : ℕ → ℕ) (f : ℕ → ℤ) → ((k : ℕ) → k < C.branches → low k ≤ high k) → Fits C low f → Fits C high f
fits_more C low high f h w = record { still = w.still; within = λ k u e. omega (arith, w.within k u e, h k u); bus = w.bus }

-- A flow that is 0 on a branch fits without that branch.
pub fits_idle : (C : Case) (b : ℕ) (limit : ℕ → ℕ) (f : ℕ → ℤ) → Fits C limit f → f b ≡ pos 0 → Fits (out C b) limit f
fits_idle C b limit f h z = record { still = λ k u o. still k u o (ℕ_discrete k b); within = λ k u o. within k u o (ℕ_discrete k b); bus = h.bus }
  where
    still : (k : ℕ) → k < C.branches → (out C b).served k ≡ false → Dec (k ≡ b) → f k ≡ pos 0
    still k u o (yes e) = rw e z
    still k u o (no n) = h.still k u (sym (served_other C b false k n) ∙ o)

    within : (k : ℕ) → k < C.branches → (out C b).served k ≡ true → Dec (k ≡ b) → nat_abs (f k) ≤ limit k
    within k u o (yes e) = rw (e, z) (omega arith)
    within k u o (no n) = h.within k u (sym (served_other C b false k n) ∙ o)
