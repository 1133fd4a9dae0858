-- Flows with the same difference on every branch are alike; the network without a branch is that of the case without it; bounds.
use mathlib.Core.Path.{◌≡◌, refl, ap, fun_ext}
use mathlib.Core.Bool.{Bool, true, false, cond}
use Prim.Native.Nat.{ℕ, ◌+◌, ◌≤◌, ◌<◌}
use native.Mathlib.Omega.{arith}
use lib.Dec.{eqb}
use Rattle.rows.specs.Sum.{Group, all, pick, over}
use Rattle.rows.proofs.Sum.{over_add, over_same, over_le, pick_le, pick_part}
use Rattle.quantity.specs.Signed.{pos_part, neg_part}
use Rattle.quantity.proofs.Parts.{sum_parts}
use Rattle.grid.proofs.Net.{Net, crosses, gains, loads, without}
use Rattle.grid.proofs.Flow.{Flow, Within, Balanced}
use Rattle.grid.proofs.Excess.{AtMost}
use Rattle.grid.proofs.Without.{at_most_without}
use Rattle.verdict.specs.Case.{Case, Posed, out}
use Rattle.verdict.specs.Excess.{NoExcess, Short}
use Rattle.verdict.proofs.Plain.{net_of, base, no_excess_plain, short_plain}

-- ---- Flows.
abbrev pub SameFlow : Net → Flow → Flow → Type 0
SameFlow N f g = (k : ℕ) → k < N.branches → f.ahead k + g.back k ≡ g.ahead k + f.back k

pub within_alike : (N : Net) (f g : Flow) → SameFlow N f g → Within N f → Within N g
within_alike N f g e w = record {
  ahead_fits = λ k u. omega (arith, e k u, w.ahead_fits k u);
  back_fits = λ k u. omega (arith, e k u, w.back_fits k u);
}

pub balanced_alike : (N : Net) (f g : Flow) (l d : ℕ → ℕ) → SameFlow N f g → Balanced N f l d → Balanced N g l d
balanced_alike N f g l d e b = record { bus = λ i u. omega (arith, b.bus i u, same (λ k. eqb (N.first k) i), same (λ k. eqb (N.second k) i)) }
  where
    same : (S : Group) → over N.branches S f.ahead + over N.branches S g.back ≡ over N.branches S g.ahead + over N.branches S f.back
    same S =
        omega (
          arith,
          over_add N.branches S f.ahead g.back,
          over_add N.branches S g.ahead f.back,
          over_same N.branches S S (λ k. f.ahead k + g.back k) (λ k. g.ahead k + f.back k) (λ k u. ap (pick (S k)) (e k u)),
        )

-- ---- Networks.
out_limit : (t s : Bool) (x : ℕ) → cond t 0 (pick s x) ≡ pick (cond t false s) x
out_limit true s x = refl
out_limit false s x = refl

pub net_out : (C : Case) (b : ℕ) (limit : ℕ → ℕ) → without (net_of C limit) b ≡ net_of (out C b) limit
net_out C b limit =
    ap
    (λ (l : ℕ → ℕ). record {
      buses = C.buses;
      branches = C.branches;
      first = C.first;
      second = C.second;
      limit = l;
      gain = λ i. pos_part (C.injection i);
      load = λ i. neg_part (C.injection i);
    })
    (fun_ext (λ k. out_limit (eqb k b) (C.served k) (limit k)))

-- What enters is what leaves.
pub gains_loads : (C : Case) (limit : ℕ → ℕ) → Posed C → gains (net_of C limit) all ≡ loads (net_of C limit) all
gains_loads C limit p = omega (arith, sum_parts C.buses all C.injection, ap pos_part p.balanced, ap neg_part p.balanced)

-- A shortage is at most what the lost branch could carry.
pub shortage_limit : (C : Case) (b v : ℕ) (S : Group) → Posed C → NoExcess C → b < C.branches → Short C b v S → v ≤ C.loss_limit b
shortage_limit C b v S p h u s =
    let whole : AtMost (net_of C C.loss_limit) S 0 =
    omega (
      arith,
      (no_excess_plain C).0 h S,
      over_le C.branches (crosses (base C) S) (crosses (base C) S) (base C).limit (net_of C C.loss_limit).limit (λ k w. pick_le (crosses (base C) S k) _ _ (pick_le (C.served k) _ _ (p.rising k w))),
    ) in
    omega (arith, at_most_without (net_of C C.loss_limit) b S 0 u whole, ((short_plain C b v S).0 s).smallest.reaches, pick_part (C.served b) (C.loss_limit b))
