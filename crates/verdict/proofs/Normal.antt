-- The case whose losses are judged by the normal limits too; and what the higher limits of a loss can only ease.
use mathlib.Core.Path.{refl}
use mathlib.Core.Bool.{Bool, true, false, cond}
use mathlib.Core.Logic.{◌↔◌}
use Prim.Native.Nat.{ℕ, ◌≤◌, ◌<◌}
use native.Mathlib.Omega.{arith}
use lib.Dec.{eqb}
use lib.IntN.{ℤ}
use Rattle.rows.specs.Sum.{Group, pick}
use Rattle.rows.proofs.Sum.{over_le, pick_le}
use Rattle.grid.proofs.Net.{crosses, ratings, without}
use Rattle.verdict.specs.Case.{Case, Posed, out, Fits}
use Rattle.verdict.specs.Excess.{Overload, Short, Carries, Spare}
use Rattle.verdict.proofs.Plain.{net_of, base, loss_net, overload_plain, no_excess_plain, short_plain, carries_plain}
use Rattle.verdict.proofs.Fitting.{posed_as, ratings_out}

-- A loss in it is what taking the branch out for good comes to in C, and its two limits are equal by definition. Base excess and fitting flows are
-- those of C.
abbrev pub normal : Case → Case
normal C = record {
  buses = C.buses;
  branches = C.branches;
  first = C.first;
  second = C.second;
  served = C.served;
  injection = C.injection;
  limit = C.limit;
  loss_limit = C.limit;
}

module _ (C : Case) where
  pub posed_normal : Posed C → Posed (normal C)
  posed_normal p = posed_as C C.served C.limit p (λ k u. omega (arith, p.rising k u, p.rated k u)) (λ k u. omega arith)

  pub fits_normal : (limit : ℕ → ℕ) (f : ℕ → ℤ) → Fits C limit f ↔ Fits (normal C) limit f
  fits_normal limit f = (
    λ h. record { still = h.still; within = h.within; bus = h.bus },
    λ h. record { still = h.still; within = h.within; bus = h.bus },
  )

-- ---- After a loss the others may carry no less than for good.
eased : (C : Case) (b : ℕ) → Posed C → (S : Group) → ratings (base (out C b)) S ≤ ratings (loss_net C b) S
eased C b p S =
    omega (
      arith,
      ratings_out C b C.limit S,
      over_le C.branches (crosses (base C) S) (crosses (base C) S) (without (net_of C C.limit) b).limit (loss_net C b).limit
          (λ k u. pick_le (crosses (base C) S k) _ _ (less k u)),
    )
  where
    less : (k : ℕ) → k < C.branches → cond (eqb k b) 0 (pick (C.served k) (C.limit k)) ≤ cond (eqb k b) 0 (pick (C.served k) (C.loss_limit k))
    less k u = pick_below (eqb k b) (pick_le (C.served k) _ _ (p.rising k u))
      where
        pick_below : (t : Bool) {x y : ℕ} → x ≤ y → cond t 0 x ≤ cond t 0 y
        pick_below true l = omega arith
        pick_below false l = l

-- A branch that may be taken out for good carries.
pub spare_carries : (C : Case) (b : ℕ) → Posed C → Spare C b → Carries C b
spare_carries C b p s = (carries_plain C b).1 (λ S _. omega (arith, (no_excess_plain (out C b)).0 s S, eased C b p S))

-- A branch that is short by v leaves a base excess of v or more.
pub short_at_most : (C : Case) (b v w : ℕ) (S T : Group) → Posed C → Short C b v S → Overload (out C b) w T → v ≤ w
short_at_most C b v w S T p s o =
    omega (arith, ((short_plain C b v S).0 s).smallest.reaches, ((overload_plain (out C b) w T).0 o).smallest.largest S refl, eased C b p S)
