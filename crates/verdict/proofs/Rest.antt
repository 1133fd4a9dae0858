-- The rest of a group: what holds of a deficit group holds of its rest as a surplus.
use mathlib.Core.Path.{◌≡◌, refl, ap}
use mathlib.Core.Bool.{Bool, true, false, not, ◌&&◌}
use Prim.Native.Nat.{ℕ, zero, suc, ◌+◌}
use native.Mathlib.Omega.{arith}
use lib.Dec.{eqb}
use lib.IntN.{neg_ℤ}
use Rattle.rows.specs.Sum.{Group, all, differ, pick, over}
use Rattle.rows.proofs.Sum.{over_same}
use Rattle.quantity.specs.Signed.{pos_part, neg_part}
use Rattle.quantity.proofs.Parts.{by_parts, sum_parts, neg_pos, neg_neg}
use Rattle.verdict.specs.Case.{Case, Posed}
use Rattle.verdict.specs.Excess.{P, RWithout, one_end}

-- The buses that are not in S.
abbrev pub rest : Group → Group
rest S i = not (S i)

over_rest : (n : ℕ) (S : Group) (f : ℕ → ℕ) → over n S f + over n (rest S) f ≡ over n all f
unfolding over
over_rest zero S f = refl
over_rest (suc n) S f = omega (arith, over_rest n S f, part (S n) (f n))
  where
    part : (s : Bool) (x : ℕ) → pick s x + pick (not s) x ≡ x
    part true x = omega arith
    part false x = omega arith

differ_not : (s t : Bool) → differ (not s) (not t) ≡ differ s t
differ_not true true = refl
differ_not true false = refl
differ_not false true = refl
differ_not false false = refl

module _ (C : Case) (S : Group) where
  -- The rest of a group holds exactly one end of the same branches, and the same branches leave it.
  pub rest_one_end : (k : ℕ) → one_end C k (rest S) ≡ one_end C k S
  rest_one_end k = differ_not (S (C.first k)) (S (C.second k))

  pub rest_without : (b : ℕ) → RWithout C b (rest S) ≡ RWithout C b S
  rest_without b = over_same _ _ _ _ _ (λ k u. ap (λ (t : Bool). pick ((C.served k && t) && not (eqb k b)) (C.loss_limit k)) (rest_one_end k))

  -- A deficit group's rest has the same surplus: all injections sum to 0.
  pub rest_power : Posed C → P C (rest S) ≡ neg_ℤ (P C S)
  rest_power p =
      by_parts (P C (rest S)) (neg_ℤ (P C S))
      (omega (
        arith,
        sum_parts C.buses S C.injection,
        sum_parts C.buses (rest S) C.injection,
        sum_parts C.buses all C.injection,
        over_rest C.buses S (λ i. pos_part (C.injection i)),
        over_rest C.buses S (λ i. neg_part (C.injection i)),
        ap pos_part p.balanced,
        ap neg_part p.balanced,
        neg_pos (P C S),
        neg_neg (P C S),
      ))
