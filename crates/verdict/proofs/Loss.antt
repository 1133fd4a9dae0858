-- What the loss of a branch comes to: the excess of all groups without it.
use mathlib.Core.Path.{◌≡◌, refl, sym, ap, ◌∙◌}
use mathlib.Core.Bool.{Bool, true, false, false≢true, cond}
use mathlib.Core.Logic.{◌↔◌}
use Prim.Native.Nat.{ℕ, zero, suc, ◌≤◌, ◌<◌}
use native.Mathlib.Omega.{arith}
use borrow.Author.Tests.{ne_eqb}
use lib.Dec.{eqb}
use lib.IntN.{ℤ}
use Rattle.rows.specs.Sum.{Group, any, pick, over}
use Rattle.rows.proofs.Sum.{side, below, equal, above, over_same, over_le, pick_le}
use Rattle.grid.proofs.Net.{Net, crosses, ratings}
use Rattle.grid.proofs.Excess.{Exceeds, AtMost, Smallest}
use Rattle.verdict.specs.Case.{Case, Posed, out, Fits}
use Rattle.verdict.specs.Excess.{one_end, NoExcess, Overload, Short, Carries, Spare}
use Rattle.verdict.proofs.Plain.{base, loss_net, PlainLargest, overload_plain, no_excess_plain, short_plain, carries_plain}
use Rattle.verdict.proofs.Fitting.{ratings_out, none_above, posed_status}

over_empty : (n : ℕ) (f : ℕ → ℕ) → over n (λ i. false) f ≡ 0
unfolding over
over_empty zero f = refl
over_empty (suc n) f = omega (arith, over_empty n f)

pub empty_smallest : (N : Net) → ((R : Group) → AtMost N R 0) → Smallest N (λ i. false) 0
empty_smallest N h = record {
  listed = refl;
  reaches = omega (arith, over_empty N.buses N.gain, over_empty N.buses N.load, over_empty N.branches N.limit);
  largest = λ R m. h R;
  least = λ R m e i u p. absurd (false≢true p);
}

-- A group that holds both ends of b or neither loses nothing without b, and higher limits only add.
joined_ratings : (C : Case) (b : ℕ) → Posed C → (S : Group) → one_end C b S ≡ false → ratings (base C) S ≤ ratings (loss_net C b) S
joined_ratings C b p S e =
    over_le C.branches (crosses (base C) S) (crosses (base C) S) (base C).limit (loss_net C b).limit
    (λ k u. elim (side k b) [ below l ↦ apart k u (λ q. omega arith) | equal l ↦ same k l | above l ↦ apart k u (λ q. omega arith) ])
  where
    apart : (k : ℕ) → k < C.branches → (k ≡ b → ⊥) → pick (crosses (base C) S k) ((base C).limit k) ≤ pick (crosses (base C) S k) ((loss_net C b).limit k)
    apart k u n = rw (ne_eqb k b n) (pick_le (crosses (base C) S k) _ _ (pick_le (C.served k) _ _ (p.rising k u)))

    same : (k : ℕ) → k ≡ b → pick (crosses (base C) S k) ((base C).limit k) ≤ pick (crosses (base C) S k) ((loss_net C b).limit k)
    same k q = rw (q, e) (omega arith)

module _ (C : Case) (b : ℕ) (p : Posed C) (h : NoExcess C) where
  joined : (R : Group) → one_end C b R ≡ false → AtMost (loss_net C b) R 0
  joined R e = omega (arith, (no_excess_plain C).0 h R, joined_ratings C b p R e)

  everywhere : (v : ℕ) → ((R : Group) → one_end C b R ≡ true → AtMost (loss_net C b) R v) → (R : Group) → AtMost (loss_net C b) R v
  everywhere v m R = go (one_end C b R) refl
    where
      go : (t : Bool) → one_end C b R ≡ t → AtMost (loss_net C b) R v
      go true e = m R e
      go false e = omega (arith, joined R e)

  apart_of : (v : ℕ) (R : Group) → 0 < v → Exceeds (loss_net C b) R v → one_end C b R ≡ true
  apart_of v R a r = go (one_end C b R) refl
    where
      go : (t : Bool) → one_end C b R ≡ t → one_end C b R ≡ true
      go true e = e
      go false e = absurd (omega (arith, joined R e))

  -- Looking at the groups that hold exactly one end of b loses nothing.
  pub short_is : (v : ℕ) (S : Group) → Short C b v S ↔ PlainLargest (loss_net C b) any v S
  short_is v S = (λ s. wider ((short_plain C b v S).0 s), λ m. (short_plain C b v S).1 (narrower m))
    where
      wider : PlainLargest (loss_net C b) (one_end C b) v S → PlainLargest (loss_net C b) any v S
      wider s = record {
        above = s.above;
        smallest = record {
          listed = refl;
          reaches = s.smallest.reaches;
          largest = λ R _. everywhere v s.smallest.largest R;
          least = λ R _ e. s.smallest.least R (apart_of v R s.above e) e;
        };
        beyond = s.beyond;
      }

      narrower : PlainLargest (loss_net C b) any v S → PlainLargest (loss_net C b) (one_end C b) v S
      narrower m = record {
        above = m.above;
        smallest = record {
          listed = apart_of v S m.above m.smallest.reaches;
          reaches = m.smallest.reaches;
          largest = λ R _. m.smallest.largest R refl;
          least = λ R _ e. m.smallest.least R refl e;
        };
        beyond = m.beyond;
      }

  pub carries_is : Carries C b ↔ ((R : Group) → AtMost (loss_net C b) R 0)
  carries_is = (λ c. everywhere 0 ((carries_plain C b).0 c), λ m. (carries_plain C b).1 (λ R _. m R))

-- ---- Where a loss is judged by the limits of the base flow.
abbrev pub Level : Case → Type 0
Level C = C.loss_limit ≡ C.limit

level_ratings : (C : Case) (b : ℕ) → Level C → (S : Group) → ratings (loss_net C b) S ≡ ratings (base (out C b)) S
level_ratings C b l S =
    over_same _ _ _ _ _ (λ k u. ap (λ (x : ℕ). pick (crosses (base C) S k) (cond (eqb k b) 0 (pick (C.served k) x))) (ap (λ (m : ℕ → ℕ). m k) l))
    ∙ sym (ratings_out C b C.limit S)

smallest_by : (N M : Net) → ((S : Group) (v : ℕ) → Exceeds N S v ↔ Exceeds M S v) → ((S : Group) (v : ℕ) → AtMost N S v → AtMost M S v) → N.buses ≡ M.buses
    → (S : Group) (v : ℕ) → Smallest N S v → Smallest M S v
smallest_by N M e m n S v s = record {
  listed = refl;
  reaches = (e S v).0 s.reaches;
  largest = λ R _. m R v (s.largest R refl);
  least = λ R _ x i u. s.least R refl ((e R v).1 x) i (rw n u);
}

module _ (C : Case) (b : ℕ) (l : Level C) where
  level_exceeds : (S : Group) (v : ℕ) → Exceeds (loss_net C b) S v ↔ Exceeds (base (out C b)) S v
  level_exceeds S v = (λ x. omega (arith, level_ratings C b l S), λ x. omega (arith, level_ratings C b l S))

  level_most : (S : Group) (v : ℕ) → AtMost (loss_net C b) S v ↔ AtMost (base (out C b)) S v
  level_most S v = (λ x. omega (arith, level_ratings C b l S), λ x. omega (arith, level_ratings C b l S))

  -- The loss of b is the base excess of the case without b.
  pub level_smallest : (S : Group) (v : ℕ) → Smallest (loss_net C b) S v ↔ Smallest (base (out C b)) S v
  level_smallest S v = (
    smallest_by (loss_net C b) (base (out C b)) level_exceeds (λ R w. (level_most R w).0) refl S v,
    smallest_by (base (out C b)) (loss_net C b) (λ R w. ((level_exceeds R w).1, (level_exceeds R w).0)) (λ R w. (level_most R w).1) refl S v,
  )

  pub spare_is : ((R : Group) → AtMost (loss_net C b) R 0) ↔ Spare C b
  spare_is = (λ m. (no_excess_plain (out C b)).1 (λ R. (level_most R 0).0 (m R)), λ m R. (level_most R 0).1 ((no_excess_plain (out C b)).0 m R))

-- b is short by v, with the group S, exactly if the case without b is overloaded by v with the group S; it carries exactly if it may be spared.
pub short_overload : (C : Case) (b v : ℕ) (S : Group) → Posed C → NoExcess C → Level C → Short C b v S ↔ Overload (out C b) v S
short_overload C b v S p h l = (
  λ s. let m = (short_is C b p h v S).0 s in (overload_plain (out C b) v S).1 (record { above = m.above; smallest = (level_smallest C b l S v).0 m.smallest; beyond = m.beyond }),
  λ o. let m = (overload_plain (out C b) v S).0 o in (short_is C b p h v S).1 (record { above = m.above; smallest = (level_smallest C b l S v).1 m.smallest; beyond = m.beyond }),
)

pub carries_spare : (C : Case) (b : ℕ) → Posed C → NoExcess C → Level C → Carries C b ↔ Spare C b
carries_spare C b p h l = (
  λ c. (spare_is C b l).0 ((carries_is C b p h).0 c),
  λ s. (carries_is C b p h).1 ((spare_is C b l).1 s),
)

-- A branch carries if the case without it has a flow that fits the limits of a loss.
pub fits_carries : (C : Case) (g : ℕ → ℤ) (b : ℕ) → Posed C → Fits (out C b) C.loss_limit g → Carries C b
fits_carries C g b p h = (carries_plain C b).1 (λ R _.
    omega (arith, none_above (out C b) C.loss_limit g (posed_status C b false p) h R, ratings_out C b C.loss_limit R))

-- A fitting flow and an overload exclude one another, and so do a carrying and a short branch.
pub never_overload : (C : Case) (v : ℕ) (S : Group) → NoExcess C → Overload C v S → ⊥
never_overload C v S h o = let m = (overload_plain C v S).0 o in omega (arith, (no_excess_plain C).0 h S, m.smallest.reaches, m.above)

pub never_both : (C : Case) (b v : ℕ) (S : Group) → Carries C b → Short C b v S → ⊥
never_both C b v S c s = let m = (short_plain C b v S).0 s in omega (arith, (carries_plain C b).0 c S m.smallest.listed, m.smallest.reaches, m.above)
