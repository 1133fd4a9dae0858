-- The totals of the buses passed so far.
use mathlib.Core.Path.{◌≡◌, refl}
use mathlib.Core.Bool.{Bool, true, false, ◌||◌}
use Prim.Native.Nat.{ℕ, ◌+◌, ◌*◌, ◌<◌, ◌≤◌}
use native.Mathlib.Omega.{arith}
use native.Mathlib.Numerals.{add-one}
use borrow.Author.Tests.{eq-eqb, ne_eqb, lt-ltb, le-ltb}
use lib.Dec.{ltb}
use Rattle.rows.specs.Row.{some}
use Rattle.rows.specs.Sum.{over, pick}
use Rattle.rows.proofs.Row.{some_none, some_more, some_at, or_true, and_false}
use Rattle.meters.specs.Registers.{Registers, buses, imported, exported, others, too_far}
use Rattle.meters.specs.Inside.{Even, totals_of, Sums, TooFar}

pub record Adding (R : Registers) (i took gave : ℕ) : Type 0 where
  pub even : Even R
  pub upto : i ≤ buses R
  pub near : some i (too_far R) ≡ false
  pub took_is : took ≡ over i (others R) (imported R)
  pub gave_is : gave ≡ over i (others R) (exported R)
  pub took_low : took ≤ 1000000 * i
  pub gave_low : gave ≤ 1000000 * i

over_one_more : (i : ℕ) (S : ℕ → Bool) (f : ℕ → ℕ) → over (i + 1) S f ≡ over i S f + pick (S i) (f i)
unfolding over
over_one_more i S f = rw add-one refl

module _ (R : Registers) where
  -- A supply is never too far.
  at_supply : (i : ℕ) → i ≡ R.supply → too_far R i ≡ false
  unfolding too_far
  at_supply i e = rw (eq-eqb i R.supply e) refl

  near_by : (i : ℕ) → imported R i ≤ 1000000 → exported R i ≤ 1000000 → too_far R i ≡ false
  unfolding too_far
  near_by i a b = rw (le-ltb 1000000 (imported R i) a, le-ltb 1000000 (exported R i) b) (and_false (others R i))

  far_off : (i : ℕ) → (i ≡ R.supply → ⊥) → (ltb 1000000 (imported R i) || ltb 1000000 (exported R i)) ≡ true → too_far R i ≡ true
  unfolding too_far
  far_off i h e = rw (ne_eqb i R.supply h, e) refl

  pub far : (i : ℕ) → i < buses R → too_far R i ≡ true → TooFar ≡ totals_of R
  unfolding totals_of
  far i l e = rw (some_at (too_far R) (buses R) i l e) refl

  pub far_import : (i : ℕ) → i < buses R → (i ≡ R.supply → ⊥) → 1000000 < imported R i → TooFar ≡ totals_of R
  far_import i l h g = far i l (far_off i h (rw (lt-ltb 1000000 (imported R i) g) refl))

  pub far_export : (i : ℕ) → i < buses R → (i ≡ R.supply → ⊥) → 1000000 < exported R i → TooFar ≡ totals_of R
  far_export i l h g = far i l (far_off i h (rw (lt-ltb 1000000 (exported R i) g) (or_true (ltb 1000000 (imported R i)))))

  pub adding_none : Even R → Adding R 0 0 0
  unfolding over
  adding_none e = record {
    even = e;
    upto = omega arith;
    near = some_none (too_far R);
    took_is = refl;
    gave_is = refl;
    took_low = omega arith;
    gave_low = omega arith;
  }

  pub adding_supply : {i took gave : ℕ} → Adding R i took gave → i < buses R → i ≡ R.supply → Adding R (i + 1) took gave
  adding_supply {i} {took} {gave} a l e = record {
    even = a.even;
    upto = omega arith;
    near = some_more (too_far R) i a.near (at_supply i e);
    took_is = rw (over_one_more i (others R) (imported R), eq-eqb i R.supply e) (omega (arith, a.took_is));
    gave_is = rw (over_one_more i (others R) (exported R), eq-eqb i R.supply e) (omega (arith, a.gave_is));
    took_low = omega (arith, a.took_low);
    gave_low = omega (arith, a.gave_low);
  }

  pub adding_more :
      {i took gave x y : ℕ} → Adding R i took gave → i < buses R → (i ≡ R.supply → ⊥) → x ≡ imported R i → y ≡ exported R i → x ≤ 1000000 → y ≤ 1000000
      → Adding R (i + 1) (took + x) (gave + y)
  adding_more {i} {took} {gave} {x} {y} a l h ex ey lx ly = record {
    even = a.even;
    upto = omega arith;
    near = some_more (too_far R) i a.near (near_by i (omega arith) (omega arith));
    took_is = rw (over_one_more i (others R) (imported R), ne_eqb i R.supply h) (omega (arith, a.took_is));
    gave_is = rw (over_one_more i (others R) (exported R), ne_eqb i R.supply h) (omega (arith, a.gave_is));
    took_low = omega (arith, a.took_low);
    gave_low = omega (arith, a.gave_low);
  }

  pub added : {took gave : ℕ} → Adding R (buses R) took gave → Sums took gave ≡ totals_of R
  unfolding totals_of
  added {took} {gave} a = rw (a.near, a.took_is, a.gave_is) refl
