-- The injections written so far.
use mathlib.Core.Path.{◌≡◌, refl, sym, ap, ◌∙◌}
use mathlib.Core.Bool.{false}
use mathlib.Core.List.{List}
use Prim.Native.Nat.{ℕ, ◌+◌, ◌<◌, ◌≤◌}
use native.Mathlib.Omega.{arith}
use borrow.Author.Tests.{eq-eqb, ne_eqb, ltb-false}
use lib.Dec.{ltb}
use lib.IntN.{ℤ, pos, ◌-ℤ◌}
use lib.ListN.{length, set}
use Rattle.rows.specs.Row.{headed}
use Rattle.rows.proofs.Row.{headed_none, headed_more, length_headed, no_some, either_false}
use Rattle.meters.specs.Registers.{Registers, buses, imported, exported, too_far}
use Rattle.meters.specs.Inside.{Ready, with_supply}

pub record Filling (R : Registers) (own : ℤ) (out₀ out : List ℤ) (i : ℕ) : Type 0 where
  pub ready : Ready R out₀
  pub upto : i ≤ buses R
  pub is : out ≡ headed i (with_supply R own) out₀
  pub long : length out ≡ length out₀

-- What no refusal 15 says of a bus other than the supply.
pub record Near (R : Registers) (i : ℕ) : Type 0 where
  pub took : imported R i ≤ 1000000
  pub gave : exported R i ≤ 1000000

pub near_at : (R : Registers) (i : ℕ) → (i ≡ R.supply → ⊥) → too_far R i ≡ false → Near R i
unfolding too_far
near_at R i h e =
    let w = either_false (ltb 1000000 (imported R i)) (ltb 1000000 (exported R i)) (rw (ne_eqb i R.supply h) at e) in
    record { took = ltb-false 1000000 (imported R i) w.0; gave = ltb-false 1000000 (exported R i) w.1 }

module _ (R : Registers) (own : ℤ) where
  pub near : {out : List ℤ} {i : ℕ} → Ready R out → i < buses R → (i ≡ R.supply → ⊥) → Near R i
  near {out} {i} r l h = near_at R i h (no_some (too_far R) (buses R) r.near i l)

  pub filling_none : {out : List ℤ} → Ready R out → Filling R own out out 0
  filling_none {out} r = record { ready = r; upto = omega arith; is = sym (headed_none (with_supply R own) out); long = refl }

  filling_more : {out₀ out : List ℤ} {i : ℕ} {x : ℤ} → Filling R own out₀ out i → i < buses R → x ≡ with_supply R own i → Filling R own out₀ (set out i x) (i + 1)
  filling_more {out₀} {out} {i} {x} f l e =
      let h : i < length out₀ = omega (arith, f.ready.room) in
      let is : set out i x ≡ headed (i + 1) (with_supply R own) out₀ = rw (e, f.is) (headed_more i (with_supply R own) out₀ h) in
      record {
        ready = f.ready;
        upto = omega arith;
        is = is;
        long = ap length is ∙ length_headed (i + 1) (with_supply R own) out₀ (omega arith);
      }

  pub filling_supply : {out₀ out : List ℤ} {i : ℕ} → Filling R own out₀ out i → i < buses R → i ≡ R.supply → Filling R own out₀ (set out i own) (i + 1)
  filling_supply {out₀} {out} {i} f l e = filling_more f l (rw (eq-eqb i R.supply e) refl)

  pub filling_other :
      {out₀ out : List ℤ} {i gave took : ℕ} {x : ℤ} → Filling R own out₀ out i → i < buses R → (i ≡ R.supply → ⊥) → gave ≡ exported R i → took ≡ imported R i
      → x ≡ pos gave -ℤ pos took → Filling R own out₀ (set out i x) (i + 1)
  filling_other {out₀} {out} {i} {gave} {took} {x} f l h g t e = filling_more f l (rw (ne_eqb i R.supply h, ← g, ← t) e)
