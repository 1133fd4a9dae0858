-- What a true record may name: other branches in service, where it carries and its branch has a flow. Every other reroute bit is 0.
use mathlib.Core.Path.{◌≡◌, refl, sym, ◌∙◌}
use mathlib.Core.Bool.{Bool, true, false, true≢false}
use mathlib.Core.List.{List}
use Prim.Native.Nat.{ℕ, ◌+◌, ◌-◌, ◌/◌, ◌%◌, ◌≤◌, ◌<◌}
use native.Mathlib.Omega.{arith}
use lib.IntN.{ℤ, pos}
use lib.ListN.{take, drop, length-take, get_or-eq_default}
use lib.Seq.{get_or-take, get_or-drop}
use Rattle.rows.specs.Row.{nth}
use Rattle.rows.proofs.Sum.{side, below, equal, above}
use Rattle.bits.proofs.Low.{low_zero}
use Rattle.bits.proofs.ReadAsPut.{bit_low}
use Rattle.verdict.specs.Case.{Case, Fits}
use Rattle.verdict.specs.Record.{verdict_in, names, Zero, Rerouted, Told, is_out, carries, short}
use Rattle.verdict.proofs.Fitting.{served_other}

pub zero_names : (rec : List ℕ) → Zero rec 20 52 → (j : ℕ) → names rec j ≡ false
zero_names rec z j = rw (bit_low (take 32 (drop 20 rec)) j, byte (j / 8), low_zero (7 - j % 8)) refl
  where
    past : (i : ℕ) → 32 ≤ i → nth (take 32 (drop 20 rec)) i ≡ 0
    past i u = get_or-eq_default (take 32 (drop 20 rec)) 0 {n = i} (omega (arith, length-take 32 (drop 20 rec)))

    byte : (i : ℕ) → nth (take 32 (drop 20 rec)) i ≡ 0
    byte i = elim (side i 32) [
      | below u ↦ get_or-take 32 (drop 20 rec) i 0 u ∙ get_or-drop 20 rec i 0 ∙ z (20 + i) (omega arith) (omega arith)
      | equal u ↦ past i (omega arith)
      | above u ↦ past i (omega arith)
    ]

-- Bit j of branch k's reroute may be 1.
pub record MayName (C : Case) (f : ℕ → ℤ) (k : ℕ) (rec : List ℕ) (j : ℕ) : Type 0 where
  pub carrying : verdict_in rec ≡ 1
  pub flowing : f k ≡ pos 0 → ⊥
  pub another : j ≡ k → ⊥
  pub there : j < C.branches
  pub in_service : C.served j ≡ true

module _ (C : Case) (f : ℕ → ℤ) (k : ℕ) (rec : List ℕ) (fits : Fits C C.limit f) where
  -- A branch out of service has flow 0 in both flows, so it isn't named.
  named_serves : Rerouted C f k rec → (j : ℕ) → j < C.branches → names rec j ≡ true → (s : Bool) → C.served j ≡ s → C.served j ≡ true
  named_serves m j u e true i = i
  named_serves m j u e false i = let d = (m.exactly j u).0 e in absurd (d.1 (m.fits.still j u (served_other C k false j d.0 ∙ i) ∙ sym (fits.still j u i)))

  named_there : Rerouted C f k rec → (j : ℕ) → names rec j ≡ true → j < C.branches
  named_there m j e = elim (side j C.branches) [
    | below u ↦ u
    | equal u ↦ absurd (true≢false (sym e ∙ m.beyond j (omega arith)))
    | above u ↦ absurd (true≢false (sym e ∙ m.beyond j (omega arith)))
  ]

  pub names_only : Told C f k rec → (j : ℕ) → names rec j ≡ true → MayName C f k rec j
  names_only (is_out i v z) j e = absurd (true≢false (sym e ∙ zero_names rec (λ n u w. z n (omega arith) w) j))
  names_only (short i s v z) j e = absurd (true≢false (sym e ∙ zero_names rec z j))
  names_only (carries i c v z m) j e =
      let u = named_there m j e in
      record {
        carrying = v;
        flowing = λ q. true≢false (sym e ∙ m.idle q j);
        another = ((m.exactly j u).0 e).0;
        there = u;
        in_service = named_serves m j u e (C.served j) refl;
      }
