-- Bits noted one after another in a row of 32 bytes, by what a test answers.
use mathlib.Core.Path.{◌≡◌, refl, sym, subst, ◌∙◌}
use mathlib.Core.Bool.{Bool, true, false}
use mathlib.Core.List.{List}
use Prim.Native.Nat.{ℕ, ◌+◌, ◌<◌}
use native.Mathlib.Omega.{arith}
use borrow.Author.Count.{below_more}
use borrow.Author.Tests.{eq-eqb}
use lib.ListN.{length, replicate}
use Rattle.rows.specs.Bit.{has, bit_at}
use Rattle.bits.specs.Field.{set_bit}
use Rattle.bits.specs.Inside.{Marked}
use Rattle.bits.proofs.ReadAsPut.{length_set_bit, bytes_set_bit, bit_same, bit_other, bit_zeros, bytes_zeros}

-- The bit of k in a row of 32 bytes is 1, and every other bit is as it was.
pub bit_noted : (row : List ℕ) (k : ℕ) → length row ≡ 32 → k < 256 → has (set_bit row k 1) k ≡ true
bit_noted row k l u = eq-eqb (bit_at (set_bit row k 1) k) 1 (bit_same row k 1 (omega arith) (omega arith))

pub bit_left : (row : List ℕ) (k j : ℕ) → (j ≡ k → ⊥) → has (set_bit row k 1) j ≡ has row j
bit_left row k j n = rw (bit_other row k j 1 (omega arith) n) refl

module _ {answers : ℕ → Bool → Type 0} where
  pub marked_none : Marked 0 answers (replicate 32 0)
  marked_none = record { long = refl; bytes = bytes_zeros 32; told = λ k u. absurd (omega arith); beyond = λ k u. rw (bit_zeros 32 k) refl }

  module _ {row : List ℕ} {k : ℕ} (m : Marked k answers row) where
    pub marked_set : k < 256 → answers k true → Marked (k + 1) answers (set_bit row k 1)
    marked_set u a = record {
      long = length_set_bit row k 1 ∙ m.long;
      bytes = bytes_set_bit row k 1 (omega arith) m.bytes;
      told = below_more _ k (λ j v. subst (answers j) (sym (bit_left row k j (λ q. omega arith))) (m.told j v))
          (subst (answers k) (sym (bit_noted row k m.long u)) a);
      beyond = λ j v. bit_left row k j (λ q. omega arith) ∙ m.beyond j (omega arith);
    }

    pub marked_skip : answers k false → Marked (k + 1) answers row
    marked_skip a = record {
      long = m.long;
      bytes = m.bytes;
      told = below_more _ k m.told (subst (answers k) (sym (m.beyond k (omega arith))) a);
      beyond = λ j v. m.beyond j (omega arith);
    }
