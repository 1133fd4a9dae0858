-- Sums counted bus by bus are equal exactly where the injections balance.
use mathlib.Core.Path.{◌≡◌, refl, ap}
use mathlib.Core.List.{List}
use Prim.Native.Nat.{ℕ, ◌+◌, ◌*◌, ◌<◌, ◌≤◌}
use native.Mathlib.Numerals.{add-one}
use native.Mathlib.Omega.{arith}
use lib.Dec.{eqb}
use lib.IntN.{ℤ}
use Rattle.rows.specs.Row.{nth}
use Rattle.rows.specs.Sum.{all, over}
use Rattle.quantity.specs.Signed.{pos_part, neg_part}
use Rattle.layout.specs.Book.{size}
use Rattle.bits.proofs.ReadAsPut.{field_lt}
use Rattle.layout.specs.Layout.{bus_at, injection_at}
use Rattle.layout.specs.declared.Sums.{Sums}
use Rattle.layout.specs.Inside.{CountedIn}
use Rattle.layout.specs.Check.{balances}
use Rattle.layout.proofs.SignAndSize.{size_of}

-- No injection of a book needs more than 20 bits, so that a sum of 128 fits.
pub small_field : (bs : List ℕ) (k : ℕ) → k < 128 → size (injection_at bs k) ≤ 1048576
small_field bs k l = omega (arith, size_of (nth (bus_at bs k) 0) (nth (bus_at bs k) 1), field_lt bs (32 + 21 * k + 1) 20)

-- Sums over k injections, each of at most 20 bits.
pub record InRoom (k : ℕ) (s : Sums) : Type 0 where
  pub enters_fits : s.enters ≤ 1048576 * k
  pub leaves_fits : s.leaves ≤ 1048576 * k

pub record Tallied (h : ℕ → ℤ) (n k : ℕ) (s : Sums) : Type 0 where
  pub here : k ≤ n
  pub enters_is : s.enters ≡ over k all (λ i. pos_part (h i))
  pub leaves_is : s.leaves ≡ over k all (λ i. neg_part (h i))

-- Fewer than 128 injections leave room for one more.
pub room_start : (s : Sums) → (s.enters ≡ 0) × (s.leaves ≡ 0) → InRoom 0 s
room_start s z = record { enters_fits = omega (arith, z.0); leaves_fits = omega (arith, z.1) }

pub room_for : (k n : ℕ) (s : Sums) → k < n → n ≤ 128 → InRoom k s → (s.enters ≤ 134217728) × (s.leaves ≤ 134217728)
room_for k n s l w t = (omega (arith, t.enters_fits), omega (arith, t.leaves_fits))

pub room_more : (k : ℕ) (s r : Sums) (x : ℤ) → size x ≤ 1048576 → InRoom k s → CountedIn s x r → InRoom (k + 1) r
room_more k s r x w t c = record { enters_fits = omega (arith, t.enters_fits, c.enters_more); leaves_fits = omega (arith, t.leaves_fits, c.leaves_more) }

module _ (h : ℕ → ℤ) (n : ℕ) where
  pub tally_start : (s : Sums) → (s.enters ≡ 0) × (s.leaves ≡ 0) → Tallied h n 0 s
  unfolding over
  tally_start s z = record { here = omega arith; enters_is = z.0; leaves_is = z.1 }

  pub tally_more : (k : ℕ) (s r : Sums) (x : ℤ) → k < n → x ≡ h k → Tallied h n k s → CountedIn s x r → Tallied h n (k + 1) r
  unfolding over
  tally_more k s r x l e t c =
      record {
        here = omega arith;
        enters_is = rw add-one (omega (arith, t.enters_is, c.enters_more, ap pos_part e));
        leaves_is = rw add-one (omega (arith, t.leaves_is, c.leaves_more, ap neg_part e));
      }

  pub tally_end : (k : ℕ) (s : Sums) → n ≤ k → Tallied h n k s → eqb s.enters s.leaves ≡ balances n h
  tally_end k s l t = let e : k ≡ n = omega arith in rw (t.enters_is, t.leaves_is, e) refl
