-- Items put into a row one by one: how far they have come, and how it ends.
use mathlib.Core.Path.{◌≡◌, refl, ap, ◌∙◌}
use mathlib.Core.List.{List}
use Prim.Native.Nat.{ℕ, ◌+◌, ◌<◌, ◌≤◌}
use native.Mathlib.Numerals.{add-one}
use native.Mathlib.Omega.{arith}
use lib.ListN.{length}
use Rattle.bits.specs.Fields.{puts, place, put_items}
use Rattle.bits.proofs.Fields.{length_puts}

pub record Packing (ws z : List ℕ) (at : ℕ) (f : ℕ → List ℕ) (n : ℕ) (l : List ℕ) (k : ℕ) : Type 0 where
  pub here : k ≤ n
  pub long : length l ≡ length z
  pub is : l ≡ put_items ws z at f k

module _ (ws z : List ℕ) (at : ℕ) (f : ℕ → List ℕ) (n : ℕ) where
  pub packing_start : Packing ws z at f n z 0
  unfolding put_items
  packing_start = record { here = omega arith; long = refl; is = refl }

  pub packing_more : (l l' : List ℕ) (k : ℕ) (v : List ℕ) → k < n → Packing ws z at f n l k → v ≡ f k → l' ≡ puts l (place ws at k) ws v → Packing ws z at f n l' (k + 1)
  unfolding put_items
  packing_more l l' k v h w q e = record {
    here = omega arith;
    long = ap length e ∙ length_puts l (place ws at k) ws v ∙ w.long;
    is = e ∙ rw (add-one, q, ← w.is) refl;
  }

  pub packing_end : (l : List ℕ) (k : ℕ) → n ≤ k → Packing ws z at f n l k → l ≡ put_items ws z at f n
  packing_end l k h w = let e : k ≡ n = omega arith in rw e at w.is
