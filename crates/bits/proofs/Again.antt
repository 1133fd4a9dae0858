-- A bit that is changed and made again what it was leaves the row as it was.
use mathlib.Core.Path.{◌≡◌, refl, ap}
use mathlib.Core.List.{List, [], ◌∷◌}
use Prim.Native.Nat.{ℕ, zero, suc, ◌-◌, ◌/◌, ◌%◌, ◌<◌}
use native.Mathlib.Omega.{arith}
use lib.ListN.{set}
use Rattle.rows.specs.Row.{nth}
use Rattle.rows.specs.Bit.{bit_at}
use Rattle.bits.specs.Field.{with_bit, set_bit}
use Rattle.bits.proofs.Low.{low, set_low, with_bit_low, half_of, odd_of}
use Rattle.bits.proofs.ReadAsPut.{bit_low}

-- Of one number, of a row of numbers, of a row of bytes.
low_again : (x k v : ℕ) → v < 2 → set_low (set_low x k v) k (low x k) ≡ x
unfolding low set_low
low_again x zero v h = omega arith
low_again x (suc k) v h =
    rw (half_of (set_low (x / 2) k v) (x % 2) (omega arith), odd_of (set_low (x / 2) k v) (x % 2) (omega arith), low_again (x / 2) k v h) (omega arith)

set_again : (l : List ℕ) (n : ℕ) (f g : ℕ → ℕ) → g (f (nth l n)) ≡ nth l n → set (set l n (f (nth l n))) n (g (nth (set l n (f (nth l n))) n)) ≡ l
set_again [] n f g e = refl
set_again (x ∷ l) zero f g e = ap (λ (y : ℕ). y ∷ l) e
set_again (x ∷ l) (suc n) f g e = ap (λ (m : List ℕ). x ∷ m) (set_again l n f g e)

pub set_bit_again : (bs : List ℕ) (i v w : ℕ) → v < 2 → bit_at bs i ≡ w → set_bit (set_bit bs i v) i w ≡ bs
unfolding set_bit
set_bit_again bs i v w h e = set_again bs (i / 8) (λ x. with_bit x (7 - i % 8) v) (λ x. with_bit x (7 - i % 8) w)
    (rw (with_bit_low (nth bs (i / 8)) (7 - i % 8) v, with_bit_low (set_low (nth bs (i / 8)) (7 - i % 8) v) (7 - i % 8) w, ← e, bit_low bs i)
    (low_again (nth bs (i / 8)) (7 - i % 8) v h))
