-- A signed number and its sign and size: each gives the other back.
use mathlib.Core.Path.{◌≡◌, refl, ap}
use mathlib.Core.Bool.{Bool, true, false, not}
use mathlib.Core.List.{List, [], ◌∷◌}
use Prim.Native.Nat.{ℕ, zero, suc, ◌+◌, ◌<◌, ◌≤◌, ◌^◌}
use native.Mathlib.Omega.{arith}
use lib.Dec.{eqb}
use lib.IntN.{ℤ, pos, negsuc, neg_ℤ}
use Rattle.rows.specs.Row.{nth}
use Rattle.rows.specs.Sum.{pick}
use Rattle.quantity.specs.Signed.{is_neg, of_size}
use Rattle.quantity.proofs.Parts.{of_size_parts}
use Rattle.bits.specs.Fields.{Fit}
use Rattle.layout.specs.Book.{size}
use Rattle.layout.specs.Layout.{bus_widths, injection_of, bus_values}
use Rattle.layout.proofs.Faults.{GoodBus}

pub injection_bus : (z : ℤ) → injection_of (bus_values z) ≡ z
injection_bus (pos n) = ap pos (omega arith)
injection_bus (negsuc n) = ap (λ (v : ℕ). neg_ℤ (pos v)) (let e : 0 + suc n ≡ suc n = omega arith in e)

pub bus_injection : (sign size : ℕ) → sign < 2 → GoodBus sign size → bus_values (injection_of (sign ∷ size ∷ [])) ≡ sign ∷ size ∷ []
bus_injection zero size h g = ap {B = List ℕ} (λ (v : ℕ). 0 ∷ v ∷ []) (omega arith)
bus_injection (suc zero) zero h g = absurd (g.not_minus_zero refl refl)
bus_injection (suc zero) (suc k) h g = ap {B = List ℕ} (λ (v : ℕ). 1 ∷ v ∷ []) (omega arith)
bus_injection (suc (suc s)) size h g = absurd (omega arith)

parts : (s : Bool) (n : ℕ) → pick (not s) n + pick s n ≡ n
parts true n = omega arith
parts false n = omega arith

pub size_of : (sign n : ℕ) → size (of_size (eqb sign 1) n) ≡ n
size_of sign n = let p = of_size_parts (eqb sign 1) n in omega (arith, p.0, p.1, parts (eqb sign 1) n)

pub good_bus : (z : ℤ) → size z ≤ 1000000 → GoodBus (nth (bus_values z) 0) (nth (bus_values z) 1)
good_bus (pos n) h = record { small = h; not_minus_zero = λ a b. omega arith }
good_bus (negsuc n) h = record { small = h; not_minus_zero = λ a b. omega arith }

pub fit_bus : (z : ℤ) → size z ≤ 1000000 → Fit bus_widths (bus_values z)
fit_bus z h = (flag (is_neg z), (omega arith, tt))
  where
    flag : (s : Bool) → pick s 1 < 2 ^ 1
    flag true = omega arith
    flag false = omega arith
