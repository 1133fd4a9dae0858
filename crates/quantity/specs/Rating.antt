-- From kVA to kW, at a percentage of nameplate.
use Rattle.std.specs.Prelude.{ℕ, ◌*◌, ◌/◌, Bool, ◌||◌, nat_lt}
use Rattle.quantity.specs.declared.Kva.{Kva}

-- So many kVA.
abbrev pub in_kva : ℕ → Kva
in_kva n = record { 0 = n }

-- kVA times the power factor in thousandths times the percentage, divided by 100,000, rounded down once.
abbrev pub limit_of : ℕ → ℕ → ℕ → ℕ
limit_of kva factor percent = kva * factor * percent / 100000

-- The cables are run at 50 to 100 of nameplate, and a percentage outside that is refused.
unfoldable pub percent_out : ℕ → Bool
percent_out percent = nat_lt percent 50 || nat_lt 100 percent
