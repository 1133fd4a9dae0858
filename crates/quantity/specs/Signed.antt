-- A signed number and its two parts, one of which is 0.
use Rattle.std.specs.Prelude.{ℕ, suc, Bool, true, false, ℤ, pos, negsuc, neg_ℤ}

-- What lies above 0, and what lies below.
abbrev pub pos_part : ℤ → ℕ
pos_part (pos n) = n
pos_part (negsuc n) = 0

abbrev pub neg_part : ℤ → ℕ
neg_part (pos n) = 0
neg_part (negsuc n) = suc n

abbrev pub is_neg : ℤ → Bool
is_neg (pos n) = false
is_neg (negsuc n) = true

-- The number of a sign and a size.
abbrev pub of_size : Bool → ℕ → ℤ
of_size true n = neg_ℤ (pos n)
of_size false n = pos n
