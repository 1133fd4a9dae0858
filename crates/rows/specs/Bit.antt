-- Bits of a row of bytes, the most significant of a byte first.
use Rattle.std.specs.Prelude.{Bool, List, ℕ, ◌-◌, ◌/◌, ◌%◌, ◌^◌, eqb}
use Rattle.rows.specs.Row.{nth}

-- Bit 7 - k mod 8 of byte k / 8, as 0 or 1.
unfoldable pub bit_at : List ℕ → ℕ → ℕ
bit_at bs k = nth bs (k / 8) / 2 ^ (7 - k % 8) % 2

-- The numbers whose bit is 1: a group of buses, or the branches of a reroute.
abbrev pub has : List ℕ → ℕ → Bool
has bs k = eqb (bit_at bs k) 1
