-- Sums over a group: of naturals, and of signed numbers.
use Rattle.std.specs.Prelude.{Bool, true, false, ℕ, zero, suc, ◌+◌, ℤ, pos, ◌+ℤ◌}

-- Which numbers are in: the buses, or the branches, of a group.
abbrev pub Group : Type 0
Group = ℕ → Bool

abbrev pub all : Group
all i = true

-- Every group is admitted.
abbrev pub any : Group → Bool
any S = true

-- Exactly one of the two.
abbrev pub differ : Bool → Bool → Bool
differ true true = false
differ true false = true
differ false true = true
differ false false = false

abbrev pub pick : Bool → ℕ → ℕ
pick true x = x
pick false x = 0

-- The sum of f k over the k < n that are in S.
unfoldable pub over : ℕ → Group → (ℕ → ℕ) → ℕ
over zero S f = 0
over (suc n) S f = over n S f + pick (S n) (f n)

-- How many of the numbers below n are in S.
abbrev pub size : ℕ → Group → ℕ
size n S = over n S (λ i. 1)

abbrev pub pick_ℤ : Bool → ℤ → ℤ
pick_ℤ true x = x
pick_ℤ false x = pos 0

-- The same of signed numbers.
unfoldable pub sum : ℕ → Group → (ℕ → ℤ) → ℤ
sum zero S h = pos 0
sum (suc n) S h = sum n S h +ℤ pick_ℤ (S n) (h n)
