-- A field of bits in a row of bytes, most significant first: read, and put. The bit of a row is `bit_at` of rows.
use Rattle.std.specs.Prelude.{◌≡◌, ◌≢◌, List, ℕ, zero, suc, ◌+◌, ◌-◌, ◌*◌, ◌/◌, ◌%◌, ◌^◌, ◌<◌, length, set}
use Rattle.rows.specs.Row.{nth}
use Rattle.rows.specs.Bit.{bit_at}

abbrev pub Bytes : List ℕ → Type 0
Bytes bs = (k : ℕ) → nth bs k < 256

-- The number in the w bits from bit `at` on.
unfoldable pub field : List ℕ → ℕ → ℕ → ℕ
field bs at zero = 0
field bs at (suc w) = field bs at w * 2 + bit_at bs (at + w)

-- x with its bit of value 2 ^ k made b.
unfoldable pub with_bit : ℕ → ℕ → ℕ → ℕ
with_bit x k b = x - x / 2 ^ k % 2 * 2 ^ k + b * 2 ^ k

-- The row with bit i made b.
unfoldable pub set_bit : List ℕ → ℕ → ℕ → List ℕ
set_bit bs i b = set bs (i / 8) (with_bit (nth bs (i / 8)) (7 - i % 8) b)

-- The row with the low w bits of v from bit `at` on.
unfoldable pub put : List ℕ → ℕ → ℕ → ℕ → List ℕ
put bs at zero v = bs
put bs at (suc w) v = put (set_bit bs (at + w) (v % 2)) at w (v / 2)

-- Bit i, and no other, is made b.
pub record OneBit (bs bs' : List ℕ) (i b : ℕ) : Type 0 where
  pub long : length bs' ≡ length bs
  pub there : bit_at bs' i ≡ b
  pub elsewhere : (j : ℕ) → j ≢ i → bit_at bs' j ≡ bit_at bs j
