-- The text of numbers and bytes.
use Rattle.std.specs.Prelude.{cond, List, [], ◌∷◌, ◌++◌, ℕ, zero, suc, ◌/◌, ◌%◌, ltb, eqb, ℤ, flat_map, Option, Some, None}
use Rattle.quantity.specs.Signed.{pos_part, neg_part}
use Rattle.io.specs.Digits.{hex_digit_ascii, last_digits}

-- The digits of n, of which there are at most so many: its last, and before it those of n / 10 where n has more than one.
unfoldable pub digits_in : ℕ → ℕ → List ℕ
digits_in zero n = []
digits_in (suc most) n = cond (ltb n 10) [] (digits_in most (n / 10)) ++ (hex_digit_ascii (n % 10) ∷ [])

-- No number of 64 bits has more than 20.
abbrev pub decimal_of : ℕ → List ℕ
decimal_of n = digits_in 20 n

-- A minus, 45, before a number below 0.
abbrev pub signed_of : ℤ → List ℕ
signed_of z = cond (eqb (neg_part z) 0) (decimal_of (pos_part z)) (45 ∷ decimal_of (neg_part z))

abbrev pub hex_of : ℕ → List ℕ
hex_of byte = last_digits 16 2 byte

-- f 0, f 1, .., f (n - 1) one after another.
unfoldable pub joined : ℕ → (ℕ → List ℕ) → List ℕ
joined zero f = []
joined (suc n) f = joined n f ++ f n

-- A number with a space, 32, before it.
abbrev pub next_of : ℕ → List ℕ
next_of n = 32 ∷ decimal_of n

-- A line of a list: a word, the text of each item, and the newline, 10.
abbrev pub items_text : {A : Type 0} → (A → List ℕ) → List ℕ → List A → List ℕ
items_text text word items = word ++ (flat_map text items ++ (10 ∷ []))

-- How a line of bytes in hex ends: a space, 32, the bytes, and the newline, 10.
abbrev pub hex_end : List ℕ → List ℕ
hex_end bytes = 32 ∷ (flat_map hex_of bytes ++ (10 ∷ []))

-- The whole of it: a word, and a number where there is one, which has at most 21 bytes.
abbrev pub number_text : Option ℕ → List ℕ
number_text None = []
number_text (Some n) = next_of n

abbrev pub number_room : Option ℕ → ℕ
number_room None = 0
number_room (Some n) = 21

abbrev pub hex_text : List ℕ → Option ℕ → List ℕ → List ℕ
hex_text word number bytes = word ++ (number_text number ++ hex_end bytes)
