-- Numbers and groups are shown without a newline.
use mathlib.Core.Path.{◌≡◌, refl}
use mathlib.Core.Bool.{Bool, true, false, cond}
use mathlib.Core.List.{List, [], ◌∷◌, ◌++◌}
use Prim.Native.Nat.{ℕ, zero, suc, ◌+◌, ◌/◌, ◌%◌}
use native.Mathlib.Omega.{arith}
use borrow.Author.Tests.{lt-ltb, ne_eqb}
use lib.Dec.{ltb, eqb}
use Rattle.rows.specs.Sum.{Group}
use Rattle.io.specs.Digits.{hex_digit_ascii}
use Rattle.line.specs.Text.{digits_in, decimal_of, next_of, joined}
use Rattle.line.specs.AnswerText.{members_text}

-- No byte is a newline.
unfoldable pub Plain : List ℕ → Type 0
Plain [] = Unit
Plain (x ∷ xs) = (eqb x 10 ≡ false) × Plain xs

pub plain_then : (s t : List ℕ) → Plain s → Plain t → Plain (s ++ t)
unfolding Plain
plain_then [] t p q = q
plain_then (x ∷ s) t p q = (p.0, plain_then s t p.1 q)

pub plain_none : Plain []
unfolding Plain
plain_none = tt

pub plain_cond : (b : Bool) (s t : List ℕ) → Plain s → Plain t → Plain (cond b s t)
plain_cond true s t p q = p
plain_cond false s t p q = q

plain_joined : (n : ℕ) (f : ℕ → List ℕ) → ((i : ℕ) → Plain (f i)) → Plain (joined n f)
unfolding joined Plain
plain_joined zero f h = tt
plain_joined (suc n) f h = plain_then (joined n f) (f n) (plain_joined n f h) (h n)

plain_digits : (most n : ℕ) → Plain (digits_in most n)
unfolding digits_in Plain
plain_digits zero n = tt
plain_digits (suc most) n =
    plain_then (cond (ltb n 10) [] (digits_in most (n / 10))) (hex_digit_ascii (n % 10) ∷ [])
    (plain_cond (ltb n 10) [] (digits_in most (n / 10)) tt (plain_digits most (n / 10)))
    (rw (lt-ltb (n % 10) 10 (omega arith)) (ne_eqb (48 + n % 10) 10 (λ e. omega arith)), tt)

pub plain_decimal : (n : ℕ) → Plain (decimal_of n)
plain_decimal n = plain_digits 20 n

pub plain_next : (n : ℕ) → Plain (next_of n)
unfolding Plain
plain_next n = (refl, plain_decimal n)

pub plain_members : (n : ℕ) (S : Group) → Plain (members_text n S)
plain_members n S = plain_then _ _ (plain_next _) (plain_joined n _ (λ i. plain_cond (S i) (next_of i) [] (plain_next i) plain_none))
