-- What `injections` promises.
use Rattle.std.specs.Prelude.{◌≡◌, List, [], ◌∷◌, ℕ, ℤ, length}
use Rattle.rows.specs.Row.{headed}
use Rattle.answer.specs.Answer.{Answer, SaidBy, settled}
use Rattle.meters.specs.Registers.{Registers, buses, injection, answer_to}

abbrev pub meter_numbers : List ℕ
meter_numbers = 13 ∷ 14 ∷ 15 ∷ 16 ∷ []

-- The output then holds the injections and what stood beyond them, or all that stood there.
pub record Metered (R : Registers) (out out' : List ℤ) (r : Answer) : Type 0 where
  pub answer : SaidBy (answer_to R (length out)) r
  pub output : out' ≡ settled (answer_to R (length out)) out (headed (buses R) (injection R) out)
