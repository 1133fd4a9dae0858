-- Which records are written anew, as the code tests it.
use Rattle.std.specs.Prelude.{Bool, not, ◌||◌, List, ℕ, eqb}
use Rattle.verdict.specs.Record.{record_at, verdict_in}

-- `is_anew`: the branch itself, or byte 0 isn't 1.
unfoldable pub anew_if : List ℕ → ℕ → ℕ → Bool
anew_if rec b k = eqb k b || not (eqb (verdict_in rec) 1)

unfoldable pub anew_at : List ℕ → ℕ → ℕ → Bool
anew_at table b k = anew_if (record_at table k) b k
