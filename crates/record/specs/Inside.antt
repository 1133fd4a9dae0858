-- The stretch of a branch, the bytes of a record, what reading one gives, and the test for the shortlist.
use Rattle.std.specs.Prelude.{◌≡◌, Bool, not, ◌&&◌, ◌||◌, List, [], ◌∷◌, ◌++◌, ℕ, ◌/◌, ◌%◌, eqb, length, take, drop}
use Rattle.rows.specs.Row.{some}
use Rattle.rows.specs.Bit.{has}
use Rattle.verdict.specs.Record.{record_at, verdict_in, shortage_in, names}
use Rattle.record.specs.declared.Entry.{Entry}

-- The 52 bytes of branch k.
pub record Stretch (table : List ℕ) (k : ℕ) (rec : List ℕ) : Type 0 where
  pub its_bytes : rec ≡ record_at table k
  pub long : length rec ≡ 52

-- Verdict, three bytes of shortage with the high byte first, 16 of the group, 32 of the reroute.
unfoldable pub record_bytes : ℕ → ℕ → List ℕ → List ℕ → List ℕ
record_bytes verdict shortage group reroute = (verdict ∷ shortage / 65536 ∷ shortage / 256 % 256 ∷ shortage % 256 ∷ []) ++ (group ++ reroute)

pub record Read (rec : List ℕ) (r : Entry) : Type 0 where
  pub verdict_is : r.verdict ≡ verdict_in rec
  pub shortage_is : r.shortage ≡ shortage_in rec
  pub group_is : r.group ≡ take 16 (drop 4 rec)

-- Byte 0 isn't 1, or the reroute names a branch of `touched`.
unfoldable pub listed : List ℕ → List ℕ → Bool
listed rec touched = not (eqb (verdict_in rec) 1) || some 256 (λ j. names rec j && has touched j)
