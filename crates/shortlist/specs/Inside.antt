-- The shortlist as the code tests it, in bits.
use Rattle.std.specs.Prelude.{Bool, false, not, ◌||◌, List, ℕ, get_or}
use Rattle.rows.specs.Bit.{has}
use Rattle.verdict.specs.Record.{record_at}
use Rattle.record.specs.Inside.{listed}

-- `is_listed`: out of service, touched, byte 0 not 1, or a reroute that names a touched branch.
unfoldable pub listed_if : Bool → List ℕ → List ℕ → ℕ → Bool
listed_if serving touched rec k = not serving || (has touched k || listed rec touched)

-- `shortlist`: the same of record k of a table.
unfoldable pub listed_at : List Bool → List ℕ → List ℕ → ℕ → Bool
listed_at served touched table k = listed_if (get_or served k false) touched (record_at table k) k
