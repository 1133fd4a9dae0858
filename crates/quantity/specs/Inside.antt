-- Rows of kW, as inner contracts read them.
use Rattle.std.specs.Prelude.{ℕ, List, slice_index_or}
use Rattle.quantity.specs.declared.Kw.{Kw}

-- So many kW.
abbrev pub in_kw : ℕ → Kw
in_kw n = record { 0 = n }

-- The kW at place k of a row, and 0 past its end.
abbrev pub kw_at : List Kw → ℕ → ℕ
kw_at l k = (slice_index_or l k (in_kw 0)).0
