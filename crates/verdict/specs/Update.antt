-- What is lent to a call, and what a call that changes a case writes anew and leaves.
use Rattle.std.specs.Prelude.{◌≡◌, true, false, List, ℕ, ◌*◌, ◌≤◌, ◌<◌, ℤ, length}
use Rattle.rows.specs.Row.{nth}
use Rattle.verdict.specs.Case.{Case, on, Fits}
use Rattle.verdict.specs.Record.{record_at, verdict_in, names, TrueRecord}

-- The packed book, its flow and the table of records.
pub record Lent : Type 0 where
  pub book : List ℕ
  pub flow : List ℤ
  pub table : List ℕ

-- Table and flow space beyond the branch count are never written.
pub record Beyond (C : Case) (before after : Lent) : Type 0 where
  pub flow_long : length after.flow ≡ length before.flow
  pub flow_rest : (k : ℕ) → C.branches ≤ k → on after.flow k ≡ on before.flow k
  pub table_long : length after.table ≡ length before.table
  pub table_rest : (j : ℕ) → 52 * C.branches ≤ j → nth after.table j ≡ nth before.table j

-- C being the case after the change: listed records are as C and the new flow define them, and every other record keeps all 52 bytes.
pub record Renewed (C : Case) (listed : ℕ → Type 0) (before after : Lent) : Type 0 where
  pub fits : Fits C C.limit (on after.flow)
  pub rewritten : (k : ℕ) → k < C.branches → listed k → TrueRecord C (on after.flow) k (record_at after.table k)
  pub kept : (k : ℕ) → k < C.branches → (listed k → ⊥) → record_at after.table k ≡ record_at before.table k
  pub beyond : Beyond C before after

-- Touched by a call that changes no status: a changed flow.
abbrev pub FlowChanged : (f g : ℕ → ℤ) → ℕ → Type 0
FlowChanged f g j = f j ≡ g j → ⊥

-- The shortlist: every branch that is out of service, whose record's byte 0 isn't 1, that is touched, or whose reroute names a touched branch.
pub data Shortlisted (C : Case) (table : List ℕ) (touched : ℕ → Type 0) (k : ℕ) : Type 0 where
  not_served : C.served k ≡ false → Shortlisted C table touched k
  not_carrying : (verdict_in (record_at table k) ≡ 1 → ⊥) → Shortlisted C table touched k
  is_touched : touched k → Shortlisted C table touched k
  names_touched : (j : ℕ) → j < C.branches → names (record_at table k) j ≡ true → touched j → Shortlisted C table touched k

-- The table as lent decides the shortlist.
abbrev pub Updated : Case → (ℕ → Type 0) → Lent → Lent → Type 0
Updated C touched before after = Renewed C (Shortlisted C before.table touched) before after
