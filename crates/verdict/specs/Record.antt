-- The record of a branch, 52 bytes in one table, and when a table is true.
use Rattle.std.specs.Prelude.{◌≡◌, true, false, List, ◌↔◌, ℕ, ◌+◌, ◌*◌, ◌≤◌, ◌<◌, ℤ, pos, length, take, drop}
use Rattle.rows.specs.Row.{nth}
use Rattle.rows.specs.Bit.{has}
use Rattle.bits.specs.Field.{Bytes}
use Rattle.rows.specs.Sum.{Group}
use Rattle.verdict.specs.Case.{Case, out, on, Fits}
use Rattle.verdict.specs.Excess.{Short, Carries}
use Rattle.verdict.specs.Island.{ShortNumber}

-- Record k is the part of 52 bytes from 52k.
abbrev pub record_at : List ℕ → ℕ → List ℕ
record_at table k = take 52 (drop (52 * k) table)

-- Byte 0; bytes 1 to 3, high byte first; bytes 4 to 19; bytes 20 to 51.
abbrev pub verdict_in : List ℕ → ℕ
verdict_in rec = nth rec 0

-- Verdicts 2 and 3 both say that the branch is short.
abbrev pub SaysShort : List ℕ → Type 0
SaysShort rec = 2 ≤ verdict_in rec

abbrev pub shortage_in : List ℕ → ℕ
shortage_in rec = nth rec 1 * 65536 + nth rec 2 * 256 + nth rec 3

-- Bus k is bit 7 - k mod 8 of byte 4 + k / 8: a bit past the sixteen bytes is 0.
abbrev pub group_in : List ℕ → Group
group_in rec = has (take 16 (drop 4 rec))

abbrev pub names : List ℕ → Group
names rec = has (take 32 (drop 20 rec))

abbrev pub Zero : List ℕ → ℕ → ℕ → Type 0
Zero rec from to = (j : ℕ) → from ≤ j → j < to → nth rec j ≡ 0

-- The reroute of a carrying branch b belongs to one flow that fits the case without b by the second limits, and names exactly the branches other
-- than b on which that flow differs from the present flow f. It is empty if b's flow is 0.
pub record Rerouted (C : Case) (f : ℕ → ℤ) (b : ℕ) (rec : List ℕ) : Type 0 where
  pub flow : ℕ → ℤ
  pub fits : Fits (out C b) C.loss_limit flow
  pub exactly : (j : ℕ) → j < C.branches → (names rec j ≡ true) ↔ ((j ≡ b → ⊥) × (flow j ≡ f j → ⊥))
  pub beyond : (j : ℕ) → C.branches ≤ j → names rec j ≡ false
  pub idle : f b ≡ pos 0 → (j : ℕ) → names rec j ≡ false

-- Verdict 0: all else zero. Verdict 1: shortage and group zero. Verdicts 2 and 3: reroute zero. Bits beyond the counts are 0.
pub data Told (C : Case) (f : ℕ → ℤ) (k : ℕ) (rec : List ℕ) : Type 0 where
  is_out : C.served k ≡ false → verdict_in rec ≡ 0 → Zero rec 1 52 → Told C f k rec
  carries : C.served k ≡ true → Carries C k → verdict_in rec ≡ 1 → Zero rec 1 20 → Rerouted C f k rec → Told C f k rec
  short : C.served k ≡ true → Short C k (shortage_in rec) (group_in rec) → ShortNumber C k (verdict_in rec) → Zero rec 20 52 → Told C f k rec

pub record TrueRecord (C : Case) (f : ℕ → ℤ) (k : ℕ) (rec : List ℕ) : Type 0 where
  pub long : length rec ≡ 52
  pub bytes : Bytes rec
  pub told : Told C f k rec

-- A table is true of a case and a flow if the flow fits and every record is as defined here.
pub record TrueTable (C : Case) (flow : List ℤ) (table : List ℕ) : Type 0 where
  pub room : C.branches ≤ length flow
  pub long : 52 * C.branches ≤ length table
  pub fits : Fits C C.limit (on flow)
  pub each : (k : ℕ) → k < C.branches → TrueRecord C (on flow) k (record_at table k)
