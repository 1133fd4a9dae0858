-- What the functions inside ask for and say; nothing here is part of the promise.
use Rattle.std.specs.Prelude.{◌≡◌, cond, false, List, ℕ, ◌≤◌, ℤ, length, Option, Some, None}
use Rattle.rows.specs.Row.{some}
use Rattle.rows.specs.Sum.{over}
use Rattle.meters.specs.Registers.{Registers, registers, buses, imported, exported, others, metered, too_far}
use Rattle.meters.specs.declared.Passed.{Passed}
use Rattle.meters.specs.declared.Readings.{Readings}

-- The registers of readings.
abbrev pub read : Readings → Registers
read r = registers r.import_start.now r.import_end.now r.export_start.now r.export_end.now r.supply

-- What all buses but the supply import and export together, unless an advance is too far.
abbrev pub Sums : ℕ → ℕ → Option Passed
Sums x y = Some (record { imported = x; exported = y })

abbrev pub TooFar : Option Passed
TooFar = None

-- Lists of one length, at most 128.
pub record Even (R : Registers) : Type 0 where
  pub second : length R.import_end ≡ buses R
  pub third : length R.export_start ≡ buses R
  pub fourth : length R.export_end ≡ buses R
  pub few : buses R ≤ 128

unfoldable pub totals_of : Registers → Option Passed
totals_of R = cond (some (buses R) (too_far R)) TooFar (Sums (over (buses R) (others R) (imported R)) (over (buses R) (others R) (exported R)))

-- What filling asks for: room for every bus, and no advance too far.
pub record Ready (R : Registers) (out : List ℤ) : Type 0 where
  pub even : Even R
  pub room : buses R ≤ length out
  pub near : some (buses R) (too_far R) ≡ false

-- The injections, `own` being the supply's.
abbrev pub with_supply : Registers → ℤ → ℕ → ℤ
with_supply R own i = cond (others R i) (metered R i) own
