-- What is left of the stream, and what one command does.
use Rattle.std.specs.Prelude.{◌≡◌, Bool, true, false, ◌||◌, eqb, List, ℕ, ◌+◌, ◌-◌, ◌≤◌, length, take, drop, Option, Some}
use Rattle.rows.specs.Row.{nth}
use Rattle.layout.specs.declared.Form.{Form}
use Rattle.layout.specs.declared.Form.TheVariants.{Old, New}
use Rattle.spaces.specs.declared.Spaces.{Spaces}
use Rattle.spaces.specs.InsideStream.{PercentSet, PlacesSet}
use Rattle.spaces.specs.InsideSpaces.{AllSpoilt, BookSet, Beside}
use Rattle.tables.specs.Inside.{WriteRun, MoveRun}
use Rattle.trial.specs.InsideCalls.{CallRun, lent_of}

-- What stood from a to e in the input now stands from a' on, with more after it up to e'.
pub record Refilled (input : List ℕ) (a e : ℕ) (input' : List ℕ) (a' e' : ℕ) : Type 0 where
  pub more : a' + (e - a) ≤ e'
  pub inside : e' ≤ length input'
  pub kept : take (e - a) (drop a' input') ≡ take (e - a) (drop a input)

-- `W` writes the old form and `X` the new one.
abbrev pub write_letter : Form → ℕ
write_letter Old = 87
write_letter New = 88

-- `F`, `T`, `I` and `N` set a place.
abbrev pub places : ℕ → Bool
places letter = eqb letter 70 || (eqb letter 84 || (eqb letter 73 || eqb letter 78))

-- One command, on all spaces and at the percentage that stands, which `Y` alone changes: the letter says which.
pub data CommandRun (rest : List ℕ) (s s' : Spaces) (r : Option ℕ) : Type 0 where
  spoils : nth rest 0 ≡ 80 → r ≡ Some 1 → AllSpoilt s s' → CommandRun rest s s' r
  sets_book : nth rest 0 ≡ 66 → BookSet rest s s' r → CommandRun rest s s' r
  writes : (f : Form) → nth rest 0 ≡ write_letter f → WriteRun f rest s.injections s.branches s.book s.bytes s'.book s'.bytes r
      → s'.flow ≡ s.flow → s'.table ≡ s.table → s'.injections ≡ s.injections → s'.branches ≡ s.branches → s'.shelf ≡ s.shelf
      → s'.percent ≡ s.percent → CommandRun rest s s' r
  moves : nth rest 0 ≡ 76 → MoveRun rest (take s.bytes s.book) s.shelf s'.shelf r → s'.bytes ≡ s.bytes
      → lent_of s' ≡ lent_of s → s'.injections ≡ s.injections → s'.branches ≡ s.branches → s'.percent ≡ s.percent → CommandRun rest s s' r
  rates : nth rest 0 ≡ 89 → PercentSet rest s.percent s'.percent r → s'.bytes ≡ s.bytes
      → lent_of s' ≡ lent_of s → s'.injections ≡ s.injections → s'.branches ≡ s.branches → s'.shelf ≡ s.shelf → CommandRun rest s s' r
  sets_place : places (nth rest 0) ≡ true → PlacesSet (nth rest 0) rest s.flow s.table s.injections s.branches s'.flow s'.table s'.injections s'.branches r
      → Beside s s' → CommandRun rest s s' r
  calls : (nth rest 0 ≡ 80 → ⊥) → (nth rest 0 ≡ 66 → ⊥) → (nth rest 0 ≡ 87 → ⊥) → (nth rest 0 ≡ 88 → ⊥) → (nth rest 0 ≡ 76 → ⊥)
      → (nth rest 0 ≡ 89 → ⊥) → places (nth rest 0) ≡ false → CallRun (nth rest 0) rest s s' r → CommandRun rest s s' r
