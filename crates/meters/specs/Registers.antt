-- Injections from registers, in the words of document 01.
use Rattle.std.specs.Prelude.{Bool, cond, not, ◌&&◌, ◌||◌, List, ℕ, eqb, ltb, leb, ℤ, pos, neg_ℤ, nat_abs, ◌-ℤ◌, length}
use Rattle.rows.specs.Row.{nth, some}
use Rattle.rows.specs.Sum.{Group, sum}
use Rattle.answer.specs.declared.Refusal.TheVariants.{ListsUneven, NoSuchSupply, AdvanceTooFar, SupplyOutside}
use Rattle.answer.specs.Answer.{Answer, Accepted, and_then, refuse_if}
use Rattle.quantity.specs.Register.{advance}

-- Readings at the start and the end of the quarter hour, one a bus, and the number of the supply bus.
pub record Registers : Type 0 where
  pub import_start : List ℕ
  pub import_end : List ℕ
  pub export_start : List ℕ
  pub export_end : List ℕ
  pub supply : ℕ

abbrev pub registers : List ℕ → List ℕ → List ℕ → List ℕ → ℕ → Registers
registers is ie es ee s = record { import_start = is; import_end = ie; export_start = es; export_end = ee; supply = s }

abbrev pub buses : Registers → ℕ
buses R = length R.import_start

-- The advances of bus i: over a quarter hour a count of quarter kWh is 1 kW.
abbrev pub imported : Registers → ℕ → ℕ
imported R i = advance (nth R.import_start i) (nth R.import_end i)

abbrev pub exported : Registers → ℕ → ℕ
exported R i = advance (nth R.export_start i) (nth R.export_end i)

-- Every bus but the supply.
abbrev pub others : Registers → Group
others R i = not (eqb i R.supply)

-- Export advance less import advance.
abbrev pub metered : Registers → ℕ → ℤ
metered R i = pos (exported R i) -ℤ pos (imported R i)

-- The supply takes minus the sum of the others.
abbrev pub supplied : Registers → ℤ
supplied R = neg_ℤ (sum (buses R) (others R) (metered R))

abbrev pub injection : Registers → ℕ → ℤ
injection R i = cond (others R i) (metered R i) (supplied R)

-- 13: lists unequal, empty or above 128, or output shorter.
abbrev pub shape_of : ℕ → ℕ → ℕ → ℕ → ℕ → Answer
shape_of n second third fourth room =
    refuse_if (not (eqb second n)) ListsUneven
    (refuse_if (not (eqb third n)) ListsUneven
    (refuse_if (not (eqb fourth n)) ListsUneven
    (refuse_if (ltb n 1) ListsUneven
    (refuse_if (ltb 128 n) ListsUneven
    (refuse_if (ltb room n) ListsUneven
    Accepted)))))

-- 15: an advance above 1,000,000 at a bus other than the supply.
unfoldable pub too_far : Registers → ℕ → Bool
too_far R i = others R i && (ltb 1000000 (imported R i) || ltb 1000000 (exported R i))

abbrev pub shape : Registers → ℕ → Answer
shape R room = shape_of (buses R) (length R.import_end) (length R.export_start) (length R.export_end) room

-- 13 to 16 in their order, room being the length of the lent output.
unfoldable pub answer_to : Registers → ℕ → Answer
answer_to R room =
    and_then (shape R room)
    (refuse_if (leb (buses R) R.supply) NoSuchSupply
    (refuse_if (some (buses R) (too_far R)) AdvanceTooFar
    (refuse_if (ltb 1000000 (nat_abs (supplied R))) SupplyOutside
    Accepted)))
