-- `injections` keeps its promise: refusals 13 to 16 in order, then the injections, each end by one law.
use borrow.Author.Rules.{rules}
use native.Mathlib.Omega.{arith}
use mathlib.Core.Path.{sym, ◌∙◌}
use Prim.Native.Nat.{◌≤◌}
use lib.ListN.{length}
use mir.Syntax.{w32}
use mir.Val.{SFits}
use mir.Facts.{to_z-of_z}
use Rattle.answer.proofs.Refusals.{gave_up, handed_on}
use Rattle.meters.specs.Registers.{Registers, registers, buses}
use Rattle.meters.specs.Inside.{Even}
use Rattle.meters.proofs.MeterAnswers.{shaped, summed, by_shape, by_supply, by_advance, by_range, by_injections}
use Rattle.meters.proofs.injections.Goals as goal

pub returns-in_err-shape : goal.returns-in_err-shape
returns-in_err-shape c = rw (handed_on c.in_err-shape.was c.from_residual.ensures) (by_shape _ _ _ c.shape.ensures (gave_up c.in_err-shape.was))

pub returns-then-import_start-supply : goal.returns-then-import_start-supply
returns-then-import_start-supply c = by_supply _ _ (sym c.shape.ensures ∙ c.in_ok-shape.was) c.if-import_start-supply.true

pub returns-in_default : goal.returns-in_default
returns-in_default c =
    by_advance _ _ (sym c.shape.ensures ∙ c.in_ok-shape.was) c.if-import_start-supply.false (sym c.in_default.is ∙ c.totals.ensures)

pub returns-then-apart-gt1000000 : goal.returns-then-apart-gt1000000
returns-then-apart-gt1000000 c =
    by_range _ _ (sym c.shape.ensures ∙ c.in_ok-shape.was) c.if-import_start-supply.false (sym c.in-Some.is ∙ c.totals.ensures)
    (rw c.apart.ensures at c.if-apart-gt1000000.true)

pub difference-requires : goal.difference-requires
difference-requires c =
    let R : Registers = let a = c.args in registers a.import_start.now a.import_end.now a.export_start.now a.export_end.now a.supply in
    let even : Even R × (buses R ≤ length c.args.out.now) = shaped _ _ (sym c.shape.ensures ∙ c.in_ok-shape.was) in
    let t = summed _ _ _ (sym c.in-Some.is ∙ c.totals.ensures) in
    (omega (arith, t.took_low, even.0.few), omega (arith, t.gave_low, even.0.few))

pub fill-requires : goal.fill-requires
fill-requires c =
    let even = shaped _ _ (sym c.shape.ensures ∙ c.in_ok-shape.was) in
    record { even = even.0; room = even.1; near = (summed _ _ _ (sym c.in-Some.is ∙ c.totals.ensures)).near }

pub returns : goal.returns
returns c =
    let fits : SFits w32 c.difference.result = search rules in
    by_injections _ _ (sym c.shape.ensures ∙ c.in_ok-shape.was) c.if-import_start-supply.false (sym c.in-Some.is ∙ c.totals.ensures)
    (rw c.apart.ensures at c.if-apart-gt1000000.false) (rw (to_z-of_z fits) c.difference.ensures) c.fill.ensures
