-- The screen: its checks, the base flow of the rows of its book, and every record from that.
use mathlib.Core.Path.{sym, ◌∙◌}
use Rattle.answer.proofs.Refusals.{gave_up, handed_on}
use Rattle.screen.proofs.ScreenEnd.{by_check}
use Rattle.screen.proofs.Screening.{readable, plannable_here, basic_here, ends_short, fillable_here, raisable_here, poised_here, ends_screened}
use Rattle.screen.proofs.screen.Goals as goal

pub returns-in_err-check_lent : goal.returns-in_err-check_lent
returns-in_err-check_lent c =
    by_check _ _ _ _ _ c.check_lent.ensures (gave_up c.in_err-check_lent.was) (handed_on c.in_err-check_lent.was c.from_residual.ensures)

pub rows_of-requires : goal.rows_of-requires
rows_of-requires c = readable _ _ _ _ (sym c.check_lent.ensures ∙ c.in_ok-check_lent.was)

pub prepare-requires : goal.prepare-requires
prepare-requires c = plannable_here _ _ _ _ (sym c.check_lent.ensures ∙ c.in_ok-check_lent.was) _ c.rows_of.ensures

pub base_flow-base-requires : goal.base_flow-base-requires
base_flow-base-requires c =
    basic_here _ _ _ _ (sym c.check_lent.ensures ∙ c.in_ok-check_lent.was) _ c.rows_of.ensures _ c.prepare.ensures

pub returns-in-Some : goal.returns-in-Some
returns-in-Some c =
    rw c.overloaded.ensures
    (ends_short _ _ _ _ (sym c.check_lent.ensures ∙ c.in_ok-check_lent.was) _ c.rows_of.ensures _ c.prepare.ensures _ c.base_flow-base.ensures _ c.in-Some.is)

pub fill_flow-requires : goal.fill_flow-requires
fill_flow-requires c =
    fillable_here _ _ _ _ (sym c.check_lent.ensures ∙ c.in_ok-check_lent.was) _ c.rows_of.ensures _ c.prepare.ensures _ c.base_flow-base.ensures

pub raise-raised-requires : goal.raise-raised-requires
raise-raised-requires c =
    raisable_here _ _ _ _ (sym c.check_lent.ensures ∙ c.in_ok-check_lent.was) _ c.rows_of.ensures _ c.prepare.ensures _ c.base_flow-base.ensures
    c.in_default.is _ c.fill_flow.ensures

pub rewrite-requires : goal.rewrite-requires
rewrite-requires c =
    poised_here _ _ _ _ (sym c.check_lent.ensures ∙ c.in_ok-check_lent.was) _ c.rows_of.ensures _ c.prepare.ensures _ c.base_flow-base.ensures
    c.in_default.is _ c.fill_flow.ensures _ c.raise-raised.ensures

pub returns : goal.returns
returns c =
    ends_screened _ _ _ _ (sym c.check_lent.ensures ∙ c.in_ok-check_lent.was) _ c.rows_of.ensures _ c.prepare.ensures _ c.base_flow-base.ensures
    c.in_default.is _ c.fill_flow.ensures _ c.raise-raised.ensures c.rewrite.ensures
