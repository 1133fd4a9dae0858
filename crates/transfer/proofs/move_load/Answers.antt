-- The move of load: its checks, the test of the lent flow, the reroute between the two buses, and what is then written.
use borrow.Author.Rules.{rules}
use mathlib.Core.Path.{refl, sym, ap, ◌∙◌}
use Rattle.std.specs.Result.{result_ok}
use Rattle.answer.specs.Answer.{refused}
use Rattle.answer.proofs.Refusals.{gave_up, handed_on}
use Rattle.state.proofs.Surveying.{surveyable}
use Rattle.transfer.proofs.TransferEnds.{ends_refused, may, deliverable_here, listed_here, ends_short}
use Rattle.transfer.proofs.TransferEnds.{fillable_here, raisable_here, poised_here, ends_moved}
use Rattle.transfer.proofs.move_load.Goals as goal

pub returns-in_err-check : goal.returns-in_err-check
returns-in_err-check c =
    ends_refused _ _ _ _ _ _ _ _ c.check.ensures (gave_up c.in_err-check.was) (handed_on c.in_err-check.was c.from_residual.ensures)

pub survey_lent-latent-requires : goal.survey_lent-latent-requires
survey_lent-latent-requires c = surveyable (may _ _ _ _ _ _ _ (sym c.check.ensures ∙ c.in_ok-check.was)).passes

pub deliver-judged-requires : goal.deliver-judged-requires
deliver-judged-requires c = deliverable_here _ _ _ _ _ _ _ (sym c.check.ensures ∙ c.in_ok-check.was) _ c.survey_lent-latent.ensures _ (c.ok_or.ensures.ok_part ∙ ap result_ok c.in_ok-latent.was)

pub returns-in-Some : goal.returns-in-Some
returns-in-Some c =
    ends_short _ _ _ _ _ _ _ (sym c.check.ensures ∙ c.in_ok-check.was) _ c.survey_lent-latent.ensures _ (c.ok_or.ensures.ok_part ∙ ap result_ok c.in_ok-latent.was) _ c.deliver-judged.ensures _ c.in-Some.is
    (ap refused c.overloaded.ensures)

pub changed-touched-requires : goal.changed-touched-requires
changed-touched-requires c = (listed_here _ _ _ _ _ _ _ (sym c.check.ensures ∙ c.in_ok-check.was) _ c.survey_lent-latent.ensures _ (c.ok_or.ensures.ok_part ∙ ap result_ok c.in_ok-latent.was)).0

pub shortlist-listed-requires : goal.shortlist-listed-requires
shortlist-listed-requires c = listed_here _ _ _ _ _ _ _ (sym c.check.ensures ∙ c.in_ok-check.was) _ c.survey_lent-latent.ensures _ (c.ok_or.ensures.ok_part ∙ ap result_ok c.in_ok-latent.was)

pub fill_flow-requires : goal.fill_flow-requires
fill_flow-requires c = fillable_here _ _ _ _ _ _ _ (sym c.check.ensures ∙ c.in_ok-check.was) _ c.survey_lent-latent.ensures _ (c.ok_or.ensures.ok_part ∙ ap result_ok c.in_ok-latent.was) _ c.deliver-judged.ensures

pub raise-raised-requires : goal.raise-raised-requires
raise-raised-requires c =
    raisable_here _ _ _ _ _ _ _ (sym c.check.ensures ∙ c.in_ok-check.was) _ c.survey_lent-latent.ensures _ (c.ok_or.ensures.ok_part ∙ ap result_ok c.in_ok-latent.was) _ c.deliver-judged.ensures
    c.in_default.is _ c.fill_flow.ensures

pub rewrite-requires : goal.rewrite-requires
rewrite-requires c = (
  poised_here _ _ _ _ _ _ _ (sym c.check.ensures ∙ c.in_ok-check.was) _ c.survey_lent-latent.ensures _ (c.ok_or.ensures.ok_part ∙ ap result_ok c.in_ok-latent.was) _ c.deliver-judged.ensures
      c.in_default.is _ c.fill_flow.ensures c.raise-raised.ensures,
  (listed_here _ _ _ _ _ _ _ (sym c.check.ensures ∙ c.in_ok-check.was) _ c.survey_lent-latent.ensures _ (c.ok_or.ensures.ok_part ∙ ap result_ok c.in_ok-latent.was)).1,
)

pub put_injections-requires : goal.put_injections-requires
put_injections-requires c = (may _ _ _ _ _ _ _ (sym c.check.ensures ∙ c.in_ok-check.was)).within

pub returns : goal.returns
returns c =
    ends_moved _ _ _ _ _ _ _ (sym c.check.ensures ∙ c.in_ok-check.was) _ c.survey_lent-latent.ensures _ (c.ok_or.ensures.ok_part ∙ ap result_ok c.in_ok-latent.was) _ c.deliver-judged.ensures
    c.in_default.is _ c.fill_flow.ensures _ c.changed-touched.ensures c.raise-raised.ensures refl (search rules)
    c.shortlist-listed.ensures c.put_injections.ensures c.rewrite.ensures
