-- The return: its checks, the test of the lent flow, the rows with the branch in service, and what is then written.
use native.Mathlib.Omega.{arith}
use mathlib.Core.Path.{refl, sym, ap, ◌∙◌}
use Rattle.std.specs.Result.{result_ok}
use Rattle.answer.proofs.Refusals.{gave_up, handed_on}
use Rattle.state.proofs.Surveying.{surveyable}
use Rattle.restore.proofs.ReturnEnds.{ends_refused, may, below_here, listed_here, raisable_here, poised_here, ends_back}
use Rattle.restore.proofs.bring_back.Goals as goal

pub returns-in_err-check : goal.returns-in_err-check
returns-in_err-check c =
    ends_refused _ _ _ _ _ _ c.check.ensures (gave_up c.in_err-check.was) (handed_on c.in_err-check.was c.from_residual.ensures)

pub survey_lent-latent-requires : goal.survey_lent-latent-requires
survey_lent-latent-requires c = surveyable (may _ _ _ _ _ (sym c.check.ensures ∙ c.in_ok-check.was)).passes

pub offset_bounds-loss-branch : goal.offset_bounds-loss-branch
offset_bounds-loss-branch c = let b = below_here _ _ _ _ _ (sym c.check.ensures ∙ c.in_ok-check.was) _ c.survey_lent-latent.ensures _ (c.ok_or.ensures.ok_part ∙ ap result_ok c.in_ok-latent.was) in omega (arith, b)

pub bounds-loss-branch : goal.bounds-loss-branch
bounds-loss-branch c = let b = below_here _ _ _ _ _ (sym c.check.ensures ∙ c.in_ok-check.was) _ c.survey_lent-latent.ensures _ (c.ok_or.ensures.ok_part ∙ ap result_ok c.in_ok-latent.was) in omega (arith, b)

pub raise-requires : goal.raise-requires
raise-requires c = raisable_here _ _ _ _ _ (sym c.check.ensures ∙ c.in_ok-check.was) _ c.survey_lent-latent.ensures _ (c.ok_or.ensures.ok_part ∙ ap result_ok c.in_ok-latent.was)

pub with-served-requires : goal.with-served-requires
with-served-requires c = (omega arith, below_here _ _ _ _ _ (sym c.check.ensures ∙ c.in_ok-check.was) _ c.survey_lent-latent.ensures _ (c.ok_or.ensures.ok_part ∙ ap result_ok c.in_ok-latent.was))

pub with-briefs-requires : goal.with-briefs-requires
with-briefs-requires c = (omega arith, below_here _ _ _ _ _ (sym c.check.ensures ∙ c.in_ok-check.was) _ c.survey_lent-latent.ensures _ (c.ok_or.ensures.ok_part ∙ ap result_ok c.in_ok-latent.was))

pub with-requires : goal.with-requires
with-requires c = (omega arith, below_here _ _ _ _ _ (sym c.check.ensures ∙ c.in_ok-check.was) _ c.survey_lent-latent.ensures _ (c.ok_or.ensures.ok_part ∙ ap result_ok c.in_ok-latent.was))

pub with-requires-2 : goal.with-requires-2
with-requires-2 c = (omega arith, below_here _ _ _ _ _ (sym c.check.ensures ∙ c.in_ok-check.was) _ c.survey_lent-latent.ensures _ (c.ok_or.ensures.ok_part ∙ ap result_ok c.in_ok-latent.was))

pub anew-listed-requires : goal.anew-listed-requires
anew-listed-requires c = listed_here _ _ _ _ _ (sym c.check.ensures ∙ c.in_ok-check.was) _ c.survey_lent-latent.ensures _ (c.ok_or.ensures.ok_part ∙ ap result_ok c.in_ok-latent.was)

pub rewrite-requires : goal.rewrite-requires
rewrite-requires c = (
  poised_here _ _ _ _ _ (sym c.check.ensures ∙ c.in_ok-check.was) _ c.survey_lent-latent.ensures _ (c.ok_or.ensures.ok_part ∙ ap result_ok c.in_ok-latent.was) _ c.raise.ensures
      c.with-served.ensures c.with-briefs.ensures c.with.ensures c.with-2.ensures,
  (listed_here _ _ _ _ _ (sym c.check.ensures ∙ c.in_ok-check.was) _ c.survey_lent-latent.ensures _ (c.ok_or.ensures.ok_part ∙ ap result_ok c.in_ok-latent.was)).1,
)

pub set_status-requires : goal.set_status-requires
set_status-requires c = let b = below_here _ _ _ _ _ (sym c.check.ensures ∙ c.in_ok-check.was) _ c.survey_lent-latent.ensures _ (c.ok_or.ensures.ok_part ∙ ap result_ok c.in_ok-latent.was) in (omega (arith, b), omega arith)

pub returns : goal.returns
returns c =
    ends_back _ _ _ _ _ (sym c.check.ensures ∙ c.in_ok-check.was) _ c.survey_lent-latent.ensures _ (c.ok_or.ensures.ok_part ∙ ap result_ok c.in_ok-latent.was) _ c.raise.ensures
    c.with-served.ensures c.with-briefs.ensures c.with.ensures c.with-2.ensures
    refl c.anew-listed.ensures c.set_status.ensures c.rewrite.ensures
