-- The outage call: its checks, the test of the lent flow, the reroute, and what is then written.
use native.Mathlib.Omega.{arith}
use mathlib.Core.Path.{refl, sym, ap, ◌∙◌}
use mathlib.Core.List.{List}
use Prim.Native.Nat.{ℕ}
use lib.ListN.{take, drop}
use Rattle.std.specs.Result.{result_ok}
use Rattle.answer.specs.Answer.{refused}
use Rattle.answer.proofs.Refusals.{gave_up, handed}
use Rattle.state.proofs.Surveying.{surveyable}
use Rattle.outage.proofs.OutageEnds.{ends_refused, may, touched_here, below_here, table_room, stretch_here, losable_here, ends_short, fillable_here, raisable_here, poised_here, ends_taken}
use Rattle.outage.proofs.lose.Goals as goal

pub returns-in_err-check : goal.returns-in_err-check
returns-in_err-check c =
    rw (handed c.from_residual.ensures) (ends_refused _ _ _ _ _ _ c.check.ensures (gave_up c.in_err-check.was) (sym c.in_err-check.was, refl))

pub survey_lent-latent-requires : goal.survey_lent-latent-requires
survey_lent-latent-requires c = surveyable (may _ _ _ _ _ (sym c.check.ensures ∙ c.in_ok-check.was)).passes

pub stretch-requires : goal.stretch-requires
stretch-requires c = stretch_here _ _ _ _ _ (sym c.check.ensures ∙ c.in_ok-check.was) _ c.survey_lent-latent.ensures _ (c.ok_or.ensures.ok_part ∙ ap result_ok c.in_ok-latent.was)

pub replace-judged-requires : goal.replace-judged-requires
replace-judged-requires c = losable_here _ _ _ _ _ (sym c.check.ensures ∙ c.in_ok-check.was) _ c.survey_lent-latent.ensures _ (c.ok_or.ensures.ok_part ∙ ap result_ok c.in_ok-latent.was)

pub returns-in-Some : goal.returns-in-Some
returns-in-Some c =
    ends_short _ _ _ _ _ (sym c.check.ensures ∙ c.in_ok-check.was) _ c.survey_lent-latent.ensures _ (c.ok_or.ensures.ok_part ∙ ap result_ok c.in_ok-latent.was) _ _ c.replace-judged.ensures _ c.in-Some.is
    (ap refused c.overloaded.ensures, refl)

pub touch-touched-requires : goal.touch-touched-requires
touch-touched-requires c = touched_here _ _ _ _ _ (sym c.check.ensures ∙ c.in_ok-check.was) _ c.survey_lent-latent.ensures _ (c.ok_or.ensures.ok_part ∙ ap result_ok c.in_ok-latent.was)

pub with-served-requires : goal.with-served-requires
with-served-requires c = (omega arith, below_here _ _ _ _ _ (sym c.check.ensures ∙ c.in_ok-check.was) _ c.survey_lent-latent.ensures _ (c.ok_or.ensures.ok_part ∙ ap result_ok c.in_ok-latent.was))

pub with-limits-requires : goal.with-limits-requires
with-limits-requires c = (omega arith, below_here _ _ _ _ _ (sym c.check.ensures ∙ c.in_ok-check.was) _ c.survey_lent-latent.ensures _ (c.ok_or.ensures.ok_part ∙ ap result_ok c.in_ok-latent.was))

pub with-briefs-requires : goal.with-briefs-requires
with-briefs-requires c = (omega arith, below_here _ _ _ _ _ (sym c.check.ensures ∙ c.in_ok-check.was) _ c.survey_lent-latent.ensures _ (c.ok_or.ensures.ok_part ∙ ap result_ok c.in_ok-latent.was))

pub shortlist-listed-requires : goal.shortlist-listed-requires
shortlist-listed-requires c =
    ((touched_here _ _ _ _ _ (sym c.check.ensures ∙ c.in_ok-check.was) _ c.survey_lent-latent.ensures _ (c.ok_or.ensures.ok_part ∙ ap result_ok c.in_ok-latent.was)).0, table_room _ _ _ _ _ (sym c.check.ensures ∙ c.in_ok-check.was) _ c.survey_lent-latent.ensures _ (c.ok_or.ensures.ok_part ∙ ap result_ok c.in_ok-latent.was))

pub fill_flow-requires : goal.fill_flow-requires
fill_flow-requires c =
    fillable_here _ _ _ _ _ (sym c.check.ensures ∙ c.in_ok-check.was) _ c.survey_lent-latent.ensures _ (c.ok_or.ensures.ok_part ∙ ap result_ok c.in_ok-latent.was) _ _ c.replace-judged.ensures
    c.with-served.ensures c.with-limits.ensures c.with-briefs.ensures

pub raise-raised-requires : goal.raise-raised-requires
raise-raised-requires c =
    raisable_here _ _ _ _ _ (sym c.check.ensures ∙ c.in_ok-check.was) _ c.survey_lent-latent.ensures _ (c.ok_or.ensures.ok_part ∙ ap result_ok c.in_ok-latent.was) _ _ c.replace-judged.ensures
    c.with-served.ensures c.with-limits.ensures c.with-briefs.ensures c.in_default.is _ c.fill_flow.ensures

pub rewrite-losses-requires : goal.rewrite-losses-requires
rewrite-losses-requires c = (
  poised_here _ _ _ _ _ (sym c.check.ensures ∙ c.in_ok-check.was) _ c.survey_lent-latent.ensures _ (c.ok_or.ensures.ok_part ∙ ap result_ok c.in_ok-latent.was) _ _ c.replace-judged.ensures
      c.with-served.ensures c.with-limits.ensures c.with-briefs.ensures c.in_default.is _ c.fill_flow.ensures c.raise-raised.ensures,
  table_room _ _ _ _ _ (sym c.check.ensures ∙ c.in_ok-check.was) _ c.survey_lent-latent.ensures _ (c.ok_or.ensures.ok_part ∙ ap result_ok c.in_ok-latent.was),
)

pub set_status-requires : goal.set_status-requires
set_status-requires c = let b = below_here _ _ _ _ _ (sym c.check.ensures ∙ c.in_ok-check.was) _ c.survey_lent-latent.ensures _ (c.ok_or.ensures.ok_part ∙ ap result_ok c.in_ok-latent.was) in (omega (arith, b), omega arith)

pub returns : goal.returns
returns c =
    ends_taken _ _ _ _ _ (sym c.check.ensures ∙ c.in_ok-check.was) _ c.survey_lent-latent.ensures _ (c.ok_or.ensures.ok_part ∙ ap result_ok c.in_ok-latent.was) _ _ c.replace-judged.ensures
    c.with-served.ensures c.with-limits.ensures c.with-briefs.ensures c.in_default.is _ c.fill_flow.ensures _
    c.touch-touched.ensures c.raise-raised.ensures refl refl
    (c.reroute_of-named.ensures ∙ ap (λ (rec : List ℕ). take 32 (drop 20 rec)) c.stretch.ensures.its_bytes)
    c.shortlist-listed.ensures c.set_status.ensures c.rewrite-losses.ensures
