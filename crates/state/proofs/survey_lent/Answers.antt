-- `survey_lent`: the rows of the book, and the test of the flow on them.
use Rattle.state.proofs.Surveying.{plannable_here, lendable_here, surveyed}
use Rattle.state.proofs.survey_lent.Goals as goal

pub prepare-requires : goal.prepare-requires
prepare-requires c =
    plannable_here _ c.args.flow.now c.requires _ c.rows_of-rows.ensures

pub test-latent-requires : goal.test-latent-requires
test-latent-requires c =
    lendable_here _ c.args.flow.now c.requires _ c.rows_of-rows.ensures _ c.prepare.ensures

pub returns : goal.returns
returns c =
    surveyed _ c.args.flow.now c.requires _ c.rows_of-rows.ensures _ c.prepare.ensures _ c.test-latent.ensures
