-- The flow went one way or the other, and is left at the ends of the lost branch.
use mathlib.Core.Path.{sym}
use Rattle.reroute.proofs.FlowVerdicts.{opened_ahead, opened_back}
use Rattle.reroute.proofs.rest_of.Goals as goal

pub returns-then-p-l : goal.returns-then-p-l
returns-then-p-l c = opened_ahead c.requires (sym c.from-near.ensures) (sym c.from-far.ensures) c.if-p-l.true

pub returns-else-p-l : goal.returns-else-p-l
returns-else-p-l c = opened_back c.requires (sym c.from-near.ensures) (sym c.from-far.ensures) c.if-p-l.false
