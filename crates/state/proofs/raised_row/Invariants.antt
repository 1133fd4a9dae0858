-- `raised_row` raises each number of a row by as much as its limit rises.
use Rattle.state.proofs.Raising.{Raising}
use Rattle.state.proofs.raised_row.Given as goal

abbrev pub invariant-loop-k : goal.invariant-loop-k
invariant-loop-k l = Raising l.branches l.live l.brief l.row l.raised l.k
