-- `live_limits` gives each branch in service its limit, and 0 to any other.
use Rattle.state.proofs.BranchByBranch.{Living}
use Rattle.state.proofs.live_limits.Given as goal

abbrev pub invariant-loop-k : goal.invariant-loop-k
invariant-loop-k l = Living l.branches l.served l.limit l.live l.k
