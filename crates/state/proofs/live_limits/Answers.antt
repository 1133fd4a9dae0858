-- `live_limits` gives each branch in service its limit, and 0 to any other.
use Rattle.state.proofs.BranchByBranch.{living_none}
use Rattle.state.proofs.live_limits.Goals as goal

pub loop-k-init : goal.loop-k-init
loop-k-init c = living_none _ _ _ c.requires
