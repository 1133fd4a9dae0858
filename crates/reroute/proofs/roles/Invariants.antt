-- The roles of the first v buses are in the row.
use Rattle.reroute.proofs.Casting.{Casting}
use Rattle.reroute.proofs.roles.Given as goal

abbrev pub invariant-loop-v : goal.invariant-loop-v
invariant-loop-v l = Casting l.buses l.rest l.row l.v
