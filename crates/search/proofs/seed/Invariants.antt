-- The starts below v are marked and queued.
use Rattle.search.proofs.Sowing.{Sow}
use Rattle.search.proofs.seed.Given as goal

abbrev pub invariant-loop-v : goal.invariant-loop-v
invariant-loop-v l = Sow l.buses l.roles l.marks l.queue l.origin l.count l.v
