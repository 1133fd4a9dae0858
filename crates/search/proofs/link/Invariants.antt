-- The branches from k on are linked; k falls.
use Rattle.search.proofs.Links.{Chained}
use Rattle.search.proofs.link.Given as goal

abbrev pub invariant-loop-k : goal.invariant-loop-k
invariant-loop-k l = Chained l.buses l.branches l.first l.second l.head l.after l.far l.k
