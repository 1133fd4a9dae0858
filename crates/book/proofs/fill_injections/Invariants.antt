-- `fill_injections` fills a table with the injections.
use Prim.Native.Nat.{◌-◌}
use Rattle.book.proofs.Filling.{Filling}
use Rattle.layout.specs.Layout.{injection_at}
use Rattle.book.proofs.fill_injections.Given as goal

abbrev pub invariant-loop-k : goal.invariant-loop-k
invariant-loop-k l = Filling (injection_at l.book) l.buses l.initial.out l.out l.k

abbrev pub decreases-loop-k : goal.decreases-loop-k
decreases-loop-k l = l.buses - l.k
