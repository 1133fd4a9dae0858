-- `fill_branches` fills a table with the numbers of the branches, stretch by stretch.
use Rattle.layout.specs.Layout.{branch_after}
use Rattle.book.proofs.Filling.{Tabling}
use Rattle.book.proofs.fill_branches.Given as goal

abbrev pub invariant-loop-k : goal.invariant-loop-k
invariant-loop-k l = Tabling l.h.form (branch_after l.h.form l.h.buses l.book) l.h.branches l.initial.out l.out l.k
