-- `branch_rows` fills the five rows with the book's branches.
use Rattle.book.proofs.BranchRowsFilled.{Branching}
use Rattle.book.proofs.cases.branch_rows.Given as goal

abbrev pub invariant-loop-k : goal.invariant-loop-k
invariant-loop-k l =
    Branching l.percent l.h.form l.book l.h.buses l.h.branches l.h.factor l.initial.first l.initial.second l.initial.served l.initial.limit l.initial.loss l.first l.second l.served l.limit l.loss l.k
