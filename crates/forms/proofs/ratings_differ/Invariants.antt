-- `ratings_differ` is true exactly where the ratings of some branch differ.
use Rattle.layout.specs.Layout.{branch_after}
use Rattle.forms.proofs.Scan.{Alike}
use Rattle.forms.proofs.ratings_differ.Given as goal

abbrev pub invariant-loop-k : goal.invariant-loop-k
invariant-loop-k l = Alike (branch_after l.h.form l.h.buses l.book) l.h.branches l.k
