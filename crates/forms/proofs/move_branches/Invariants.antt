-- `move_branches` puts the fields of every branch in the form asked for.
use Rattle.layout.specs.Form.{branch_widths, branch_values}
use Rattle.layout.specs.Layout.{branch_start, branch_after}
use Rattle.pack.proofs.Packing.{Packing}
use Rattle.forms.proofs.move_branches.Given as goal

abbrev pub invariant-loop-k : goal.invariant-loop-k
invariant-loop-k l =
    Packing (branch_widths l.form) l.initial.out (branch_start l.h.buses) (λ i. branch_values l.form (branch_after l.h.form l.h.buses l.book i)) l.count l.out l.k
