-- `put_branches` puts the fields of every branch.
use Prim.Native.Nat.{◌-◌}
use Rattle.layout.specs.Form.{branch_widths, branch_values}
use Rattle.layout.specs.Layout.{branch_start}
use Rattle.pack.specs.Write.{row_at}
use Rattle.pack.proofs.Packing.{Packing}
use Rattle.pack.proofs.Tables.put_branches.Given as goal

abbrev pub invariant-loop-k : goal.invariant-loop-k
invariant-loop-k l = Packing (branch_widths l.self.form) l.initial.out (branch_start l.self.buses) (λ i. branch_values l.self.form (row_at l.self.form l.self.branches.now i)) l.self.count l.out l.k

abbrev pub decreases-loop-k : goal.decreases-loop-k
decreases-loop-k l = l.self.count - l.k
