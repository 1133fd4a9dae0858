-- `put_branches` puts the fields of every branch.
use mathlib.Core.Path.{ap}
use Rattle.layout.specs.Form.{branch_values}
use Rattle.pack.proofs.Packing.{packing_start, packing_more}
use Rattle.pack.proofs.Tables.put_branches.Goals as goal

pub loop-k-init : goal.loop-k-init
loop-k-init c = packing_start _ _ _ _ _

pub loop-k-preserved : goal.loop-k-preserved
loop-k-preserved c =
    packing_more _ _ _ _ _ _ _ _ _ c.loop-k-test.true c.loop-k.invariant (ap (branch_values c.args.self.form) c.row_at.ensures) c.put_branch.ensures
