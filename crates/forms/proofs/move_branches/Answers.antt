-- `move_branches` puts the fields of every branch in the form asked for.
use mathlib.Core.Path.{ap}
use Rattle.layout.specs.Form.{branch_values}
use Rattle.pack.proofs.Packing.{packing_start, packing_more}
use Rattle.forms.proofs.move_branches.Goals as goal

pub loop-k-init : goal.loop-k-init
loop-k-init c = packing_start _ _ _ _ _

pub loop-k-preserved : goal.loop-k-preserved
loop-k-preserved c =
    packing_more _ _ _ _ _ _ _ _ _ c.loop-k-test.true c.loop-k.invariant
    (ap (branch_values c.args.form) c.branch_at-x.ensures) c.put_branch.ensures
