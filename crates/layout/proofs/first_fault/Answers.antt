-- `first_fault` gives the first fault of its items.
use Rattle.layout.proofs.FirstFault.{scan_start, scan_more, scan_stop}
use Rattle.layout.proofs.first_fault.Goals as goal

pub loop-k-init : goal.loop-k-init
loop-k-init g c = λ f t. scan_start f _

pub returns-in-Some : goal.returns-in-Some
returns-in-Some g c = λ f t. let l = c.loop-k-test.true in scan_stop f _ _ _ l (c.loop-k.invariant f t) (t _ l _ c.in-Some.ensures)

pub loop-k-preserved : goal.loop-k-preserved
loop-k-preserved g c = λ f t. let l = c.loop-k-test.true in scan_more f _ _ l (c.loop-k.invariant f t) (t _ l _ c.in_default.ensures)
