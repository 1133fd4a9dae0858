-- `touch` marks the branches whose flow changed and the branch taken out.
use Rattle.outage.proofs.Touching.{marked}
use Rattle.outage.proofs.touch.Goals as goal

pub returns : goal.returns
returns c = rw c.set_bit.ensures (marked c.requires.0 c.requires.1 c.changed-row.ensures)
