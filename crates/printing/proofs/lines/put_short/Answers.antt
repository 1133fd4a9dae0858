-- `put_short` adds the shortage and the group.
use Rattle.line.proofs.Adding.{adds_then}
use Rattle.printing.proofs.lines.put_short.Goals as goal

pub returns : goal.returns
returns c = adds_then (rw c.from.ensures at c.put_next.ensures) c.put_group.ensures
