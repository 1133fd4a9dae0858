-- `put_next` adds a space and a number.
use Rattle.line.proofs.Adding.{adds_then}
use Rattle.line.proofs.Line.put_next.Goals as goal

pub returns : goal.returns
returns c = adds_then c.put.ensures c.put_decimal.ensures
