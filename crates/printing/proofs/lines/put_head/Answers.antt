-- `put_head` adds the bus count and the branch count.
use native.Mathlib.Omega.{arith}
use Rattle.line.proofs.Adding.{adds_as, adds_then}
use Rattle.printing.proofs.Texts.{head_shown}
use Rattle.printing.proofs.lines.put_head.Goals as goal

pub returns : goal.returns
returns c = adds_as (head_shown c.head_of-head.ensures) (omega arith) (adds_then c.put_decimal.ensures c.put_next.ensures)
