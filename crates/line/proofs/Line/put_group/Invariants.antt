-- `put_group` adds the number of buses in a group, and these in rising order.
use Prim.Native.Nat.{◌*◌}
use Rattle.line.specs.Text.{joined}
use Rattle.line.specs.Inside.{Adds}
use Rattle.line.proofs.Group.{member_text}
use Rattle.line.proofs.Line.put_group.Given as goal

abbrev pub invariant-loop-i : goal.invariant-loop-i
invariant-loop-i l = Adds (joined l.i (member_text l.group)) (21 * l.i) l.initial.self l.self
