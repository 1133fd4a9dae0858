-- `put_group` adds the number of buses in a group, and these in rising order.
use native.Mathlib.Omega.{arith}
use mathlib.Core.Path.{sym, ◌∙◌}
use Rattle.line.proofs.Group.{member_none, member_in, member_out, group_added}
use Rattle.line.proofs.Line.put_group.Goals as goal
use Rattle.line.proofs.Line.put_group.Goals.{then-is_set, else-is_set}

pub loop-i-init : goal.loop-i-init
loop-i-init c = member_none _ _

pub loop-i-preserved : goal.loop-i-preserved
loop-i-preserved c =
    let inv = c.loop-i.invariant in
    let e = c.is_set.ensures in
    elim c.if-is_set.branch [
      | then-is_set w ↦ rw w.self-is (member_in _ _ inv (sym e ∙ w.if-is_set.true) w.put_next-then-is_set.ensures)
      | else-is_set w ↦ rw w.self-is (member_out _ _ inv (sym e ∙ w.if-is_set.false))
    ]

pub returns : goal.returns
returns c = group_added _ c.count-count.ensures c.put_next.ensures (omega arith) c.loop-i.invariant
