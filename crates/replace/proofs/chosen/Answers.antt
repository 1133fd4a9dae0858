-- The branches below k are chosen: where a branch is named, both its rows are those of `inside`.
use borrow.Author.Rules.{rules}
use mathlib.Core.Path.{sym, ◌∙◌}
use Rattle.replace.proofs.Choosing.{choosing_none, choosing_set, choosing_skip, choosing_end}
use Rattle.replace.proofs.chosen.Goals as goal
use Rattle.replace.proofs.chosen.Goals.{then-is_set, else-is_set}

pub loop-k-init : goal.loop-k-init
loop-k-init c = choosing_none c.requires (search rules) (search rules)

pub loop-k-preserved : goal.loop-k-preserved
loop-k-preserved c =
    let C = c.loop-k.invariant in
    let u = c.loop-k-test.true in
    let e = c.is_set.ensures in
    elim c.if-is_set.branch [
      | then-is_set w ↦ rw w.outside-is (choosing_set C u (sym e ∙ w.if-is_set.true))
      | else-is_set w ↦ rw w.outside-is (choosing_skip C u (sym e ∙ w.if-is_set.false))
    ]

pub returns : goal.returns
returns c = choosing_end c.loop-k.invariant c.loop-k-test.false
