-- `bus_rows` fills the rows of what enters and what leaves.
use borrow.Author.Rules.{rules}
use mathlib.Core.Path.{ap, ◌∙◌}
use mir.Syntax.{w32}
use mir.Val.{SFits}
use mir.Facts.{to_z-of_z}
use Rattle.quantity.specs.Signed.{pos_part, neg_part}
use Rattle.book.proofs.Filling.{fill_start, fill_more}
use Rattle.book.proofs.cases.bus_rows.Goals as goal

pub loop-k-init : goal.loop-k-init
loop-k-init c = (fill_start _ _ _, fill_start _ _ _)

pub loop-k-preserved : goal.loop-k-preserved
loop-k-preserved c =
    let x = c.injection_at-x in
    let fit : SFits w32 x.result = search rules in (
      fill_more _ _ _ _ _ _ c.loop-k-test.true c.requires c.loop-k.invariant.0 ((rw (to_z-of_z fit) at c.above.ensures) ∙ ap pos_part x.ensures),
      fill_more _ _ _ _ _ _ c.loop-k-test.true c.requires c.loop-k.invariant.1 ((rw (to_z-of_z fit) at c.below.ensures) ∙ ap neg_part x.ensures),
    )
