-- `fill_injections` fills a table with the injections.
use borrow.Author.Rules.{sfits_of}
use mir.Syntax.{w32}
use mir.Val.{SFits}
use mir.Facts.{to_z-of_z}
use Rattle.book.proofs.Filling.{fill_start, fill_more}
use Rattle.book.proofs.fill_injections.Goals as goal

pub loop-k-init : goal.loop-k-init
loop-k-init c = fill_start _ _ _

pub loop-k-preserved : goal.loop-k-preserved
loop-k-preserved c =
    let fit : SFits w32 c.injection_at.result = sfits_of c.injection_at.type_inv in
    rw (to_z-of_z fit) (fill_more _ _ _ _ _ _ c.loop-k-test.true c.requires.1 c.loop-k.invariant c.injection_at.ensures)
