-- `readings_of` fills the first numbers with the readings of the command.
use Rattle.book.proofs.Filling.{fill_start, fill_more, fill_end}
use Rattle.tables.proofs.readings_of.Goals as goal

pub loop-i-init : goal.loop-i-init
loop-i-init c = fill_start _ _ _

pub loop-i-preserved : goal.loop-i-preserved
loop-i-preserved c =
    fill_more _ _ _ _ _ _ c.loop-i-test.true c.requires.0 c.loop-i.invariant c.four.ensures

pub returns : goal.returns
returns c = fill_end _ _ _ _ _ c.loop-i-test.false c.loop-i.invariant
