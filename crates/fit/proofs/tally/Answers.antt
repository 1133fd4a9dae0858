-- The loop over the branches: x at the one end, y at the other.
use borrow.Author.Rules.{rules}
use mathlib.Core.Path.{refl}
use Rattle.fit.proofs.Tallying.{tallying_none, tallying_more}
use Rattle.fit.proofs.tally.Goals as goal

pub loop-k-init : goal.loop-k-init
loop-k-init c = tallying_none _ _ _ _ _ _ c.requires (search rules)

pub loop-k-preserved : goal.loop-k-preserved
loop-k-preserved c =
    rw (c.from.ensures, c.from-in-loop-k.ensures) (tallying_more _ _ _ _ _ _ c.loop-k.invariant c.loop-k-test.true refl refl)
