-- `is_balanced` is true exactly where what enters is what leaves.
use borrow.Author.Rules.{sfits_of}
use mathlib.Core.Path.{refl}
use mir.Syntax.{w32}
use mir.Val.{SFits}
use mir.Facts.{to_z-of_z}
use Rattle.layout.proofs.Balanced.{room_start, room_more, tally_start, tally_more}
use Rattle.layout.proofs.is_balanced.Goals as goal

pub loop-k-init : goal.loop-k-init
loop-k-init g c = (room_start _ (refl, refl), λ h t. tally_start h _ _ (refl, refl))

pub loop-k-preserved : goal.loop-k-preserved
loop-k-preserved g c =
    let fit : SFits w32 c.injection.result = sfits_of c.injection.type_inv in
    let l = c.loop-k-test.true in
    let counted = rw (to_z-of_z fit) at c.count_in-sums.ensures in (
      room_more _ _ _ _ (c.requires.small _ l _ c.injection.ensures) c.loop-k.invariant.0 counted,
      λ h t. tally_more h _ _ _ _ _ l (t _ l _ c.injection.ensures) (c.loop-k.invariant.1 h t) counted,
    )
