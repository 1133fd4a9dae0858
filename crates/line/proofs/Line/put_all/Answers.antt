-- `put_all` adds the text of each item.
use native.Mathlib.Omega.{arith}
use mathlib.Core.Path.{subst}
use Rattle.line.specs.Inside.{Adds}
use Rattle.line.proofs.Adding.{items_more, items_room, items_all}
use Rattle.line.proofs.Line.put_all.Goals as goal

pub put-requires : goal.put-requires
put-requires g c = items_room _ _ _ c.loop-item-test.true c.loop-item.invariant c.requires

pub loop-item-preserved : goal.loop-item-preserved
loop-item-preserved g c = items_more _ _ _ c.item-item.result c.loop-item-test.true c.loop-item.invariant (subst (λ x. Adds (g.T.Item.text x) g.T.Item.most c.loop-item.self c.put.new.line) c.item-item.is c.put.ensures)

pub returns : goal.returns
returns g c = items_all _ _ _ (omega arith) c.loop-item.invariant
