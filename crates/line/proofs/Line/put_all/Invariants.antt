-- `put_all` adds the text of each item.
use Prim.Native.Nat.{◌*◌}
use lib.ListN.{take}
use Rattle.std.specs.List.{flat_map}
use Rattle.line.specs.Inside.{Adds}
use Rattle.line.proofs.Line.put_all.Given as goal

abbrev pub invariant-loop-item : goal.invariant-loop-item
invariant-loop-item g l = Adds (flat_map g.T.Item.text (take l.item-index l.items)) (g.T.Item.most * l.item-index) l.initial.self l.self
