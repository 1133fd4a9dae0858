-- The scan: every queued bus's branches are walked once, in rising number. The laws of `Scan` carry it; each way out is one law of `Answering`.
use Prim.Native.Nat.{◌<◌}
use mathlib.Core.Path.{refl, sym}
use native.Mathlib.Omega.{arith}
use borrow.Author.Tests.{eqb-true}
use Rattle.rows.specs.Row.{nth}
use Rattle.search.proofs.Scan.{scan_start, far_row}
use Rattle.search.proofs.Scan.{turn_skip, turn_room, turn_tree, turn_hit, turn_mark, turn_end}
use Rattle.search.proofs.Answering.{stopped, searched_group, searched_route}
use Rattle.search.proofs.explore.Goals as goal
use Rattle.search.proofs.explore.Goals.{then-spare-gt0+then-tree-to-eq0+else-roles-to-eq2, else-spare-gt0, else-spare-gt0-via-then-spare-gt0+else-tree-to-eq0, else-spare-gt0-via-else-spare-gt0}
use Rattle.search.proofs.explore.Goals.{then-at-tree, else-at-tree+then-loop-side-test+then-spare-gt0+then-tree-to-eq0+then-roles-to-eq2}

pub scan-init : goal.scan-init
scan-init c = scan_start _ c.requires.linked c.seed-tree.ensures

pub bounds-tree-to-then-tree-to-eq0 : goal.bounds-tree-to-then-tree-to-eq0
bounds-tree-to-then-tree-to-eq0 c =
    let in_row : c.loop-side.side < 512 = omega arith in
    let bus_there : nth c.args.wires.far c.loop-side.side < 128 = far_row c.loop-side.invariant in_row in
    omega (arith, bus_there)

pub bounds-tree-tail : goal.bounds-tree-tail
bounds-tree-tail c =
    let in_row : c.loop-side.side < 512 = omega arith in
    let place_left : c.loop-side.tree.count < 128 = turn_room c.loop-side.invariant in_row refl (sym c.from-to.ensures) c.away-spare.ensures
    c.if-spare-gt0.true
    (eqb-true _ _ c.if-tree-to-eq0.true-raw) _ c.min-least.ensures in
    omega (arith, place_left)

pub bounds-tree-to-then-tree-to-eq0-2 : goal.bounds-tree-to-then-tree-to-eq0-2
bounds-tree-to-then-tree-to-eq0-2 c =
    let in_row : c.loop-side.side < 512 = omega arith in
    let bus_there : nth c.args.wires.far c.loop-side.side < 128 = far_row c.loop-side.invariant in_row in
    omega (arith, bus_there)

pub bounds-tree-to-then-tree-to-eq0-3 : goal.bounds-tree-to-then-tree-to-eq0-3
bounds-tree-to-then-tree-to-eq0-3 c =
    let in_row : c.loop-side.side < 512 = omega arith in
    let bus_there : nth c.args.wires.far c.loop-side.side < 128 = far_row c.loop-side.invariant in_row in
    omega (arith, bus_there)

pub bounds-roles-to : goal.bounds-roles-to
bounds-roles-to c =
    let in_row : c.loop-side.side < 512 = omega arith in
    let bus_there : nth c.args.wires.far c.loop-side.side < 128 = far_row c.loop-side.invariant in_row in
    omega (arith, bus_there)

pub loop-side-preserved : goal.loop-side-preserved
loop-side-preserved c =
    let in_row : c.loop-side.side < 512 = omega arith in
    let R = c.loop-side.invariant in
    let s = c.away-spare.ensures in
    rw c.from-side-in-loop-side.ensures (elim c.if-spare-gt0.branch [
      | then-spare-gt0+then-tree-to-eq0+else-roles-to-eq2 w ↦
          turn_mark R in_row refl (sym c.from-to.ensures) s w.if-spare-gt0.true w.if-tree-to-eq0.true _ w.min-least.ensures w.if-roles-to-eq2.false w.tree-is
      | else-spare-gt0 w ↦
          rw w.tree-is (turn_skip R in_row refl (sym c.from-to.ensures) s (
          elim w.else-spare-gt0.branch [
            | else-spare-gt0-via-then-spare-gt0+else-tree-to-eq0 u ↦ λ g. u.if-tree-to-eq0.false
            | else-spare-gt0-via-else-spare-gt0 u ↦ λ g. absurd (omega arith)
          ]))
    ])

pub scan-preserved : goal.scan-preserved
scan-preserved c = turn_end c.loop-side.invariant (omega arith)

pub returns : goal.returns
returns c =
    elim c.if-at-tree.branch [
      | then-at-tree w ↦ searched_group c.scan.invariant w.if-at-tree.true c.packed.ensures w.tree-is w.answer-is
      | else-at-tree+then-loop-side-test+then-spare-gt0+then-tree-to-eq0+then-roles-to-eq2 w ↦
          let R = w.loop-side.invariant in
          let t = w.loop-side-test.true in
          let z = w.if-tree-to-eq0.true in
          searched_route
          (turn_tree R t refl (sym w.from-to.ensures) w.away-spare.ensures w.if-spare-gt0.true z _ w.min-least.ensures)
          (turn_hit R t refl (sym w.from-to.ensures) w.away-spare.ensures w.if-spare-gt0.true z _ w.min-least.ensures w.if-roles-to-eq2.true)
          (stopped _ _ R.scan (turn_room R t refl (sym w.from-to.ensures) w.away-spare.ensures w.if-spare-gt0.true z _ w.min-least.ensures))
          c.packed.ensures w.tree-is (rw w.from.ensures at w.answer-is)
    ]
