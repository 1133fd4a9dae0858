-- The walk back: x is moved on the way from the goal to `at`, and every branch of the rest still has it.
use borrow.Author.Rules.{rules}
use native.Mathlib.Omega.{arith}
use Rattle.reroute.proofs.Moving.{going_start, going_end}
use Rattle.reroute.proofs.Moving.{forth_room, forth_sum, going_forth, back_room, back_sum, going_back}
use Rattle.reroute.proofs.shift.Goals as goal
use Rattle.reroute.proofs.shift.Goals.{then-far-at, else-far-at}

pub loop-wires-init : goal.loop-wires-init
loop-wires-init c = going_start c.requires (search rules) (search rules) (search rules)

pub returns-then-mark-eq1 : goal.returns-then-mark-eq1
returns-then-mark-eq1 c = going_end c.loop-wires.invariant (rw c.from-mark.ensures at c.if-mark-eq1.true)

pub overflow_sub-latent : goal.overflow_sub-latent
overflow_sub-latent c =
    let m = c.from-mark.ensures in
    rw m (forth_room c.loop-wires.invariant (rw m at c.if-mark-eq1.false) (rw (c.from-far.ensures, m) at c.if-far-at.true))

pub overflow_add-latent : goal.overflow_add-latent
overflow_add-latent c =
    let m = c.from-mark.ensures in
    let sum = forth_sum c.loop-wires.invariant (rw m at c.if-mark-eq1.false) (rw (c.from-far.ensures, m) at c.if-far-at.true) in
    rw m (omega (arith, sum))

pub overflow_add-latent-else-far-at : goal.overflow_add-latent-else-far-at
overflow_add-latent-else-far-at c =
    let m = c.from-mark.ensures in
    let sum = back_sum c.loop-wires.invariant (rw m at c.if-mark-eq1.false) (rw (c.from-far.ensures, m) at c.if-far-at.false) in
    rw m (omega (arith, sum))

pub overflow_sub-latent-else-far-at : goal.overflow_sub-latent-else-far-at
overflow_sub-latent-else-far-at c =
    let m = c.from-mark.ensures in
    rw m (back_room c.loop-wires.invariant (rw m at c.if-mark-eq1.false) (rw (c.from-far.ensures, m) at c.if-far-at.false))

pub loop-wires-preserved : goal.loop-wires-preserved
loop-wires-preserved c =
    let G = c.loop-wires.invariant in
    let m = c.from-mark.ensures in
    let on = rw m at c.if-mark-eq1.false in
    elim c.if-far-at.branch [
      | then-far-at w ↦
          let is_at = rw (c.from-far.ensures, m) at w.if-far-at.true in
          let room = forth_room G on is_at in
          rw (w.latent-is, w.at-is, c.from-near.ensures, m) (going_forth G on is_at _ _ (omega arith) (omega arith))
      | else-far-at w ↦
          let is_at = rw (c.from-far.ensures, m) at w.if-far-at.false in
          let room = back_room G on is_at in
          rw (w.latent-is, w.at-is, c.from-far.ensures, m) (going_back G on is_at _ _ (omega arith) (omega arith))
    ]
