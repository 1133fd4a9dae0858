-- The walk back: x is moved on the way from the goal to `at`, and every branch of the rest still has it.
use Prim.Native.Nat.{◌-◌}
use Rattle.reroute.proofs.Moving.{Going}
use Rattle.reroute.proofs.shift.Given as goal

abbrev pub invariant-loop-wires : goal.invariant-loop-wires
invariant-loop-wires l =
    Going l.wires.branches l.wires.first l.wires.second l.initial.latent.ahead l.initial.latent.back l.marks l.goal l.x l.latent.ahead l.latent.back l.at l.steps

abbrev pub decreases-loop-wires : goal.decreases-loop-wires
decreases-loop-wires l = 128 - l.steps
