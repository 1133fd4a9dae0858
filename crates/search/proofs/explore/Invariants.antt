-- The scan: every queued bus's branches are walked once, in rising number. The laws of `Scan` carry it; each way out is one law of `Answering`.
use Prim.Native.Nat.{◌-◌}
use Rattle.search.specs.InsideLinks.{branch_of}
use Rattle.search.proofs.Scan.{Scan, Turn}
use Rattle.search.proofs.explore.Given as goal

abbrev pub invariant-loop-side : goal.invariant-loop-side
invariant-loop-side l =
    Turn l.wires l.work.latent l.roles l.tree.marks l.tree.queue l.tree.room l.tree.origin l.at l.tree.count l.here l.low l.side

abbrev pub decreases-loop-side : goal.decreases-loop-side
decreases-loop-side l = 256 - branch_of l.side

abbrev pub invariant-scan : goal.invariant-scan
invariant-scan l =
    Scan l.wires l.work.latent l.roles l.tree.marks l.tree.queue l.tree.room l.tree.origin l.at l.tree.count

abbrev pub decreases-scan : goal.decreases-scan
decreases-scan l = 128 - l.at
