-- `fill_flow` writes the limit less what is latent ahead for each branch, and nothing beyond the branches.
use mathlib.Core.Path.{◌≡◌}
use Prim.Native.Nat.{◌≤◌}
use lib.ListN.{length}
use lib.IntN.{pos, ◌-ℤ◌}
use Rattle.rows.specs.Row.{nth, headed}
use Rattle.state.specs.Inside.{Fillable}
use Rattle.state.proofs.fill_flow.Given as goal

abbrev pub invariant-loop-k : goal.invariant-loop-k
invariant-loop-k l =
    Fillable l.branches l.live l.ahead (length l.initial.flow) × (l.k ≤ l.branches) × (length l.flow ≡ length l.initial.flow) × (l.flow ≡ headed l.k (λ j. pos (nth l.live j) -ℤ pos (nth l.ahead j)) l.initial.flow)
