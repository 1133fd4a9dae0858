-- The loop over the commands: what is left of the stream stands within the input.
use mathlib.Core.Path.{◌≡◌}
use Prim.Native.Nat.{◌≤◌}
use lib.ListN.{length}
use Rattle.trial.proofs.main.Given as goal

abbrev pub invariant-loop : goal.invariant-loop
invariant-loop l = (l.at ≤ l.end) × (l.end ≤ 65536) × (length l.input ≡ 65536)
