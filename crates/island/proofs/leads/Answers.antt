-- Whether anything stays of the unit tells whether a path leads on.
use native.Mathlib.Omega.{arith}
use mathlib.Core.Path.{refl}
use Rattle.reroute.proofs.Delivering.{between_ready}
use Rattle.island.proofs.Ways.{unit_ready, leading}
use Rattle.island.proofs.leads.Goals as goal

pub reroute-moved-requires : goal.reroute-moved-requires
reroute-moved-requires c = rw c.between.ensures (between_ready (unit_ready _ _ _ _ c.requires.0 c.requires.1) 1 (omega arith))

pub returns : goal.returns
returns c =
    leading _ _ _ _ c.requires.0 c.requires.1 (rw c.between.ensures at c.reroute-moved.ensures) refl
