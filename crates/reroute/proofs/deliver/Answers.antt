-- What one bus brings more and another less is rerouted between the two.
use native.Mathlib.Omega.{arith}
use Rattle.reroute.proofs.Delivering.{between_ready, delivered}
use Rattle.reroute.proofs.deliver.Goals as goal

pub reroute-requires : goal.reroute-requires
reroute-requires c = rw c.between.ensures (between_ready c.requires _ (omega (arith, c.requires.small)))

pub returns : goal.returns
returns c = delivered c.requires (rw c.between.ensures at c.reroute.ensures) c.judge.ensures
