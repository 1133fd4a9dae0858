-- The loop over the branches: each number against its limit.
use Rattle.fit.proofs.Measuring.{Testing}
use Rattle.fit.proofs.latents.Given as goal

abbrev pub invariant-loop-k : goal.invariant-loop-k
invariant-loop-k l = Testing l.branches l.flow l.live l.ahead l.back l.k
