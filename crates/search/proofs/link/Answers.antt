-- The branches from k on are linked; k falls.
use native.Mathlib.Omega.{arith}
use Rattle.search.proofs.Links.{chained_none, chain_falls}
use Rattle.search.proofs.link.Goals as goal

pub loop-k-init : goal.loop-k-init
loop-k-init c = chained_none c.requires

pub loop-k-preserved : goal.loop-k-preserved
loop-k-preserved c = rw (c.from-a.ensures, c.from-b.ensures) (chain_falls c.loop-k.invariant (omega arith))
