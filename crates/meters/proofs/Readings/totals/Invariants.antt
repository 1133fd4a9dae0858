-- `totals` gives what all buses but the supply import and export, or that an advance among them is too large.
use Rattle.meters.specs.Inside.{read}
use Rattle.meters.proofs.TotalsSoFar.{Adding}
use Rattle.meters.proofs.Readings.totals.Given as goal

abbrev pub invariant-loop-i : goal.invariant-loop-i
invariant-loop-i l = Adding (read l.self) l.i l.imported l.exported
