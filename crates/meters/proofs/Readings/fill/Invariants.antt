-- `fill` writes the injection of every bus, with the supply's own at its place.
use Rattle.meters.specs.Inside.{read}
use Rattle.meters.proofs.Filling.{Filling}
use Rattle.meters.proofs.Readings.fill.Given as goal

abbrev pub invariant-loop-i : goal.invariant-loop-i
invariant-loop-i l = Filling (read l.self) l.own l.initial.out l.out l.i
