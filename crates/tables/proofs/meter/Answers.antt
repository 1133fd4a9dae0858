-- `meter` hands on the four lists, which stand one after another among the readings.
use Rattle.tables.proofs.MeterCommand.{registers_are, metered_as}
use Rattle.tables.proofs.meter.Goals as goal

pub returns : goal.returns
returns c =
    let lists = registers_are c.args.rest.now c.args.supply c.requires.0 c.readings_of-readings.ensures in
    metered_as lists c.injections.ensures
