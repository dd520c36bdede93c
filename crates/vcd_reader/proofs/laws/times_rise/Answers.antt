use Rattle.vcd_reader.proofs.RisingStamps.{instants_rise, instants_within, stamps_rise}
use Rattle.vcd_reader.proofs.laws.times_rise.Goals as goal

pub returns-clause-stamps : goal.returns-clause-stamps
returns-clause-stamps c = stamps_rise

pub returns-clause-instants : goal.returns-clause-instants
returns-clause-instants c = instants_rise

pub returns-clause-within : goal.returns-clause-within
returns-clause-within c = instants_within
