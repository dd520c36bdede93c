use Rattle.vcd_header.proofs.Sightings.{codes_found}
use Rattle.vcd_header.proofs.signals.signals_of.Goals as goal

pub returns : goal.returns
returns c = codes_found c.all_found.result c.args.wanted.now c.args.header.now c.all_found.ensures
