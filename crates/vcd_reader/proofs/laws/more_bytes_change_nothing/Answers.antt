use Rattle.vcd_reader.proofs.MoreBytes.{faults_stay, instants_stay}
use Rattle.vcd_reader.proofs.laws.more_bytes_change_nothing.Goals as goal

pub returns-clause-instants : goal.returns-clause-instants
returns-clause-instants c = instants_stay

pub returns-clause-fault : goal.returns-clause-fault
returns-clause-fault c = faults_stay
