use Rattle.wheelsync.proofs.OneReport as law
use Rattle.wheelsync.proofs.laws.one_report.Goals as goal

pub returns : goal.returns
returns c = law.one_report
