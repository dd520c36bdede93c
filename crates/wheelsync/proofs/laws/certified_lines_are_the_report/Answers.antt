use Rattle.wheelsync.proofs.CertifiedLines.{certified_lines_are_the_report}
use Rattle.wheelsync.proofs.laws.certified_lines_are_the_report.Goals as goal

pub returns : goal.returns
returns c = certified_lines_are_the_report
