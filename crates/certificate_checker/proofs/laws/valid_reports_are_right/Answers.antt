use Rattle.certificate_checker.proofs.RightReports.{valid_is_right}
use Rattle.certificate_checker.proofs.laws.valid_reports_are_right.Goals as goal

pub returns : goal.returns
returns c = valid_is_right
