use Rattle.certificate_checker.proofs.ExactValid.{exact_is_valid}
use Rattle.certificate_checker.proofs.laws.exact_certificates_are_valid.Goals as goal

pub returns : goal.returns
returns c = exact_is_valid
