use Rattle.certificate_checker.proofs.ExactExists.{exact_exists}
use Rattle.certificate_checker.proofs.ExactOnce.{exact_once}
use Rattle.std.proofs.Common.{reverse, arith}
use Rattle.certificate_checker.proofs.laws.exact_certificates_exist.Goals as goal

pub returns-clause-exist : goal.returns-clause-exist
returns-clause-exist c = exact_exists

pub returns-clause-one : goal.returns-clause-one
returns-clause-one c = λ w is vs us cs ds window other wheel x y. exact_once w (reverse is) vs us cs ds window other (omega (arith, wheel.crank_edge)) x y
