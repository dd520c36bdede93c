-- The numbers of the rules.
use Rattle.std.specs.Prelude.{ℕ}
use Rattle.certificate_checker.specs.declared.rule.Rule.{Rule}
use Rattle.certificate_checker.specs.declared.rule.Rule.TheVariants.{Counts, ReportLine, CertLine, Cover, Steps}
use Rattle.certificate_checker.specs.declared.rule.Rule.TheVariants.{Position, Starts, LeastEnds, Loss}

-- the number of a rule, from 1, in the order in which the rules are tested
abbrev pub number_of : Rule → ℕ
number_of Counts = 1
number_of ReportLine = 2
number_of CertLine = 3
number_of Cover = 4
number_of Steps = 5
number_of Position = 6
number_of Starts = 7
number_of LeastEnds = 8
number_of Loss = 9
