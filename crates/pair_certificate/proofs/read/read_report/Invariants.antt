use Rattle.std.proofs.Common.{length}
use Rattle.pair_certificate.specs.Readings.{IsReportLine}
use Rattle.pair_certificate.proofs.ReadLines.{HasRead}
use Rattle.pair_certificate.proofs.read.read_report.Given as goal

abbrev pub invariant-loop-rest : goal.invariant-loop-rest
invariant-loop-rest l = HasRead IsReportLine l.bytes l.rest l.reports.items

abbrev pub decreases-loop-rest : goal.decreases-loop-rest
decreases-loop-rest l = length l.rest
