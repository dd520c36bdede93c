use Rattle.sound_walk.proofs.Known.{known_report_is_right}
use Rattle.sound_walk.proofs.Walks.{each_is_right, report_is_right}
use Rattle.sound_walk.proofs.laws.report_is_right.Goals as goal

pub returns-clause-each : goal.returns-clause-each
returns-clause-each c = each_is_right

pub returns-clause-whole : goal.returns-clause-whole
returns-clause-whole c = report_is_right

pub returns-clause-known : goal.returns-clause-known
returns-clause-known c = known_report_is_right
