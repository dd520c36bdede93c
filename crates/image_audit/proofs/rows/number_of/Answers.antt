use Rattle.std.proofs.Common.{sym}
use Rattle.subset_build.proofs.Limits.{found_number}
use Rattle.image_audit.proofs.RowLaws.{no_number}
use Rattle.image_audit.proofs.rows.number_of.Goals as goal

pub returns-in-Some : goal.returns-in-Some
returns-in-Some c = found_number c.args.states.now.keys c.in-Some.number c.args.state.now (sym c.in-Some.ensures.index)

pub returns-in-None : goal.returns-in-None
returns-in-None c = no_number c.args.states.now.keys c.args.state.now (sym c.in-None.ensures.found)
