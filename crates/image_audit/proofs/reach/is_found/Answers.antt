use Rattle.image_audit.proofs.Found.{found_test}
use Rattle.image_audit.proofs.reach.is_found.Goals as goal

pub returns : goal.returns
returns c = found_test c.args.found.now.keys c.args.state c.contains.result c.contains.ensures
