use Rattle.image_audit.proofs.Found.{inserted}
use Rattle.image_audit.proofs.reach.add.Goals as goal

pub returns-in_ok-insert : goal.returns-in_ok-insert
returns-in_ok-insert c = inserted c.args.found.now.keys c.insert.new.self.keys c.args.state c.in_ok-insert.ensures.keys
