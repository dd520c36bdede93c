use Rattle.image_layout.proofs.Images.{entry_below}
use Rattle.image_format.proofs.view.View.entry.Goals as goal

pub returns-clause-within : goal.returns-clause-within
returns-clause-within c = rw c.entry.ensures (entry_below _ c.args.self.now.keeps c.args.self.now.laid.counts _ _ c.requires.state c.requires.column)
