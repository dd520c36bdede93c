use Rattle.std.proofs.Common.{◌∙◌}
use Rattle.wheel_pattern.specs.Keys.{all_keys}
use Rattle.wheel_pattern.proofs.Names.{names-only}
use Rattle.wheel_pattern.proofs.keys.has_known_keys.Goals as goal

pub returns : goal.returns
returns c = c.all_keys_known.ensures.keys ∙ names-only all_keys c.args.table.now.entries
