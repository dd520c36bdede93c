use Rattle.std.proofs.Common.{refl, ◌∙◌, []}
use Rattle.vcd_reader.proofs.changes.Changes.new.Goals as goal

pub returns : goal.returns
returns c = record { time = refl; levels = c.open.ensures.stands [] c.new-levels.ensures.stands; watched = c.open.ensures.watch ∙ c.new-levels.ensures.watch }
