use Rattle.std.proofs.Common.{ap}
use Rattle.std.proofs.Math.Seq.{map-set_same}
use Rattle.std.proofs.lemmas.List.{map-set}
use Rattle.mem_io.proofs.mem_slots.Slots.move_to.Goals as goal

pub returns-clause-ways : goal.returns-clause-ways
returns-clause-ways c = map-set_same (λ x. x.way) _ _ _ c.index_mut-slot.result.now (ap (λ x. x.way) c.index_mut-slot.ensures.value)

pub returns-clause-files : goal.returns-clause-files
returns-clause-files c = map-set_same (λ x. x.file) _ _ _ c.index_mut-slot.result.now (ap (λ x. x.file) c.index_mut-slot.ensures.value)

pub returns-clause-places : goal.returns-clause-places
returns-clause-places c = map-set (λ x. x.at) _ _ _
