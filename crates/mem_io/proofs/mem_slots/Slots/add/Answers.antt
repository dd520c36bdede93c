use Rattle.std.proofs.Common.{subst, map, sym, ap, ◌∙◌}
use Rattle.std.proofs.lemmas.List.{map-append}
use Rattle.mem_io.specs.Named.{SlotsNamed}
use Rattle.mem_io.proofs.Names.{slots_push}
use Rattle.mem_io.proofs.mem_slots.Slots.add.Goals as goal

pub returns-clause-named : goal.returns-clause-named
returns-clause-named c = λ names old new.
    subst (SlotsNamed names) (sym (ap (map (λ x. x.file)) c.push_reserved.ensures.items ∙ map-append (λ x. x.file) c.args.self.now.list.items _)) (slots_push names (map (λ x. x.file) c.args.self.now.list.items) c.args.file old new)
