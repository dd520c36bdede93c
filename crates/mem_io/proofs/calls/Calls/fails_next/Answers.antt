use Rattle.std.proofs.Common.{rules, ap, ◌∙◌, nat_eq}
use Rattle.std.specs.List.{list_any}
use Rattle.mem_io.proofs.Numbers.{all_below, none_now}
use Rattle.mem_io.proofs.calls.Calls.fails_next.Goals as goal

pub returns-clause-calm : goal.returns-clause-calm
returns-clause-calm c = λ h.
    c.contains.ensures.value ∙ ap (list_any (λ x. nat_eq x c.args.self.now.next)) c.deref.ensures.value ∙ none_now c.args.self.now.next c.args.self.now.fails.items h

pub returns-clause-stays : goal.returns-clause-stays
returns-clause-stays c = all_below c.args.self.now.next c.saturating_add-self.result c.args.self.now.fails.items (search rules)
