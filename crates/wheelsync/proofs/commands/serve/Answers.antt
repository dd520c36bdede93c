use Rattle.std.proofs.Common.{◌≡◌, ◌∙◌, ℕ, List, Option, ap, sym, subst, map, string_bytes, option_and_then, None}
use Rattle.std.specs.Prelude.{Result}
use Rattle.std.specs.Option.{option_map}
use Rattle.command_words.specs.Words.{Order, order_of, command_of, writes_of}
use Rattle.shelf_traits.specs.Shelf.{View}
use Rattle.tap_board.specs.Meanings.{Meaning}
use Rattle.run_ends.specs.declared.cause.Cause.{Cause}
use Rattle.run_ends.specs.declared.cause.Done.{Done}
use Rattle.run_ends.specs.Serving.{Stream, Served}
use Rattle.run_ends.proofs.Serving.{no_command, handed_on}
use Rattle.certified_replay.proofs.Shutting.{untold}
use Rattle.wheelsync.specs.Commands.{IsWork}
use Rattle.wheelsync.proofs.commands.serve.Goals as goal

-- what serving comes to, by the order that the words are
as_order : (v w : View) (taps : List Meaning) (old new : Stream) (tails : List ℕ) (end : Result Done Cause) (order found : Option Order) → order ≡ found → Served (IsWork v taps order) (option_and_then writes_of order) v w old new tails end
    → Served (IsWork v taps found) (option_and_then writes_of found) v w old new tails end
as_order v w taps old new tails end order found is s = subst (λ (o : Option Order). Served (IsWork v taps o) (option_and_then writes_of o) v w old new tails end) is s

pub returns-in_default-clause-served : goal.returns-in_default-clause-served
returns-in_default-clause-served g c =
    let none : None ≡ command_of (map string_bytes c.args.words.now) = sym (ap (option_map order_of) c.in_default.is) ∙ c.read_command.ensures.order in
    as_order _ _ _ _ _ _ _ _ _ none (untold _ _ _ _ _ _ _ _ _ c.without_tails.ensures.end c.without_tails.ensures.tails (no_command None (g.S.Shelf.view c.args.shelf.now) _))

pub returns-clause-served : goal.returns-clause-served
returns-clause-served g c =
    as_order _ _ _ _ _ _ _ _ _ c.in-Some.ensures.order
    (handed_on _ _ _ _ _ _ _ _ _ _ c.do_command-end.ensures c.hand_on.ensures.handed)
