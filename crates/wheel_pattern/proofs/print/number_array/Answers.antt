use Rattle.std.proofs.Common.{◌≡◌, ◌∙◌, take, get_or, ap, sym, arith}
use Rattle.std.proofs.lemmas.List.{take_more, take_all}
use Rattle.toml.specs.Data.{array, push_item, Items}
use Rattle.toml.specs.View.{items_view, view}
use Rattle.toml.proofs.Views.{items_view-push}
use Rattle.wheel_pattern.specs.Printed.{numbers}
use Rattle.wheel_pattern.proofs.GrownTables.{numbers-push}
use Rattle.wheel_pattern.proofs.print.number_array.Goals as goal

pub loop-item-preserved : goal.loop-item-preserved
loop-item-preserved c =
    let done = take c.loop-item.item-index c.args.items.now in
    let x = get_or c.args.items.now c.loop-item.item-index 0 in
    ap items_view c.in_ok-push.ensures.items ∙ items_view-push c.loop-item.values.items c.from.result
    ∙ ap (λ (xs : Items). push_item xs (view c.from.result)) c.loop-item.invariant
    ∙ ap (push_item (numbers done)) c.from.ensures ∙ sym (numbers-push done x)
    ∙ ap numbers (sym (take_more c.args.items.now c.loop-item.item-index 0 (omega arith)))

pub returns : goal.returns
returns c =
    let all : take c.loop-item.item-index c.args.items.now ≡ c.args.items.now = take_all c.loop-item.item-index c.args.items.now (omega arith) in
    c.from-2.ensures ∙ ap array (c.loop-item.invariant ∙ ap numbers all)
