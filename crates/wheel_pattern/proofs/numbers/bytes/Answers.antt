use Rattle.std.proofs.Common.{ap, sym, ◌∙◌, arith}
use Rattle.std.proofs.lemmas.List.{drop_all}
use Rattle.toml.specs.View.{items_view}
use Rattle.wheel_pattern.specs.Values.{all_below}
use Rattle.wheel_pattern.proofs.Gathered.{after_front, after_front-none, after_front-done, after_front-push, all_below-drop}
use Rattle.wheel_pattern.proofs.numbers.bytes.Goals as goal

pub returns-in-None : goal.returns-in-None
returns-in-None c =
    let e = all_below-drop 256 c.deref-item-items.result.now c.loop-item.item-index c.item-item.result (omega arith) in
    let bad = rw (← c.item-item.is, ← c.in-None.ensures) at e in
    let none = c.loop-item.invariant ∙ ap (after_front c.loop-item.found.items) bad ∙ after_front-none c.loop-item.found.items in
    rw (← c.in-Some.ensures, ← c.deref-item-items.ensures.value) (sym none)

pub loop-item-preserved : goal.loop-item-preserved
loop-item-preserved c =
    let e = all_below-drop 256 c.deref-item-items.result.now c.loop-item.item-index c.item-item.result (omega arith) in
    let good = rw (← c.item-item.is, ← c.in-Some-byte.ensures) at e in
    rw (c.in_ok-push-in-Some-byte.ensures.items)
    (c.loop-item.invariant ∙ ap (after_front c.loop-item.found.items) good
    ∙ sym (after_front-push c.loop-item.found.items c.in-Some-byte.number _))

pub returns : goal.returns
returns c =
    let end = ap (λ vs. after_front c.loop-item.found.items (all_below 256 (items_view vs))) (drop_all c.loop-item.item-index c.deref-item-items.result.now (omega arith)) in
    let all = c.loop-item.invariant ∙ end ∙ after_front-done c.loop-item.found.items in
    rw (← c.in-Some.ensures, ← c.deref-item-items.ensures.value) (sym all)
