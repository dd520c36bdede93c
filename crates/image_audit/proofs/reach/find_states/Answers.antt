use Rattle.std.proofs.Common.{ap, ◌∙◌, arith, nat_eq}
use Rattle.indexmap.specs.IndexSet.{insert_key}
use Rattle.image_audit.proofs.Found.{first_found, row_found, all_found, few_found, found_within, found_at}
use Rattle.image_audit.proofs.reach.find_states.Goals as goal

pub loop-i-init : goal.loop-i-init
loop-i-init c =
    let some = c.requires.layout.header.counts.states.0 in
    let one = c.in_ok-insert.ensures.keys ∙ ap (λ l. insert_key nat_eq l 0) c.new-found.ensures.empty in
    first_found c.args.view.now.bytes.now c.insert-2.new.self.keys some (c.in_ok-insert-2.ensures.keys ∙ ap (λ l. insert_key nat_eq l 1) one)

pub add_row-requires-clause-there : goal.add_row-requires-clause-there
add_row-requires-clause-there c = found_within c.args.view.now.bytes.now c.loop-i.i c.loop-i.found.keys c.as_slice.result.now c.loop-i.i c.as_slice.ensures.keys (omega arith) c.loop-i.invariant

pub loop-i-smaller : goal.loop-i-smaller
loop-i-smaller c =
    let few = few_found c.args.view.now.bytes.now c.loop-i.i c.loop-i.found.keys c.len.ensures.unique c.loop-i.invariant in
    omega (arith, few)

pub loop-i-preserved : goal.loop-i-preserved
loop-i-preserved c =
    row_found c.args.view.now.bytes.now c.requires.layout c.loop-i.i _ c.loop-i.found.keys c.add_row.new.found.keys
    (found_at c.loop-i.found.keys c.as_slice.result.now c.loop-i.i c.as_slice.ensures.keys (omega arith)) c.in_ok-add_row.ensures c.loop-i.invariant

pub returns-clause-found : goal.returns-clause-found
returns-clause-found c = all_found c.args.view.now.bytes.now c.loop-i.i c.loop-i.found.keys (omega arith) c.loop-i.invariant
