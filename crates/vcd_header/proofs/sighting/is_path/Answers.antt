use Rattle.std.proofs.Common.{◌<◌, length, sym, ◌∙◌, arith}
use Rattle.vcd_header.proofs.Sightings.{no_point, no_scope, split_at, through_scope}
use Rattle.vcd_header.proofs.sighting.is_path.Goals as goal

pub returns-in_default : goal.returns-in_default
returns-in_default c =
    let inside : c.scopes.scope-index < length c.args.scopes.now = omega arith in
    let split = split_at c.args.scopes.now c.scopes.scope-index c.as_slice.result.now c.scope-item.result inside (c.as_slice.ensures ∙ c.scope-item.is) in
    sym (no_scope c.args.scopes.now c.scopes.scope-index c.as_slice.result.now c.args.own.now c.scopes.rest.now split c.in_default.ensures.cases) ∙ c.scopes.invariant

pub returns-in_default-strip_prefix : goal.returns-in_default-strip_prefix
returns-in_default-strip_prefix c =
    let inside : c.scopes.scope-index < length c.args.scopes.now = omega arith in
    let split = split_at c.args.scopes.now c.scopes.scope-index c.as_slice.result.now c.scope-item.result inside (c.as_slice.ensures ∙ c.scope-item.is) in
    let begins = c.in-Some.ensures.cases in
    sym (no_point c.args.scopes.now c.scopes.scope-index c.as_slice.result.now c.args.own.now c.scopes.rest.now c.in-Some.behind.now c.as_slice-in-scopes.result.now split begins.0 begins.1 c.as_slice-in-scopes.ensures c.in_default-strip_prefix.ensures.cases)
    ∙ c.scopes.invariant

pub scopes-preserved : goal.scopes-preserved
scopes-preserved c =
    let inside : c.scopes.scope-index < length c.args.scopes.now = omega arith in
    let split = split_at c.args.scopes.now c.scopes.scope-index c.as_slice.result.now c.scope-item.result inside (c.as_slice.ensures ∙ c.scope-item.is) in
    let begins = c.in-Some.ensures.cases in
    let point = c.in-Some-strip_prefix.ensures.cases in
    through_scope c.args.scopes.now c.scopes.scope-index c.as_slice.result.now c.args.own.now c.scopes.rest.now c.in-Some.behind.now c.as_slice-in-scopes.result.now c.in-Some-strip_prefix.next.now split begins.0 begins.1
    c.as_slice-in-scopes.ensures point.0 point.1
    ∙ c.scopes.invariant
