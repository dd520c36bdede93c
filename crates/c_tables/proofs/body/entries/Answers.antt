use Rattle.std.proofs.Common.{◌++◌, ◌∷◌, [], length, ap, sym, ◌∙◌}
use Rattle.std.specs.Prelude.{if◌then◌else◌, slice_range}
use Rattle.c_tables.specs.Kept.{kept_entries}
use Rattle.c_tables.specs.Spans.{left}
use Rattle.c_tables.specs.declared.body.Part.TheVariants.{Entry, End, Misfit}
use Rattle.c_tables.specs.declared.body.Wanted.TheVariants.{CommaOrEnd}
use Rattle.c_tables.proofs.EntryParts.{as_kept, first_told, entry_pushed}
use Rattle.c_tables.proofs.EntryValues.{all_in_front, all_in_front-done, all_in_front-fault}
use Rattle.c_tables.proofs.body.entries.Goals as goal

pub tokens-preserved-in-Entry : goal.tokens-preserved-in-Entry
tokens-preserved-in-Entry c =
    let pushed = c.push.ensures.items
    ∙ ap (λ ok. if ok then c.tokens.values.items ++ c.slot_value.result ∷ [] else c.tokens.values.items) c.if-is_err.ensures.negation in
    record {
      within = c.in-Some.ensures.within;
      left = c.tokens.invariant.left
          ∙ ap (all_in_front c.tokens.values.items) (first_told c.args.source.now c.tokens.at (length c.args.source.now) c.tokens.wanted c.in-Some.token c.text_of-text.result.now Entry c.in-Some.ensures.left c.text_of-text.ensures c.in-Entry.ensures)
          ∙ entry_pushed (length c.args.source.now) c.tokens.values.items c.text_of-text.result.now (slice_range c.args.source.now c.in-Some.token.at c.in-Some.token.end) c.slot_value.result (left c.args.source.now c.in-Some.token.end) c.text_of-text.ensures c.slot_value.ensures
          ∙ ap (λ values. all_in_front values (kept_entries (length c.args.source.now) CommaOrEnd (left c.args.source.now c.in-Some.token.end))) (sym pushed);
    }

pub returns-in-Ok-clause-values : goal.returns-in-Ok-clause-values
returns-in-Ok-clause-values c =
    c.tokens.invariant.left
    ∙ ap (all_in_front c.tokens.values.items) (first_told c.args.source.now c.tokens.at (length c.args.source.now) c.tokens.wanted c.in-Some.token c.text_of-text.result.now End c.in-Some.ensures.left c.text_of-text.ensures c.in-End.ensures)
    ∙ ap (λ r. all_in_front c.tokens.values.items (as_kept r)) c.in-Ok.ensures.ok
    ∙ all_in_front-done c.tokens.values.items

pub returns-in-Err-clause-fault : goal.returns-in-Err-clause-fault
returns-in-Err-clause-fault c = λ other.
    c.tokens.invariant.left
    ∙ ap (all_in_front c.tokens.values.items) (first_told c.args.source.now c.tokens.at (length c.args.source.now) c.tokens.wanted c.in-Some.token c.text_of-text.result.now End c.in-Some.ensures.left c.text_of-text.ensures c.in-End.ensures)
    ∙ ap (λ r. all_in_front c.tokens.values.items (as_kept r)) c.in-Err.ensures.fault
    ∙ all_in_front-fault c.tokens.values.items _

pub returns-in-Misfit-clause-fault : goal.returns-in-Misfit-clause-fault
returns-in-Misfit-clause-fault c = λ other.
    c.tokens.invariant.left
    ∙ ap (all_in_front c.tokens.values.items) (first_told c.args.source.now c.tokens.at (length c.args.source.now) c.tokens.wanted c.in-Some.token c.text_of-text.result.now Misfit c.in-Some.ensures.left c.text_of-text.ensures c.in-Misfit.ensures)
    ∙ all_in_front-fault c.tokens.values.items _

pub returns-clause-fault : goal.returns-clause-fault
returns-clause-fault c = λ other.
    c.tokens.invariant.left
    ∙ ap (λ ts. all_in_front c.tokens.values.items (kept_entries (length c.args.source.now) c.tokens.wanted ts)) c.in_default.ensures
    ∙ all_in_front-fault c.tokens.values.items _
