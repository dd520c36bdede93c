use Rattle.std.proofs.Common.{◌≡◌, ◌∙◌, ◌≤◌, Some, ap, sym, subst, List, ℕ, string_bytes}
use Rattle.toml.specs.Data.{members_depth}
use Rattle.toml.specs.Parse.{parse_document}
use Rattle.toml.specs.View.{table_view}
use Rattle.wheel_pattern.specs.Lookups.{IsDocumentOf}
use Rattle.wheel_pattern.specs.Printed.{members_of_parts}
use Rattle.wheel_pattern.proofs.PrintedReadBack.{parts-depth, reads-back}
use Rattle.wheel_pattern.proofs.print.write_wheel.Goals as goal

-- the printed bytes are the wheel's document
printed : goal.returns-clause-document
printed c =
    let p = c.args.wheel.now.parts in
    let table : table_view c.in_ok-table.table ≡ members_of_parts p = c.in_ok-table.ensures ∙ ap members_of_parts c.parts.ensures in
    let deep : members_depth (table_view c.in_ok-table.table) ≤ 80 = rw table (parts-depth p) in
    let same : c.as_bytes.result.now ≡ string_bytes c.in-Ok.text = c.as_bytes.ensures.value ∙ c.as_str.ensures.value in
    let parsed : parse_document c.as_bytes.result.now ≡ Some (members_of_parts p) =
    ap parse_document same ∙ c.in-Ok.ensures.reads_back deep ∙ ap Some table in
    subst (λ (bytes : List ℕ). IsDocumentOf bytes (members_of_parts p)) (sym c.in_ok-bytes.ensures.items) (c.as_bytes.ensures.utf8, parsed)

pub returns-clause-document : goal.returns-clause-document
returns-clause-document c = printed c

pub returns-clause-wheel : goal.returns-clause-wheel
returns-clause-wheel c = reads-back _ c.args.wheel.now.parts c.args.wheel.now.valid (printed c)
