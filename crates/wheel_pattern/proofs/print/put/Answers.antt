use Rattle.std.proofs.Common.{ap, ◌∙◌}
use Rattle.toml.specs.View.{view, table_view, members_view}
use Rattle.wheel_pattern.specs.Printed.{insert_member}
use Rattle.wheel_pattern.proofs.GrownTables.{members_view-insert}
use Rattle.wheel_pattern.proofs.print.put.Goals as goal

pub returns : goal.returns
returns c =
    ap members_view c.in_ok-insert.ensures.entries ∙ members_view-insert c.in_ok-from_str.field-0 c.args.value c.args.table.now.entries
    ∙ ap (λ k. insert_member k (view c.args.value) (table_view c.args.table.now)) (c.in_ok-from_str.ensures.ok ∙ c.text.ensures)
