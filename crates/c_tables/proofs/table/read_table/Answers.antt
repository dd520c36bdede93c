use Rattle.std.proofs.Common.{ℕ, ap, sym, ◌∙◌}
use Rattle.std.specs.Prelude.{nat_lt, position}
use Rattle.c_tables.specs.Arrays.{bodies, one_body}
use Rattle.c_tables.specs.Spans.{left}
use Rattle.c_tables.specs.Tables.{unless_past}
use Rattle.c_tables.proofs.EntrySlots.{table_found}
use Rattle.c_tables.proofs.table.read_table.Goals as goal

pub returns-in-Some-clause-fault : goal.returns-in-Some-clause-fault
returns-in-Some-clause-fault c = λ other.
    table_found c.args.name.now c.args.bytes.now (left c.args.bytes.now c.in_ok-body.body) c.in_ok-slots.slots.items
    (c.in_ok-body.ensures.left ∙ ap (λ name. one_body (bodies name (left c.args.bytes.now 0))) c.as_bytes.ensures.value) c.in_ok-slots.ensures.values
    ∙ ap (λ values. unless_past (position (λ (value : ℕ). nat_lt 7 value) values) c.in_ok-slots.slots.items) (sym c.as_slice.ensures.value)
    ∙ ap (λ past. unless_past past c.in_ok-slots.slots.items) (sym c.in-Some.ensures)

pub returns-in-None-clause-table : goal.returns-in-None-clause-table
returns-in-None-clause-table c =
    table_found c.args.name.now c.args.bytes.now (left c.args.bytes.now c.in_ok-body.body) c.in_ok-slots.slots.items
    (c.in_ok-body.ensures.left ∙ ap (λ name. one_body (bodies name (left c.args.bytes.now 0))) c.as_bytes.ensures.value) c.in_ok-slots.ensures.values
    ∙ ap (λ values. unless_past (position (λ (value : ℕ). nat_lt 7 value) values) c.in_ok-slots.slots.items) (sym c.as_slice.ensures.value)
    ∙ ap (λ past. unless_past past c.in_ok-slots.slots.items) (sym c.in-None.ensures)
