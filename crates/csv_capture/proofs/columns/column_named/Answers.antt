use Rattle.std.proofs.Common.{◌≡◌, ◌∙◌, ◌<◌, ◌++◌, ℕ, List, true, length, sym, ap, arith}
use Rattle.std.specs.Option.{option_to_list}
use Rattle.csv.specs.Records.{fields_of}
use Rattle.csv_capture.specs.Fields.{field_text, same}
use Rattle.csv_capture.proofs.Places.{first_found, places-here, places-there, two_columns}
use Rattle.csv_capture.proofs.columns.column_named.Goals as goal
use Rattle.csv_capture.proofs.columns.column_named.Goals.{then-eq+else-is_some, else-eq}

pub returns-then-is_some : goal.returns-then-is_some
returns-then-is_some c =
    let fields = fields_of c.args.header.now in
    let name = c.args.name.now in
    let at = c.fields.at in
    let within : at < length fields = omega (arith, c.len-at-end.ensures) in
    let named : same (field_text fields at) name ≡ true = ap (λ (x : List ℕ). same x name) (sym c.field_text.ensures) ∙ sym c.eq.ensures ∙ c.if-eq.true in
    two_columns c.args.column c.fields.found at _ _ (sym c.is_some.ensures ∙ c.if-is_some.true)
    (c.fields.invariant ∙ ap (λ (x : List ℕ). option_to_list c.fields.found ++ x) (places-here at name fields within named))

pub fields-preserved : goal.fields-preserved
fields-preserved c =
    let fields = fields_of c.args.header.now in
    let name = c.args.name.now in
    let at = c.fields.at in
    let within : at < length fields = omega (arith, c.len-at-end.ensures) in
    let named : same (field_text fields at) name ≡ c.eq.result = ap (λ (x : List ℕ). same x name) (sym c.field_text.ensures) ∙ sym c.eq.ensures in
    elim c.if-eq.branch [
      | then-eq+else-is_some w ↦
          rw w.found-is (first_found c.fields.found at _ _ (sym w.is_some.ensures ∙ w.if-is_some.false)
          (c.fields.invariant ∙ ap (λ (x : List ℕ). option_to_list c.fields.found ++ x) (places-here at name fields within (named ∙ w.if-eq.true))))
      | else-eq w ↦
          rw w.found-is (c.fields.invariant ∙ ap (λ (x : List ℕ). option_to_list c.fields.found ++ x) (places-there at name fields within (named ∙ w.if-eq.false)))
    ]
