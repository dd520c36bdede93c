use Rattle.std.proofs.Common.{◌≡◌, subst}
use Rattle.position_nfa.specs.Views.{alphabet}
use Rattle.subset_build.specs.Views.{table_states}
use Rattle.table_images.specs.Images.{IsTooLarge}
use Rattle.table_images.proofs.Numbered.{table_by}
use Rattle.table_images.proofs.image.table.Goals as goal

pub returns-in-Ok-clause-table : goal.returns-in-Ok-clause-table
returns-in-Ok-clause-table c = table_by (alphabet c.args.nfa.now) c.args.nfa.now.tables.some c.args.wheel.now.parts c.args.limit (table_states c.in-Ok.table) c.requires (c.in-Ok.ensures.family c.args.wheel.now.parts c.requires) c.in-Ok.ensures.numbering c.in-Ok.ensures.within

pub returns-in-Err-TooLarge-clause-large : goal.returns-in-Err-TooLarge-clause-large
returns-in-Err-TooLarge-clause-large c = λ l e.
    let same : c.in-Err-TooLarge.limit ≡ l = cc in
    let h = c.in-Err-TooLarge.ensures.too_large c.in-Err-TooLarge.limit c.in-Err-TooLarge.field-0-is in
    subst (IsTooLarge c.args.wheel.now.parts c.args.limit) same (record { alphabet = alphabet c.args.nfa.now; of_wheel = c.requires; holds = h.0; more = h.1 c.args.wheel.now.parts c.requires })
