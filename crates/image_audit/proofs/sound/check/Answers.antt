use Rattle.image_layout.specs.Rules.{first_fault}
use Rattle.image_format.proofs.Tables.{layout_tells}
use Rattle.position_nfa.specs.Views.{alphabet}
use Rattle.table_images.specs.Images.{IsSoundImage}
use Rattle.image_audit.specs.Agreements.{Agrees}
use Rattle.image_audit.specs.Audits.{IsAuditFault}
use Rattle.image_audit.specs.Differences.{IsFirst}
use Rattle.image_audit.proofs.Exact.{none_is, on_ok, if_err, audit_first}
use Rattle.image_audit.proofs.SoundTables.{sound_image}
use Rattle.image_audit.proofs.sound.check.Goals as goal

pub check_table-requires-clause-layout : goal.check_table-requires-clause-layout
check_table-requires-clause-layout c = layout_tells c.args.view.now.bytes.now (none_is (first_fault c.args.view.now.bytes.now) c.args.view.now.keeps)

pub returns-clause-sound : goal.returns-clause-sound
returns-clause-sound c =
    let a = alphabet c.in_ok-nfa.nfa in
    let b = c.args.view.now.bytes.now in
    on_ok (Agrees a b) (IsSoundImage b) c.check_table.result (λ h. sound_image a b (layout_tells b (none_is (first_fault b) c.args.view.now.keeps)) h c.in_ok-nfa.ensures.alphabet) c.check_table.ensures.same

pub returns-clause-first : goal.returns-clause-first
returns-clause-first c =
    let a = alphabet c.in_ok-nfa.nfa in
    let b = c.args.view.now.bytes.now in
    if_err (IsFirst a b) (IsAuditFault b) c.check_table.result (λ f h. audit_first b a c.in_ok-nfa.ensures.alphabet f h) c.check_table.ensures.first
