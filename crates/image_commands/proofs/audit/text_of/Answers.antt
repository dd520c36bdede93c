use Rattle.std.proofs.Common.{◌≡◌, ◌∙◌, ap, ℕ, ◌++◌, string_bytes}
use Rattle.std.specs.Global.{Vec}
use Rattle.image_commands.proofs.Audited.{text_due}
use Rattle.image_commands.proofs.audit.text_of.Goals as goal

pub returns : goal.returns
returns c =
    let line = string_bytes c.in_ok-line_of.field-0 in
    let same : c.into_bytes-text.result.items ≡ line = ap (λ (v : Vec ℕ). v.items) c.into_bytes-text.ensures.value in
    text_due c.args.view.now.bytes.now c.extend_from_slice.new.self.items line c.in_ok-file.file.items c.in_ok-wheel.wheel.parts c.in_ok-wheel.ensures c.in_ok-file.ensures.wheel
    c.in_ok-line_of.ensures
    (c.in_ok-extend_from_slice.ensures.items ∙ ap (λ l. l ++ c.deref.result.now) same ∙ ap (λ l. line ++ l) c.deref.ensures.value)
