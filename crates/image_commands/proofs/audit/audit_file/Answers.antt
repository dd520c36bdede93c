use Rattle.std.proofs.Common.{◌≡◌, ◌∙◌, ap, subst, sym, ℕ}
use Rattle.std.proofs.lemmas.Result.{err_from_is_err_and}
use Rattle.std.specs.Global.{Vec}
use Rattle.image_layout.specs.Tables.{KeepsLayout}
use Rattle.image_format.specs.declared.view.View.{View}
use Rattle.table_images.specs.Images.{IsSoundImage}
use Rattle.run_ends.specs.Works.{StopsJudge}
use Rattle.run_ends.proofs.Serving.{stops, goes_on, judged_out, passed}
use Rattle.run_files.specs.Files.{Holds}
use Rattle.image_commands.specs.Images.{LayoutGives}
use Rattle.image_commands.specs.Audit.{AuditGives}
use Rattle.image_commands.proofs.Loaded.{not_loaded, not_laid, laid}
use Rattle.image_commands.proofs.audit.audit_file.Goals as goal

pub returns-in_err-bytes : goal.returns-in_err-bytes
returns-in_err-bytes g c =
    let p = err_from_is_err_and c.from_residual.result c.from_residual.ensures.1 in
    let v = g.S.Shelf.view c.args.shelf.now in
    let name = c.args.image.now in
    rw (p.1, p.2)
    (stops _ _ _ _ _ _ _ _ _ _
    (not_loaded {X = Vec ℕ} v v (g.S.Shelf.view c.load.new.shelf) name (λ bytes. Holds v.file name bytes.items) c.in_err-bytes.field-0.0 c.in_err-bytes.ensures))

pub returns-in_err-view : goal.returns-in_err-view
returns-in_err-view g c =
    let p = err_from_is_err_and c.from_residual-in_err-view.result c.from_residual-in_err-view.ensures.1 in
    let v = g.S.Shelf.view c.args.shelf.now in
    let first = c.in_ok-bytes.ensures in
    rw (p.1, p.2)
    (stops _ _ _ _ _ _ _ _ _ _
    (not_laid v (g.S.Shelf.view c.load.new.shelf) c.args.image.now c.in_ok-bytes.bytes.items c.in_err-view.field-0.0 first.0 first.1
    (subst (λ b. LayoutGives b c.in_err-view.field-0.0) c.deref.ensures.value c.in_err-view.ensures.fault)))

pub returns-in_err-sound : goal.returns-in_err-sound
returns-in_err-sound g c =
    let p = err_from_is_err_and c.from_residual-in_err-sound.result c.from_residual-in_err-sound.ensures.1 in
    let v = g.S.Shelf.view c.args.shelf.now in
    let u = g.S.Shelf.view c.load.new.shelf in
    let first = c.in_ok-bytes.ensures in
    let b = c.in_ok-bytes.bytes.items in
    let same : c.in_ok-view.view.bytes.now ≡ b = c.in_ok-view.ensures.bytes ∙ c.deref.ensures.value in
    rw (p.1, p.2)
    (goes_on _ _ _ _ _ _ _ _ b _ _ _ _ _ first.0 (laid v u c.args.image.now b first.1 (subst KeepsLayout c.deref.ensures.value c.in_ok-view.ensures.layout))
    (judged_out _ _ _ _ _ _ c.in_err-sound.field-0.0 (subst (λ b. StopsJudge (AuditGives b) c.in_err-sound.field-0.0) same c.in_err-sound.ensures.kinds)))

pub returns : goal.returns
returns g c =
    let v = g.S.Shelf.view c.args.shelf.now in
    let u = g.S.Shelf.view c.load.new.shelf in
    let first = c.in_ok-bytes.ensures in
    let b = c.in_ok-bytes.bytes.items in
    let same : c.in_ok-view.view.bytes.now ≡ b = c.in_ok-view.ensures.bytes ∙ c.deref.ensures.value in
    let shown : c.view.result.now.bytes.now ≡ b = ap (λ (v : View). v.bytes.now) (c.view.ensures.view ∙ c.in_ok-sound.ensures.view) ∙ same in
    goes_on _ _ _ _ _ _ _ _ b _ _ _ _ _ first.0 (laid v u c.args.image.now b first.1 (subst KeepsLayout c.deref.ensures.value c.in_ok-view.ensures.layout))
    (passed _ _ _ _ _ _ _ _ _ _ (subst IsSoundImage same c.in_ok-sound.ensures.sound) (rw (sym shown) (c.put_text.ensures u)))
