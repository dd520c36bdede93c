use Rattle.std.proofs.Common.{◌≡◌, ◌∙◌, ap, subst, Err, Ok, List, ℕ}
use Rattle.std.proofs.lemmas.Result.{err_from_is_err_and}
use Rattle.std.specs.Global.{Vec}
use Rattle.std.specs.Io.KnownBytes.{Appends}
use Rattle.wheel_types.specs.declared.instant.Instant.{Instant}
use Rattle.image_layout.specs.Fields.{wheel_parts_of}
use Rattle.image_layout.specs.Tables.{KeepsLayout}
use Rattle.command_words.specs.Options.{options_of}
use Rattle.run_ends.specs.Prefixes.{AppendsPrefix}
use Rattle.run_ends.proofs.Serving.{stops, goes_on, rises}
use Rattle.run_files.specs.Files.{Holds}
use Rattle.image_commands.specs.Images.{HasImage, LayoutGives, ImageGives}
use Rattle.image_commands.specs.Trace.{trace_text}
use Rattle.image_commands.proofs.Loaded.{not_loaded, not_laid, no_room, laid, clean_before}
use Rattle.image_commands.proofs.Traced.{trace_whole, trace_front}
use Rattle.image_commands.proofs.trace.trace_file.Goals as goal

pub returns-in_err-bytes : goal.returns-in_err-bytes
returns-in_err-bytes g c =
    let p = err_from_is_err_and c.from_residual.result c.from_residual.ensures.1 in
    let v = g.S.Shelf.view c.args.shelf.now in
    let name = c.args.image.now in
    rw (p.1, p.2)
    (stops _ _ _ _ _ _ _ _ _ _
    (not_loaded {X = Vec ℕ} v v (g.S.Shelf.view c.load.new.shelf) name (λ bytes. Holds v.file name bytes.items) c.in_err-bytes.field-0.0 c.in_err-bytes.ensures))

pub returns-in_err-view : goal.returns-in_err-view
returns-in_err-view g c =
    let p = err_from_is_err_and c.from_residual-in_err-view.result c.from_residual-in_err-view.ensures.1 in
    let v = g.S.Shelf.view c.args.shelf.now in
    let u = g.S.Shelf.view c.load.new.shelf in
    let first = c.in_ok-bytes.ensures in
    rw (p.1, p.2)
    (stops _ _ _ _ _ _ _ _ _ _
    (not_laid v u c.args.image.now c.in_ok-bytes.bytes.items c.in_err-view.field-0.0 first.0 first.1
    (subst (λ b. LayoutGives b c.in_err-view.field-0.0) c.deref.ensures.value c.in_err-view.ensures.fault)))

pub returns-in-Err : goal.returns-in-Err
returns-in-Err g c =
    let v = g.S.Shelf.view c.args.shelf.now in
    let u = g.S.Shelf.view c.load.new.shelf in
    let name = c.args.image.now in
    let first = c.in_ok-bytes.ensures in
    stops _ _ _ _ _ _ _ _ _ _ (no_room {X = List ℕ} v u name (ImageGives v.file name) (HasImage v.file name) first.0 first.1.1)

pub returns-in_err-capture : goal.returns-in_err-capture
returns-in_err-capture g c =
    let p = err_from_is_err_and c.from_residual-in_err-capture.result c.from_residual-in_err-capture.ensures.1 in
    let v = g.S.Shelf.view c.args.shelf.now in
    let u = g.S.Shelf.view c.load.new.shelf in
    let b = c.in_ok-bytes.bytes.items in
    let o = options_of c.args.options in
    let name = c.args.capture.now in
    let first = c.in_ok-bytes.ensures in
    let same : c.in_ok-view.view.bytes.now ≡ b = c.in_ok-view.ensures.bytes ∙ c.deref.ensures.value in
    let own : c.in-Ok.watched.wheel.parts ≡ wheel_parts_of b = c.in-Ok.ensures.wheel ∙ ap wheel_parts_of same in
    let image = laid v u c.args.image.now b first.1 (subst KeepsLayout c.deref.ensures.value c.in_ok-view.ensures.layout) in
    let second = clean_before v u _ _ name c.in-Ok.watched.wheel.parts (wheel_parts_of b) o (Err c.in_err-capture.field-0.0) own first.0.touches c.in_err-capture.ensures.loads in
    rw (p.1, p.2) (goes_on _ _ _ _ _ _ _ _ b _ _ _ _ _ first.0 image (stops _ _ _ _ _ _ _ _ _ _ second))

pub returns-in_err-put_trace : goal.returns-in_err-put_trace
returns-in_err-put_trace g c =
    let p = err_from_is_err_and c.from_residual-in_err-put_trace.result c.from_residual-in_err-put_trace.ensures.1 in
    let v = g.S.Shelf.view c.args.shelf.now in
    let u = g.S.Shelf.view c.load.new.shelf in
    let b = c.in_ok-bytes.bytes.items in
    let o = options_of c.args.options in
    let name = c.args.capture.now in
    let first = c.in_ok-bytes.ensures in
    let same : c.in_ok-view.view.bytes.now ≡ b = c.in_ok-view.ensures.bytes ∙ c.deref.ensures.value in
    let own : c.in-Ok.watched.wheel.parts ≡ wheel_parts_of b = c.in-Ok.ensures.wheel ∙ ap wheel_parts_of same in
    let image = laid v u c.args.image.now b first.1 (subst KeepsLayout c.deref.ensures.value c.in_ok-view.ensures.layout) in
    let second = clean_before v u _ _ name c.in-Ok.watched.wheel.parts (wheel_parts_of b) o (Ok c.in_ok-capture.capture) own first.0.touches c.in_ok-capture.ensures.loads in
    let front = subst (λ (is : List Instant). AppendsPrefix (g.O.Sink.taken c.args.out.now) (g.O.Sink.taken c.put_trace.new.out) (trace_text b is)) c.as_slice.ensures
    (subst (λ b. AppendsPrefix (g.O.Sink.taken c.args.out.now) (g.O.Sink.taken c.put_trace.new.out) (trace_text b c.as_slice.result.now)) same c.in_err-put_trace.ensures.err) in
    rw (p.1, p.2)
    (goes_on _ _ _ _ _ _ _ _ b _ _ _ _ _ first.0 image
    (goes_on _ _ _ _ _ _ _ _ c.in_ok-capture.capture _ _ _ _ _ second.0 second.1
    (trace_front _ _ _ b c.in_ok-capture.capture.instants c.in_err-put_trace.field-0.0 front c.in_err-put_trace.ensures.kinds
    (rises _ _ c.in_err-put_trace.field-0.0 _ c.in_err-put_trace.ensures.later c.in_err-put_trace.ensures.write c.in_err-put_trace.ensures.quiet) (λ is still. c.in_err-put_trace.ensures.calm still (ap Err is)) c.in_err-put_trace.ensures.steady)))

pub returns : goal.returns
returns g c =
    let v = g.S.Shelf.view c.args.shelf.now in
    let u = g.S.Shelf.view c.load.new.shelf in
    let b = c.in_ok-bytes.bytes.items in
    let o = options_of c.args.options in
    let name = c.args.capture.now in
    let first = c.in_ok-bytes.ensures in
    let same : c.in_ok-view.view.bytes.now ≡ b = c.in_ok-view.ensures.bytes ∙ c.deref.ensures.value in
    let own : c.in-Ok.watched.wheel.parts ≡ wheel_parts_of b = c.in-Ok.ensures.wheel ∙ ap wheel_parts_of same in
    let image = laid v u c.args.image.now b first.1 (subst KeepsLayout c.deref.ensures.value c.in_ok-view.ensures.layout) in
    let second = clean_before v u _ _ name c.in-Ok.watched.wheel.parts (wheel_parts_of b) o (Ok c.in_ok-capture.capture) own first.0.touches c.in_ok-capture.ensures.loads in
    let whole = subst (λ (is : List Instant). Appends (g.O.Sink.taken c.args.out.now) (g.O.Sink.taken c.put_trace.new.out) (trace_text b is)) c.as_slice.ensures
    (subst (λ b. Appends (g.O.Sink.taken c.args.out.now) (g.O.Sink.taken c.put_trace.new.out) (trace_text b c.as_slice.result.now)) same c.in_ok-put_trace.ensures.ok) in
    goes_on _ _ _ _ _ _ _ _ b _ _ _ _ _ first.0 image
    (goes_on _ _ _ _ _ _ _ _ c.in_ok-capture.capture _ _ _ _ _ second.0 second.1
    (trace_whole _ _ _ b c.in_ok-capture.capture.instants whole (c.in_ok-put_trace.ensures.quiet (λ is. cc)) c.in_ok-put_trace.ensures.steady))
