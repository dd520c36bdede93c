use Rattle.std.proofs.Common.{◌∙◌, ap, refl, inl}
use Rattle.command_words.specs.Options.{options_of}
use Rattle.capture_file.specs.Forms.{file_capture}
use Rattle.run_files.specs.Causes.{FileGives}
use Rattle.run_files.specs.Files.{HasCapture}
use Rattle.run_ends.proofs.Loading.{stays, loads_as}
use Rattle.shelf_io.proofs.Touching.{untouched}
use Rattle.named_captures.specs.Captures.{HasNamedCapture}
use Rattle.named_captures.proofs.named.load_named.Goals as goal

pub returns-in_default-clause-loads : goal.returns-in_default-clause-loads
returns-in_default-clause-loads g c = (stays _ _ _ (λ is. cc) refl, inl (untouched _ _, tt))

pub returns-clause-loads : goal.returns-clause-loads
returns-clause-loads g c =
    let v = g.S.Shelf.view c.args.shelf.now in
    let names = c.in-Ok.names in
    loads_as v v (g.S.Shelf.view c.load_capture.new.shelf) c.args.name.now (FileGives v.file c.args.name.now) (HasCapture v.file c.args.name.now names c.watch_for.result)
    (HasNamedCapture v.file c.args.name.now c.args.wheel.now.parts (options_of c.args.options)) c.load_capture.result
    (λ capture h. record {
      bytes = h.bytes;
      holds = h.holds;
      read = record {
        names = names;
        named = c.in-Ok.ensures;
        is = h.is ∙ ap (λ watch. file_capture names watch h.bytes) c.watch_for.ensures;
      };
    })
    c.load_capture.ensures.loads
