use Rattle.run_files.specs.Files.{HasWheel}
use Rattle.run_files.proofs.AnyWheels.{loads_model}
use Rattle.run_files.proofs.model.load_wheel.Goals as goal

pub returns : goal.returns
returns g c =
    let v = g.S.Shelf.view c.args.shelf.now in
    loads_model v v (g.S.Shelf.view c.load_any_wheel.new.shelf) c.args.name.now (λ wheel. HasWheel v.file c.args.name.now wheel.parts) c.load_any_wheel.result c.load_any_wheel.ensures
