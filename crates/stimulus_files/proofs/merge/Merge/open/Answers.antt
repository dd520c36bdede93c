use Rattle.capture_core.specs.declared.capture.Given.{Given}
use Rattle.stimulus_files.specs.declared.merge.Merge.{Merge}
use Rattle.stimulus_files.proofs.Merging.{each_left, each_level, opened}
use Rattle.stimulus_files.proofs.merge.Merge.open.Goals as goal

pub returns-clause-stands : goal.returns-clause-stands
returns-clause-stands c = λ small.
    let is = c.args.instants.now in
    let m : Merge = record { crank = c.begin-crank.result.track; cam1 = c.begin-cam1.result.track; cam2 = c.begin-cam2.result.track } in
    let given : Given = record { crank = c.begin-crank.result.level; cam1 = c.begin-cam1.result.level; cam2 = c.begin-cam2.result.level } in
    opened c.args.watch is given m small
    (each_level c.args.watch is given c.begin-crank.ensures.level c.begin-cam1.ensures.level c.begin-cam2.ensures.level)
    (each_left c.args.watch is m c.begin-crank.ensures.left c.begin-cam1.ensures.left c.begin-cam2.ensures.left)
