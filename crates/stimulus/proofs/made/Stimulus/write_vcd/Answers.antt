use Rattle.std.proofs.Common.{sym, subst}
use Rattle.stimulus_files.specs.Written.{AreSmall}
use Rattle.stimulus.proofs.SmallIsFact.{known_small}
use Rattle.stimulus.proofs.made.Stimulus.write_vcd.Goals as goal

pub write_vcd-requires-clause-small : goal.write_vcd-requires-clause-small
write_vcd-requires-clause-small c =
    let made = c.args.self.now in
    subst (AreSmall made.watch) (sym c.as_slice.ensures.value) (known_small made.watch made.instants.items made.small)
