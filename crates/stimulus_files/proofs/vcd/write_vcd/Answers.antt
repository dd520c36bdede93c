use Rattle.std.proofs.Common.{◌∷◌}
use Rattle.stimulus_files.proofs.Texts.{vcd_more}
use Rattle.stimulus_files.proofs.vcd.write_vcd.Goals as goal

pub stamps-preserved : goal.stamps-preserved
stamps-preserved c =
    let k = c.stamps.invariant.told in
    record {
      within = c.advance.ensures.within;
      told = (
        _,
        k.0 ∷ k.1,
        c.in-Some.ensures.stands c.args.watch k.0 k.1 k.2,
        vcd_more c.args.watch c.in-Some.stamp k.0 k.1 _ _ k.3
            c.in_ok-push_stamp.ensures,
      );
    }

pub returns : goal.returns
returns c =
    let k = c.stamps.invariant.told in
    (k.0 ∷ k.1, (c.in_default.ensures.stands c.args.watch k.0 k.1 k.2, k.3))
