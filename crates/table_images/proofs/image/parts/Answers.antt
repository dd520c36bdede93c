use Rattle.std.proofs.Common.{◌≡◌, sym, subst}
use Rattle.std.specs.Prelude.{map}
use Rattle.gap_thresholds.specs.declared.cut.Cut.{Cut}
use Rattle.gap_thresholds.specs.Classes.{times_of, ratios_of}
use Rattle.position_nfa.specs.Views.{alphabet}
use Rattle.subset_build.specs.Views.{table_states}
use Rattle.table_images.specs.Tables.{HasRows}
use Rattle.table_images.proofs.image.parts.Goals as goal

pub returns : goal.returns
returns c = record {
  parts = record {
    wheel = c.in_ok-wheel_parts.ensures;
    places = c.in_ok-places.ensures;
    times = subst (λ k. c.in_ok-time_cuts.field-0.items ≡ map (λ (x : Cut). x.top) (times_of k)) c.cuts.ensures c.in_ok-time_cuts.ensures.tops;
    ratios = subst (λ k. c.in_ok-ratio_cuts.field-0.items ≡ map (λ (x : Cut). (x.top, x.bottom)) (ratios_of k)) c.cuts-2.ensures c.in_ok-ratio_cuts.ensures;
    phases = c.in_ok-phases.ensures;
    kinds = c.in_ok-kinds.ensures;
    members = c.in_ok-members.ensures;
    rows = subst (HasRows (alphabet c.args.nfa.now) (table_states c.args.table)) (sym c.into_rows.ensures.rows) c.requires.rows;
    times_fit = c.in_ok-time_cuts.ensures.fits;
    rows_fit = c.into_rows.ensures.fits;
  };
}
