use Rattle.std.proofs.Common.{◌≡◌, List, ◌∷◌}
use Rattle.capture_core.specs.declared.capture.Stamp.{Stamp}
use Rattle.stimulus_files.specs.Files.{vcd_text}
use Rattle.stimulus_files.specs.Merges.{IsWithin, left_count, Stands}
use Rattle.stimulus_files.proofs.vcd.write_vcd.Given as goal

abbrev pub invariant-stamps : goal.invariant-stamps
invariant-stamps l = record {
  within : IsWithin l.instants l.merge;
  told : (s : Stamp) × (past : List Stamp) × Stands l.fn.watch l.instants s past l.merge × (l.text.items ≡ vcd_text l.fn.watch (s ∷ past));
}

abbrev pub decreases-stamps : goal.decreases-stamps
decreases-stamps l = left_count l.instants l.merge
