-- A report that was written, whole or in front, and how the run ends then.
use Rattle.std.proofs.Common.{◌≡◌, ℕ, List, Option, None, Result, Ok, Err, refl, subst}
use Rattle.std.specs.Prelude.{IsTrue}
use Rattle.shelf_traits.specs.Count.{RoseWhere}
use Rattle.shelf_traits.specs.Shelf.{View}
use Rattle.wheel_types.specs.declared.parts.WheelParts.{WheelParts}
use Rattle.wheel_types.specs.declared.instant.Instant.{Instant}
use Rattle.capture_core.specs.declared.capture.Capture.{Capture}
use Rattle.capture_core.specs.declared.capture.End.{End}
use Rattle.capture_core.specs.declared.capture.End.TheVariants.{Clean, Csv, Vcd}
use Rattle.run_ends.specs.declared.cause.Cause.{Cause}
use Rattle.run_ends.specs.declared.cause.Done.{Done}
use Rattle.run_ends.specs.declared.cause.Done.TheVariants as done
use Rattle.c_tables.specs.Slots.{slots_text}
use Rattle.run_ends.specs.declared.cause.Cause.TheVariants as cause
use Rattle.run_ends.specs.Works.{StopsWrite}
use Rattle.run_ends.specs.Lines.{WritesLines}
use Rattle.tap_board.specs.Meanings.{Meaning, told_all}
use Rattle.run_ends.specs.Serving.{Stream, Tells}
use Rattle.run_ends.proofs.Serving.{IsCalm}
use Rattle.run_ends.proofs.Tapping.{wrote_lines, cut_lines}
use Rattle.run_files.specs.Causes.{ended_by}
use Rattle.wheelsync.specs.Outputs.{GetsReport, GetsFront}
use Rattle.wheelsync.specs.Replay.{IsReported}

calm_end : (end : End) → IsCalm (ended_by end)
calm_end Clean = tt
calm_end (Csv fault) = tt
calm_end (Vcd fault) = tt

-- this text and this end are due for the slots of a table
abbrev pub IsSlotsLine : (slots text : List ℕ) → Result Done Cause → Type 0
IsSlotsLine slots text end = (text ≡ slots_text slots) × (end ≡ Ok done.Whole)

-- what was put of these instants, where others are the same
pub front_as : (e : Cause) (old new : Option (List ℕ)) (taps live : List Meaning) (w : WheelParts) (is js : List Instant) → is ≡ js → GetsFront e old new taps live w is → GetsFront e old new taps live w js
front_as e old new taps live w is js same g = subst (λ (l : List Instant). GetsFront e old new taps live w l) same g

pub whole_as : (old new : Option (List ℕ)) (taps live : List Meaning) (w : WheelParts) (is js : List Instant) → is ≡ js → GetsReport old new taps live w is → GetsReport old new taps live w js
whole_as old new taps live w is js same g = subst (λ (l : List Instant). GetsReport old new taps live w l) same g

-- the whole report
pub report_whole : (v : View) (old new : Stream) (taps live : List Meaning) (w : WheelParts) (c : Capture) → GetsReport old.taken new.taken taps live w c.instants → new.faults ≡ old.faults → (IsTrue old.steady → IsTrue new.steady)
    → Tells (WritesLines (IsReported w c)) None v v old new (λ marks. live ≡ told_all marks taps) (ended_by c.end)
report_whole v old new taps live w c g same steady =
    wrote_lines (IsReported w c) None v old new (λ marks. live ≡ told_all marks taps) g.all (ended_by c.end) (g.reported, refl) (calm_end c.end) g.out same steady g.heard

-- a front of it
pub report_front : (v : View) (old new : Stream) (taps live : List Meaning) (w : WheelParts) (c : Capture) (e : Cause) → GetsFront e old.taken new.taken taps live w c.instants
    → StopsWrite e → RoseWhere (e ≡ cause.WriteFault) old.faults new.faults → (e ≡ cause.WriteFault → IsTrue old.steady → ⊥) → (IsTrue old.steady → IsTrue new.steady)
    → Tells (WritesLines (IsReported w c)) None v v old new (λ marks. live ≡ told_all marks taps) (Err e)
report_front v old new taps live w c e g stops rose calm steady =
    cut_lines (IsReported w c) None v old new (λ marks. live ≡ told_all marks taps) e (record {
      before = g.before;
      cut = g.cut;
      rest = g.rest;
      end = ended_by c.end;
      is_due = (g.reported, refl);
      got = g.got;
      short = g.short;
      out = g.out;
      heard = g.heard;
    }) stops rose calm steady
