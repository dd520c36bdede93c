-- The capture of a dump from what its reader hands out.
use Rattle.std.proofs.Common.{◌≡◌, ℕ, ◌^◌, List, [], refl, sym, ◌∙◌, subst}
use Rattle.wheel_types.specs.declared.instant.Instant.{Instant}
use Rattle.wheel_types.specs.Verdicts.{IsRising, AreWithin}
use Rattle.capture_core.specs.declared.capture.Names.{Names}
use Rattle.capture_core.specs.declared.capture.Watch.{Watch}
use Rattle.capture_core.specs.declared.capture.End.{End}
use Rattle.vcd_reader.specs.declared.reader.VcdReader.{VcdReader}
use Rattle.vcd_reader.specs.Dumps.{vcd_capture}
use Rattle.vcd_reader.specs.Readers.{StandsForFile, waiting_in}
use Rattle.vcd_reader.proofs.RisingStamps.{instants_rise, instants_within}

-- the instants that wait in a reader of the whole file, from which none was taken, are those of the capture
pub dump_instants : (names : Names) (watch : Watch) (bytes : List ℕ) (r : VcdReader) → StandsForFile names watch [] r bytes → waiting_in r ≡ (vcd_capture names watch bytes).instants
dump_instants names watch bytes r h = sym h.instants

pub dump_capture : (names : Names) (watch : Watch) (bytes : List ℕ) (r : VcdReader) (is : List Instant) (end : End) → StandsForFile names watch [] r bytes → is ≡ waiting_in r
    → end ≡ (vcd_capture names watch bytes).end → record { instants = is; end = end } ≡ vcd_capture names watch bytes
dump_capture names watch bytes r is end h all ends =
    let these : is ≡ (vcd_capture names watch bytes).instants = all ∙ dump_instants names watch bytes r h in
    rw (these, ends) refl

pub dump_rises : (names : Names) (watch : Watch) (bytes : List ℕ) (is : List Instant) → is ≡ (vcd_capture names watch bytes).instants → IsRising is
dump_rises names watch bytes is same = subst IsRising (sym same) (instants_rise names watch bytes)

pub dump_within : (names : Names) (watch : Watch) (bytes : List ℕ) (is : List Instant) → is ≡ (vcd_capture names watch bytes).instants → AreWithin (10 ^ 24) is
dump_within names watch bytes is same = subst (AreWithin (10 ^ 24)) (sym same) (instants_within names watch bytes)
