-- What is written of a table's parts is the image of the wheel.
use Rattle.std.proofs.Common.{◌≡◌, ℕ, ◌≤◌, List, length, sym, subst, arith}
use Rattle.std.proofs.lemmas.Option.{slice_get_within}
use Rattle.wheel_types.specs.declared.parts.WheelParts.{WheelParts}
use Rattle.wheel_types.specs.Wheels.{IsWheel}
use Rattle.image_layout.specs.declared.parts.ImageParts.{ImageParts}
use Rattle.image_layout.specs.Parts.{image_bytes, AreSmall}
use Rattle.position_nfa.specs.declared.pair.Pair.{Pair}
use Rattle.position_nfa.specs.Alphabets.{Alphabet, count, time_classes, ratio_classes}
use Rattle.position_nfa.specs.Step.{start_state}
use Rattle.table_images.specs.Images.{IsCompiled}
use Rattle.table_images.specs.Tables.{IsTable, AreParts}
use Rattle.table_images.proofs.Assembled.{small, has_counts, fits}
use Rattle.table_images.proofs.Compiled.{compiled}

pub small_by : (w : WheelParts) (a : Alphabet) (limit : ℕ) (states : List Pair) (p : ImageParts) → IsTable w a limit states → AreParts w a states p → IsWheel w → count a ≤ 16384 → time_classes a ≤ 8193 → ratio_classes a ≤ 16385 → AreSmall p
small_by w a limit states p t e wheel few few_times few_ratios = small w a limit states p t e wheel few few_times few_ratios

pub image_by : (w : WheelParts) (a : Alphabet) (limit : ℕ) (states : List Pair) (p : ImageParts) (bytes : List ℕ) → IsTable w a limit states → AreParts w a states p → IsWheel w → count a ≤ 16384 → time_classes a ≤ 8193 → ratio_classes a ≤ 16385 → bytes ≡ image_bytes p → IsCompiled w limit bytes
image_by w a limit states p bytes t e wheel few few_times few_ratios same =
    let lt = slice_get_within states 1 (start_state a) t.start in
    let two : 2 ≤ length states = omega (arith, lt) in
    subst (IsCompiled w limit) (sym same)
    (compiled w a limit states p t e wheel (fits w a limit states p t e wheel few few_times few_ratios) (small w a limit states p t e wheel few few_times few_ratios) (has_counts w a limit states p t e wheel few few_times few_ratios two))
