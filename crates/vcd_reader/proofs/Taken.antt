-- All instants at closed stamps were taken or wait.
use Rattle.std.proofs.Common.{◌≡◌, ℕ, List, ◌++◌, sym, ◌∙◌, ap, Some, take, drop, rules, append_assoc}
use Rattle.std.proofs.lemmas.List.{take-append-drop}
use Rattle.wheel_types.specs.declared.instant.Instant.{Instant}
use Rattle.capture_core.specs.declared.capture.VcdFault.{VcdFault}
use Rattle.capture_core.specs.declared.capture.Watch.{Watch}
use Rattle.capture_core.specs.Stamps.{instants_of}
use Rattle.vcd_header.specs.declared.header.HeaderState.{HeaderState}
use Rattle.vcd_reader.specs.declared.changes.Changes.{Changes}
use Rattle.vcd_reader.specs.declared.phase.Phase.{Phase}
use Rattle.vcd_reader.specs.declared.phase.Phase.TheVariants as phase
use Rattle.vcd_header.specs.declared.signals.Signals.{Signals}
use Rattle.vcd_reader.specs.declared.stage.Stage.{Stage}
use Rattle.vcd_reader.specs.declared.stage.Stage.TheVariants.{Level, Inside, Past}
use Rattle.vcd_reader.specs.declared.stream.Stream.{Stream}
use Rattle.vcd_reader.specs.Answers.{AreFirst}
use Rattle.vcd_reader.specs.Dumps.{closed_of, fault_of, reading_of, so_far}
use Rattle.vcd_reader.specs.Readings.{Reading, between, inside, changes, wanting, skipping, refused}
use Rattle.vcd_reader.specs.Reads.{ReadsAt}
use Rattle.vcd_reader.specs.Standing.{Brings}
use Rattle.vcd_reader.specs.Streams.{StandsFor, StopsWithin}
use Rattle.vcd_reader.proofs.GrowingStamps.{first_between, longer-grows}
use Rattle.vcd_reader.proofs.Pieces.{reading_of-refused}

brings_taken : (watch : Watch) (handed waiting : List Instant) (p : Phase) (c : Changes) (r : Reading) → Brings watch handed waiting p c r → instants_of watch (closed_of r) ≡ handed ++ waiting
brings_taken watch handed waiting phase.Between c (changes b) k = k.waits.all
brings_taken watch handed waiting (phase.Wanting level) c (wanting b due) k = k.1.waits.all
brings_taken watch handed waiting phase.Skipping c (skipping b) k = k.waits.all
brings_taken watch handed waiting (phase.Refused f) c (refused closed due) k = k.1.all
brings_taken watch handed waiting p c r k = absurd k

pub reads_taken : (wanted : Signals) (watch : Watch) (handed waiting : List Instant) (st : Stage) (h : HeaderState) (words : List (List ℕ)) (c : Changes) (r : Reading)
    → ReadsAt wanted watch handed waiting st h words c r → instants_of watch (closed_of r) ≡ handed ++ waiting
reads_taken wanted watch handed waiting Level h words c (between due) k = sym k.1.none
reads_taken wanted watch handed waiting (Inside section) h words c (inside due s due_words) k = sym k.3.none
reads_taken wanted watch handed waiting (Past p) h words c r k = brings_taken watch handed waiting p c r k
reads_taken wanted watch handed waiting st h words c r k = absurd k

-- those of the bytes that a stream stands for
pub all_taken : (wanted : Signals) (watch : Watch) (handed : List Instant) (s : Stream) (bytes : List ℕ) → StandsFor wanted watch handed s bytes
    → instants_of watch (so_far wanted bytes).closed ≡ handed ++ s.waiting
all_taken wanted watch handed s bytes stands = reads_taken s.machine.wanted watch handed s.waiting s.machine.stage s.machine.header s.machine.words s.machine.changes (reading_of wanted bytes) stands.tokens

-- after a fault a stream stands for all that is fed
pub stands_refused : (wanted : Signals) (watch : Watch) (handed : List Instant) (s : Stream) (bytes more : List ℕ) (fault : VcdFault) → StandsFor wanted watch handed s bytes
    → fault_of (reading_of wanted bytes) ≡ Some fault → StandsFor wanted watch handed s (bytes ++ more)
stands_refused wanted watch handed s bytes more fault stands is_fault =
    let same = reading_of-refused wanted bytes more fault is_fault in
    record {
      names = stands.names;
      tokens = rw same stands.tokens;
      sound = λ none. absurd (let clash = sym is_fault ∙ ap fault_of (sym same) ∙ none in search rules);
    }

-- where memory ran out within a piece, the instants are the first of all
pub first_within : (wanted : Signals) (watch : Watch) (handed waiting : List Instant) (bytes piece : List ℕ) → StopsWithin wanted watch handed waiting bytes piece
    → AreFirst (instants_of watch (so_far wanted bytes).closed) (handed ++ waiting) (instants_of watch (so_far wanted (bytes ++ piece)).closed)
first_within wanted watch handed waiting bytes piece stops =
    let all : (bytes ++ take stops.count piece) ++ drop stops.count piece ≡ bytes ++ piece
    = append_assoc bytes (take stops.count piece) (drop stops.count piece) ∙ ap (λ (x : List ℕ). bytes ++ x) (take-append-drop stops.count piece) in
    first_between watch (handed ++ waiting) _ (so_far wanted (bytes ++ take stops.count piece)).closed _
    (longer-grows wanted bytes (take stops.count piece))
    (rw all at (longer-grows wanted (bytes ++ take stops.count piece) (drop stops.count piece)))
    stops.instants
