-- How the commands end, and what out got by then: what follows of their relations, end by end.
use Rattle.std.specs.Prelude.{◌≡◌, ◌≤◌, ◌⊎◌, ℕ, List, [], length, take, IsTrue, None, Result, Ok, Err}
use Rattle.std.specs.declared.option.Option.{Option}
use Rattle.shelf_traits.specs.Shelf.{View}
use Rattle.wheel_types.specs.declared.parts.WheelParts.{WheelParts}
use Rattle.capture_core.specs.declared.capture.Capture.{Capture}
use Rattle.c_tables.specs.Slots.{slots_text}
use Rattle.command_words.specs.Options.{Options}
use Rattle.run_ends.specs.declared.cause.Done.{Done}
use Rattle.run_ends.specs.declared.cause.Done.TheVariants as done
use Rattle.run_ends.specs.declared.cause.Cause.{Cause}
use Rattle.run_ends.specs.declared.cause.Cause.TheVariants as cause
use Rattle.run_ends.specs.Works.{Work, Told, HandsOn}
use Rattle.run_files.specs.Causes.{FileGives, SourceGives, ended_by}
use Rattle.run_files.specs.Files.{HasTable}
use Rattle.table_models.specs.Models.{HasModel, IsNoModel}
use Rattle.wheelsync.specs.Complete.{AreRead}
use Rattle.wheelsync.specs.Headline.{IsReport}
use Rattle.wheelsync.specs.Replay.{IsReplay}
use Rattle.wheelsync.specs.Import.{IsImport}

-- a named file of a replay is not there: the model, or, that being accepted, the capture
abbrev pub IsMissing : (List ℕ → Option (List ℕ)) → (model capture : List ℕ) → Type 0
IsMissing file model capture = (file model ≡ None) ⊎ ((w : WheelParts) × (HasModel file model w × (file capture ≡ None)))

-- out got the report of a capture that was read, which gives this end
abbrev pub GotReport : (List ℕ → Option (List ℕ)) → (model capture : List ℕ) → Options → (end : Result Done Cause) → (out : List ℕ) → Type 0
GotReport file model capture o end out = (w : WheelParts) × ((c : Capture) × (AreRead file model capture o w c × ((end ≡ ended_by c.end) × IsReport w c.instants out)))

-- out got nothing, or a front of the report of a capture that was read
abbrev pub GotFront : (List ℕ → Option (List ℕ)) → (model capture : List ℕ) → Options → (out : List ℕ) → Type 0
GotFront file model capture o out =
    (out ≡ []) ⊎ ((w : WheelParts) × ((c : Capture) × ((text : List ℕ) × ((k : ℕ) × (AreRead file model capture o w c × (IsReport w c.instants text × ((k ≤ length text) × (out ≡ take k text))))))))

-- how a replay ends, and what out got by then
abbrev pub ReplayEnds : View → (model capture : List ℕ) → Options → Result Done Cause → (out : List ℕ) → Type 0
ReplayEnds v model capture o (Ok x) out = (x ≡ done.Whole) × Told v (GotReport v.file model capture o (Ok done.Whole) out)
ReplayEnds v model capture o (Err (cause.Refused r)) out =
    Told v (((out ≡ []) × IsNoModel v.file model (cause.Refused r)) ⊎ GotReport v.file model capture o (Err (cause.Refused r)) out)
ReplayEnds v model capture o (Err (cause.Limit l)) out =
    (out ≡ []) × Told v (IsNoModel v.file model (cause.Limit l) ⊎ ((w : WheelParts) × (HasModel v.file model w × FileGives v.file capture (cause.Limit l))))
ReplayEnds v model capture o (Err cause.ReadFault) out = (out ≡ []) × Told v (IsTrue v.steady → IsMissing v.file model capture)
ReplayEnds v model capture o (Err cause.WriteFault) out = Told v (GotFront v.file model capture o out)
ReplayEnds v model capture o (Err cause.Memory) out = Told v (GotFront v.file model capture o out)
ReplayEnds v model capture o (Err cause.Usage) out = ⊥

-- out got nothing, or a front of the line of a table
abbrev pub GotTableFront : (List ℕ → Option (List ℕ)) → (source name out : List ℕ) → Type 0
GotTableFront file source name out =
    (out ≡ []) ⊎ ((slots : List ℕ) × ((k : ℕ) × (HasTable file source name slots × ((k ≤ length (slots_text slots)) × (out ≡ take k (slots_text slots))))))

-- how an import ends, and what out got by then
abbrev pub ImportEnds : View → (source name : List ℕ) → Result Done Cause → (out : List ℕ) → Type 0
ImportEnds v source name (Ok x) out = (x ≡ done.Whole) × Told v ((slots : List ℕ) × (HasTable v.file source name slots × (out ≡ slots_text slots)))
ImportEnds v source name (Err cause.ReadFault) out = (out ≡ []) × Told v (IsTrue v.steady → v.file source ≡ None)
ImportEnds v source name (Err cause.WriteFault) out = Told v (GotTableFront v.file source name out)
ImportEnds v source name (Err cause.Memory) out = Told v (GotTableFront v.file source name out)
ImportEnds v source name (Err e) out = (out ≡ []) × Told v (SourceGives v.file source name e)

-- every replay ends so, with any taps
abbrev pub ReplaysEnd : Type 0
ReplaysEnd = (v : View) (tails : List ℕ → List ℕ) (model capture : List ℕ) (o : Options) (work : Work) → HandsOn (IsReplay v tails model capture o) work → ReplayEnds v model capture o work.end work.out

-- every import ends so
abbrev pub ImportsEnd : Type 0
ImportsEnd = (v : View) (source name : List ℕ) (work : Work) → HandsOn (IsImport v source name) work → ImportEnds v source name work.end work.out
