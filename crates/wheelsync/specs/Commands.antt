-- What serving words means.
use Rattle.std.specs.Prelude.{◌≡◌, List, [], None, Some}
use Rattle.std.specs.declared.option.Option.{Option}
use Rattle.shelf_traits.specs.Shelf.{View}
use Rattle.tap_board.specs.Meanings.{Meaning, tails_after}
use Rattle.command_words.specs.Words.{Order, Replay, Import, Size, Compile, Check, Audit, Trace, Stim, SelfTest}
use Rattle.run_ends.specs.declared.cause.Cause.TheVariants.{Usage}
use Rattle.run_ends.specs.Works.{Work, HandsOn, stopped}
use Rattle.check_command.specs.Check.{IsCheck}
use Rattle.wheelsync.specs.Replay.{IsReplayed}
use Rattle.wheelsync.specs.Import.{IsImport}
use Rattle.table_commands.specs.Size.{IsSize}
use Rattle.compile_command.specs.Compile.{IsCompile}
use Rattle.image_commands.specs.Audit.{IsAudit}
use Rattle.image_commands.specs.Trace.{IsTrace}
use Rattle.stimulus_commands.specs.Stim.{IsStim}
use Rattle.stimulus_commands.specs.SelfTest.{IsSelfTest}

-- What the work for an order may come to, with taps that have these meanings: those of a replay are told of it, and no other work tells any.
abbrev pub IsCommand : View → (taps : List Meaning) → Order → Work → Type 0
IsCommand v taps (Replay model capture cert o) = IsReplayed v (tails_after taps) model capture cert o
IsCommand v taps (Import source name) = IsImport v source name
IsCommand v taps (Size wheel) = IsSize v wheel
IsCommand v taps (Compile wheel image) = IsCompile v wheel image
IsCommand v taps (Check wheel capture report cert o) = IsCheck v wheel capture report cert o
IsCommand v taps (Audit image) = IsAudit v image
IsCommand v taps (Trace image capture o) = IsTrace v image capture o
IsCommand v taps (Stim wheel form seed gaps file) = IsStim v wheel form seed gaps file
IsCommand v taps (SelfTest wheel seed gaps) = IsSelfTest v wheel seed gaps

-- What the work for words may come to: past its end out is handed on. Words that are none stop it at once, with nothing opened or written.
abbrev pub IsWork : View → (taps : List Meaning) → Option Order → Work → Type 0
IsWork v taps None work = work ≡ stopped [] Usage
IsWork v taps (Some order) work = HandsOn (IsCommand v taps order) work
