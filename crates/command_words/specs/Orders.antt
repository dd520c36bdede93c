-- Orders: commands with the texts of their operands.
use Rattle.std.specs.Prelude.{ℕ, ◌≢◌, ◌≤◌, ⊤, List, Some, None, option_map}
use Rattle.std.specs.declared.option.Option.{Option}
use Rattle.command_words.specs.declared.words.Command.{Command}
use Rattle.command_words.specs.declared.words.Command.TheVariants as command
use Rattle.command_words.specs.declared.numbers.Form.{Form}
use Rattle.command_words.specs.Options.{Options, options_of}

-- a command with the texts of its operands and options
pub data Order : Type 0 where
  Replay : List ℕ → List ℕ → Option (List ℕ) → Options → Order
  Import : List ℕ → List ℕ → Order
  Size : List ℕ → Order
  Compile : List ℕ → List ℕ → Order
  Check : List ℕ → List ℕ → List ℕ → List ℕ → Options → Order
  Audit : List ℕ → Order
  Trace : List ℕ → List ℕ → Options → Order
  Stim : List ℕ → Form → ℕ → ℕ → List ℕ → Order
  SelfTest : List ℕ → ℕ → ℕ → Order

-- the order that a command is
abbrev pub order_of : Command → Order
order_of (command.Replay model capture cert options) = Replay model.now capture.now (option_map (λ s. s.now) cert) (options_of options)
order_of (command.Import source name) = Import source.now name.now
order_of (command.Size wheel) = Size wheel.now
order_of (command.Compile wheel image) = Compile wheel.now image.now
order_of (command.Check wheel capture report cert options) = Check wheel.now capture.now report.now cert.now (options_of options)
order_of (command.Audit image) = Audit image.now
order_of (command.Trace image capture options) = Trace image.now capture.now (options_of options)
order_of (command.Stim wheel form seed gaps file) = Stim wheel.now form seed gaps file.now
order_of (command.SelfTest wheel seed gaps) = SelfTest wheel.now seed gaps

-- the file that a replay's certificate goes to is none that the replay reads
abbrev pub AreApart : Order → Type 0
AreApart (Replay model capture (Some cert) options) = (model ≢ cert) × (capture ≢ cert)
AreApart order = ⊤

-- the gaps of a stimulus are from one to a million
pub record HasGaps (gaps : ℕ) : Type 0 where
  pub some : 1 ≤ gaps
  pub most : gaps ≤ 1000000

-- so are those that an order asks for
abbrev pub AsksGaps : Order → Type 0
AsksGaps (Stim wheel form seed gaps file) = HasGaps gaps
AsksGaps (SelfTest wheel seed gaps) = HasGaps gaps
AsksGaps order = ⊤

-- the file that an order's command writes, where it writes one
abbrev pub writes_of : Order → Option (List ℕ)
writes_of (Compile wheel image) = Some image
writes_of (Replay model capture cert options) = cert
writes_of (Stim wheel form seed gaps file) = Some file
writes_of (Import source name) = None
writes_of (Size wheel) = None
writes_of (Check wheel capture report cert options) = None
writes_of (Audit image) = None
writes_of (Trace image capture options) = None
writes_of (SelfTest wheel seed gaps) = None
