-- A value change dump, read token after token.
use Rattle.std.specs.Prelude.{ℕ, if◌then◌else◌, List, [], ◌∷◌, length, Option, Some, None, fold}
use Rattle.wheel_types.specs.declared.instant.Instant.{Instant}
use Rattle.capture_core.specs.declared.capture.Capture.{Capture}
use Rattle.capture_core.specs.declared.capture.End.{End}
use Rattle.capture_core.specs.declared.capture.End.TheVariants.{Clean, Vcd}
use Rattle.capture_core.specs.declared.capture.Names.{Names}
use Rattle.capture_core.specs.declared.capture.Stamp.{Stamp}
use Rattle.capture_core.specs.declared.capture.VcdFault.{VcdFault}
use Rattle.capture_core.specs.declared.capture.VcdFault.TheVariants.{Cut}
use Rattle.capture_core.specs.declared.capture.Watch.{Watch}
use Rattle.capture_core.specs.Stamps.{instants_of}
use Rattle.vcd_header.specs.declared.signals.Signals.{Signals}
use Rattle.vcd_reader.specs.declared.token.Token.{Token}
use Rattle.vcd_reader.specs.Changes.{change_token, code_token}
use Rattle.vcd_header.specs.Headers.{empty_header}
use Rattle.vcd_reader.specs.Readings.{Reading, between, inside, changes, wanting, skipping, refused, level_token, section_token}
use Rattle.vcd_header.specs.Signals.{wanted_by}
use Rattle.vcd_header.specs.Texts.{is_end}
use Rattle.vcd_reader.specs.Tokens.{ended, last_open, begun}

-- what a token with this text and place brings
abbrev pub after_text : Signals → Reading → List ℕ → ℕ → Reading
after_text wanted (between h) text at = level_token h text at
after_text wanted (inside h s words) text at = section_token wanted h s words text at
after_text wanted (changes b) text at = change_token b text at
after_text wanted (wanting b level) text at = code_token b level text at
after_text wanted (skipping b) text at = if is_end text then changes b else skipping b
after_text wanted (refused closed fault) text at = refused closed fault

abbrev pub after_token : Signals → Reading → Token → Reading
after_token wanted r t = after_text wanted r t.text t.at

-- what tokens bring, from the front of a dump
abbrev pub after_tokens : Signals → List Token → Reading
after_tokens wanted ts = fold (after_token wanted) (between empty_header) ts

-- what the tokens of a stream bring that white space has ended
abbrev pub reading_of : Signals → List ℕ → Reading
reading_of wanted bytes = after_tokens wanted (ended bytes)

-- closed stamps, the last first, and a fault where there is one
pub record Outcome : Type 0 where
  pub closed : List Stamp
  pub fault : Option VcdFault

abbrev pub closed_of : Reading → List Stamp
closed_of (between h) = []
closed_of (inside h s words) = []
closed_of (changes b) = b.closed
closed_of (wanting b level) = b.closed
closed_of (skipping b) = b.closed
closed_of (refused closed fault) = closed

abbrev pub fault_of : Reading → Option VcdFault
fault_of (refused closed fault) = Some fault
fault_of r = None

-- the outcome of a stream that has not ended
abbrev pub so_far : Signals → List ℕ → Outcome
so_far wanted bytes = record { closed = closed_of (reading_of wanted bytes); fault = fault_of (reading_of wanted bytes) }

-- the end of a stream of this length comes here: the open stamp is closed between two changes, and else the stream is cut
abbrev pub at_end : Reading → ℕ → Outcome
at_end (changes b) length = record { closed = b.now ∷ b.closed; fault = None }
at_end (refused closed fault) length = record { closed = closed; fault = Some fault }
at_end r length = record { closed = closed_of r; fault = Some (Cut length) }

-- a last token that no white space ends brought this: where it is refused for any cause, the stream is cut at its first byte
abbrev pub at_last : Option VcdFault → Reading → ℕ → ℕ → Outcome
at_last (Some fault) next at length = record { closed = closed_of next; fault = Some (Cut at) }
at_last None next at length = at_end next length

-- that token comes after this reading, unless a fault came before it
abbrev pub after_last : Option VcdFault → Reading → Reading → ℕ → ℕ → Outcome
after_last (Some fault) r next at length = at_end r length
after_last None r next at length = at_last (fault_of next) next at length

abbrev pub with_end : Signals → Reading → List Token → ℕ → Outcome
with_end wanted r [] length = at_end r length
with_end wanted r (t ∷ more) length = after_last (fault_of r) r (after_token wanted r t) t.at length

-- the outcome of a whole file
abbrev pub whole : Signals → List ℕ → Outcome
whole wanted bytes = with_end wanted (reading_of wanted bytes) (begun (last_open bytes)) (length bytes)

-- how a capture ends
abbrev pub end_of : Option VcdFault → End
end_of None = Clean
end_of (Some fault) = Vcd fault

-- the instants and the end of an outcome
abbrev pub capture_of : Watch → Outcome → Capture
capture_of watch o = record { instants = instants_of watch o.closed; end = end_of o.fault }

-- the instants of a stream that has not ended, and the first rule that it breaks
abbrev pub instants_so_far : Names → Watch → List ℕ → List Instant
instants_so_far names watch bytes = instants_of watch (so_far (wanted_by names watch) bytes).closed

abbrev pub fault_so_far : Names → Watch → List ℕ → Option VcdFault
fault_so_far names watch bytes = (so_far (wanted_by names watch) bytes).fault

-- the capture of a whole file
abbrev pub vcd_capture : Names → Watch → List ℕ → Capture
vcd_capture names watch bytes = capture_of watch (whole (wanted_by names watch) bytes)

-- the first rule that a whole file breaks
abbrev pub fault_of_file : Names → Watch → List ℕ → Option VcdFault
fault_of_file names watch bytes = (whole (wanted_by names watch) bytes).fault
