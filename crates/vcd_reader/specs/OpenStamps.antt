-- All stamps of a dump, the open one with them.
use Rattle.std.specs.Prelude.{◌≡◌, ℕ, List, [], ◌∷◌, ◌++◌, drop}
use Rattle.capture_core.specs.declared.capture.Names.{Names}
use Rattle.capture_core.specs.declared.capture.Stamp.{Stamp}
use Rattle.capture_core.specs.declared.capture.Watch.{Watch}
use Rattle.capture_core.specs.Captures as captures
use Rattle.capture_core.specs.Captures.{Told}
use Rattle.vcd_header.specs.declared.signals.Signals.{Signals}
use Rattle.vcd_header.specs.Headers.{empty_header}
use Rattle.vcd_header.specs.Signals.{wanted_by}
use Rattle.vcd_reader.specs.declared.token.Token.{Token}
use Rattle.vcd_reader.specs.Dumps.{after_token, end_of, fault_of_file, so_far, vcd_capture}
use Rattle.vcd_reader.specs.Readings.{Reading, between, inside, changes, wanting, skipping, refused}
use Rattle.vcd_reader.specs.Tokens.{begun, ended, last_open}

-- the stamps where a token has led, the last one first: none in the header, and where the token is refused those that stood before it
abbrev pub stamps_after : List Stamp → Reading → List Stamp
stamps_after before (between h) = []
stamps_after before (inside h s words) = []
stamps_after before (changes b) = b.now ∷ b.closed
stamps_after before (wanting b level) = b.now ∷ b.closed
stamps_after before (skipping b) = b.now ∷ b.closed
stamps_after before (refused closed fault) = before

-- the stamps that tokens leave, after those that stood before them
abbrev pub stamps_from : Signals → List Stamp → Reading → List Token → List Stamp
stamps_from wanted before r [] = stamps_after before r
stamps_from wanted before r (t ∷ ts) = stamps_from wanted (stamps_after before r) (after_token wanted r t) ts

-- the stamps of tokens from the front of a dump
abbrev pub stamps_of : Signals → List Token → List Stamp
stamps_of wanted ts = stamps_from wanted [] (between empty_header) ts

-- the tokens of a file: those that white space ends, and the last one, if it has a byte
abbrev pub all_tokens : List ℕ → List Token
all_tokens bytes = ended bytes ++ begun (last_open bytes)

-- the stamps of a file, and how it ends
abbrev pub told_by : Names → Watch → List ℕ → Told
told_by names watch bytes =
    record { stamps = stamps_of (wanted_by names watch) (all_tokens bytes); end = end_of (fault_of_file names watch bytes) }

-- a dump is a capture of its stamps: all are closed by a clean end, and at a fault the last one is open and does not count
abbrev pub DumpsAreCaptures : Type 0
DumpsAreCaptures = (names : Names) (watch : Watch) (bytes : List ℕ)
    → vcd_capture names watch bytes ≡ captures.capture_of watch (told_by names watch bytes)

-- while a stream goes on its last stamp is open
abbrev pub LastStampIsOpen : Type 0
LastStampIsOpen = (wanted : Signals) (bytes : List ℕ) → (so_far wanted bytes).closed ≡ drop 1 (stamps_of wanted (ended bytes))
