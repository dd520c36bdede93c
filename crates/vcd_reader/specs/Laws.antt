-- Laws of value change dumps: their tokens, however the bytes are cut, and what stays when more bytes come.
use Rattle.std.specs.Prelude.{◌≡◌, ◌↔◌, ℕ, ◌+◌, ◌<◌, ◌≤◌, ◌^◌, Bool, true, not, List, [], ◌∷◌, ◌++◌, length, Some, Contains}
use Rattle.std.specs.List.{list_all}
use Rattle.wheel_types.specs.declared.instant.Instant.{Instant}
use Rattle.wheel_types.specs.Verdicts as instants
use Rattle.capture_core.specs.declared.capture.End.TheVariants.{Vcd}
use Rattle.capture_core.specs.declared.capture.Names.{Names}
use Rattle.capture_core.specs.declared.capture.VcdFault.{VcdFault}
use Rattle.capture_core.specs.declared.capture.Watch.{Watch}
use Rattle.capture_core.specs.Stamps.{IsRising}
use Rattle.vcd_reader.specs.declared.reader.VcdReader.{VcdReader}
use Rattle.vcd_reader.specs.declared.token.Token.{Token}
use Rattle.vcd_reader.specs.Dumps.{fault_so_far, instants_so_far, vcd_capture, whole}
use Rattle.vcd_reader.specs.Readers.{StandsFor, waiting_in}
use Rattle.vcd_header.specs.Signals.{wanted_by}
use Rattle.vcd_reader.specs.Tokens.{ended, ended_from, last_open, open_from}
use Rattle.vcd_reader.specs.White.{is_white}

abbrev pub is_dark : ℕ → Bool
is_dark b = not (is_white b)

-- the last of the bytes is white space, or what comes before them is
abbrev pub last_white : Bool → List ℕ → Bool
last_white before [] = before
last_white before (b ∷ bytes) = last_white (is_white b) bytes

-- one of the longest runs without white space, with its place: white space or the front comes before it, and white space after it
pub record IsToken (bytes : List ℕ) (t : Token) : Type 0 where
  pub front : List ℕ
  pub white : ℕ
  pub rest : List ℕ
  pub all : bytes ≡ front ++ (t.text ++ white ∷ rest)
  pub at : t.at ≡ length front
  pub some : 1 ≤ length t.text
  pub dark : list_all is_dark t.text ≡ true
  pub before : last_white true front ≡ true
  pub after : is_white white ≡ true

-- the tokens that white space ends are exactly these runs
abbrev pub TokensAreRuns : Type 0
TokensAreRuns = (bytes : List ℕ) (t : Token) → Contains (ended bytes) t ↔ IsToken bytes t

-- each token ends before the next begins
abbrev pub IsInOrder : List Token → Type 0
IsInOrder [] = Unit {0}
IsInOrder (t ∷ []) = Unit {0}
IsInOrder (t ∷ u ∷ ts) = (t.at + length t.text < u.at) × IsInOrder (u ∷ ts)

-- the tokens stand in the order of the bytes
abbrev pub TokensInOrder : Type 0
TokensInOrder = (bytes : List ℕ) → IsInOrder (ended bytes)

-- the bytes after the last white space, with their place
pub record IsOpen (bytes : List ℕ) (t : Token) : Type 0 where
  pub front : List ℕ
  pub all : bytes ≡ front ++ t.text
  pub at : t.at ≡ length front
  pub dark : list_all is_dark t.text ≡ true
  pub before : last_white true front ≡ true

-- the open token is these
abbrev pub LastIsOpen : Type 0
LastIsOpen = (bytes : List ℕ) → IsOpen bytes (last_open bytes)

-- the tokens of joined pieces are those of the first, and those of the second after the token that the first leaves open
abbrev pub TokensOfJoined : Type 0
TokensOfJoined = (a b : List ℕ) → (ended (a ++ b) ≡ ended a ++ ended_from (last_open a) b) × (last_open (a ++ b) ≡ open_from (last_open a) b)

-- the times of a file's stamps rise, and so do those of its instants, which are at most a billion seconds in size
abbrev pub StampsRise : Type 0
StampsRise = (names : Names) (watch : Watch) (bytes : List ℕ) → IsRising (whole (wanted_by names watch) bytes).closed

abbrev pub InstantsRise : Type 0
InstantsRise = (names : Names) (watch : Watch) (bytes : List ℕ) → instants.IsRising (vcd_capture names watch bytes).instants

abbrev pub InstantsWithin : Type 0
InstantsWithin = (names : Names) (watch : Watch) (bytes : List ℕ) → instants.AreWithin (10 ^ 24) (vcd_capture names watch bytes).instants

-- the instants of a stream stay when more bytes come, and when it ends
abbrev pub InstantsStay : Type 0
InstantsStay = (names : Names) (watch : Watch) (bytes more : List ℕ)
    → (later : List Instant) × ((vcd_capture names watch (bytes ++ more)).instants ≡ instants_so_far names watch bytes ++ later)

-- a stream with a fault has its capture, whatever bytes come
abbrev pub FaultsStay : Type 0
FaultsStay = (names : Names) (watch : Watch) (bytes more : List ℕ) (fault : VcdFault) → fault_so_far names watch bytes ≡ Some fault
    → vcd_capture names watch (bytes ++ more) ≡ record { instants = instants_so_far names watch bytes; end = Vcd fault }

-- the instants of a stream that a reader stands for were taken or wait
abbrev pub AllAreTaken : Type 0
AllAreTaken = (names : Names) (watch : Watch) (handed : List Instant) (r : VcdReader) (bytes : List ℕ)
    → StandsFor names watch handed r bytes → instants_so_far names watch bytes ≡ handed ++ waiting_in r
