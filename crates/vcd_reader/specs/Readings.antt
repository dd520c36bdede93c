-- What the tokens of a dump have brought, and what one more brings in the header.
use Rattle.std.specs.Prelude.{ℕ, Bool, true, false, if◌then◌else◌, List, [], ◌∷◌, ◌++◌, length, Option, Some, None, Result, Ok, Err, pos}
use Rattle.capture_core.specs.declared.capture.Stamp.{Stamp}
use Rattle.capture_core.specs.declared.capture.VcdFault.{VcdFault}
use Rattle.capture_core.specs.declared.capture.VcdFault.TheVariants.{NoTimescale, BadToken}
use Rattle.capture_core.specs.Stamps.{nothing}
use Rattle.vcd_header.specs.declared.section.Section.{Section}
use Rattle.vcd_header.specs.declared.section.Section.TheVariants as section
use Rattle.vcd_header.specs.declared.signals.Signals.{Signals}
use Rattle.vcd_header.specs.Headers.{Header, Var, section_begun, word_fits, with_section}
use Rattle.vcd_header.specs.Signals.{signals_of}
use Rattle.vcd_header.specs.Texts.{is_end}

-- the part of the changes: femtoseconds for a unit of time, the watched codes, the closed stamps with the last first, and the
-- open one
pub record Body : Type 0 where
  pub scale : ℕ
  pub signals : Signals
  pub closed : List Stamp
  pub now : Stamp

-- where tokens have led: between two sections, inside one after these words, between two changes, before the code of a change to
-- this level, inside a section that is skipped, or to a fault after these closed stamps
pub data Reading : Type 0 where
  between : Header → Reading
  inside : Header → Section → List (List ℕ) → Reading
  changes : Body → Reading
  wanting : Body → Option Bool → Reading
  skipping : Body → Reading
  refused : List Stamp → VcdFault → Reading

-- a token has no meaning at its place
abbrev pub bad : List Stamp → ℕ → Reading
bad closed at = refused closed (BadToken at)

-- a token between two sections
abbrev pub inside_if : Header → Option Section → ℕ → Reading
inside_if h None at = bad [] at
inside_if h (Some s) at = inside h s []

abbrev pub level_token : Header → List ℕ → ℕ → Reading
level_token h text at = inside_if h (section_begun h text) at

-- the section ends
abbrev pub between_if : Option Header → ℕ → Reading
between_if None at = bad [] at
between_if (Some h) at = between h

-- the changes begin at time 0
abbrev pub first_body : ℕ → Signals → Body
first_body scale signals = record { scale = scale; signals = signals; closed = []; now = record { time = pos 0; given = nothing } }

abbrev pub changes_if : ℕ → Result Signals VcdFault → Reading
changes_if scale (Ok signals) = changes (first_body scale signals)
changes_if scale (Err fault) = refused [] fault

-- the header ends
abbrev pub header_ended : Signals → List Var → Option ℕ → Reading
header_ended wanted vars None = refused [] NoTimescale
header_ended wanted vars (Some scale) = changes_if scale (signals_of wanted vars)

abbrev pub is_last : Section → Bool
is_last section.EndDefinitions = true
is_last s = false

-- a token inside a section
abbrev pub section_token : Signals → Header → Section → List (List ℕ) → List ℕ → ℕ → Reading
section_token wanted h s words text at =
    if is_end text then (if is_last s then header_ended wanted h.vars h.scale else between_if (with_section h s words) at) else
    if word_fits s (length words) text then inside h s (words ++ text ∷ []) else bad [] at
