-- What an audit of an image tells.
use Rattle.std.specs.Prelude.{ℕ, ⊤, List}
use Rattle.cam_ranges.specs.Places.{HasTooMany}
use Rattle.image_layout.specs.Fields.{wheel_parts_of}
use Rattle.position_nfa.specs.Alphabets.{Alphabet, IsAlphabetOf}
use Rattle.audit_faults.specs.declared.fault.AuditFault.{AuditFault}
use Rattle.audit_faults.specs.declared.fault.AuditFault.TheVariants.{TooManyPlaces, Memory}
use Rattle.image_audit.specs.Differences.{IsFirst}

-- the fault is the first difference between the image and the places and cuts of its own wheel
abbrev pub IsFirstOfWheel : List ℕ → AuditFault → Type 0
IsFirstOfWheel b fault = (a : Alphabet) × (IsAlphabetOf (wheel_parts_of b) a × IsFirst a b fault)

-- the wheel has too many places, or the fault is the first difference; want of memory tells nothing
abbrev pub IsAuditFault : List ℕ → AuditFault → Type 0
IsAuditFault b TooManyPlaces = HasTooMany (wheel_parts_of b)
IsAuditFault b Memory = ⊤
IsAuditFault b fault = IsFirstOfWheel b fault
