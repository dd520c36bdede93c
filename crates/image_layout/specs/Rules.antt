-- The rules that the bytes of an image keep, in the order in which they are tested.
use Rattle.std.specs.Prelude.{ℕ, List, [], ◌∷◌, Option, IsNone}
use Rattle.image_layout.specs.declared.fault.ImageFault.{ImageFault}
use Rattle.image_layout.specs.Faults.{first_of}
use Rattle.image_layout.specs.HeaderRules.{header_fault}
use Rattle.image_layout.specs.ListRules.{slots_fault, places_fault, time_cuts_fault, ratio_cuts_fault}
use Rattle.image_layout.specs.StateRules.{kinds_fault, members_fault, rows_fault}

-- the first rule of the sections 1 to 7 that the bytes break
unfoldable pub sections_fault : List ℕ → Option ImageFault
sections_fault b = first_of (
    slots_fault b ∷ places_fault b ∷ time_cuts_fault b ∷ ratio_cuts_fault b
    ∷ kinds_fault b ∷ members_fault b ∷ rows_fault b ∷ [])

-- the first rule that the bytes break
unfoldable pub first_fault : List ℕ → Option ImageFault
first_fault b = first_of (header_fault b ∷ sections_fault b ∷ [])

-- the bytes keep every rule
abbrev pub IsImage : List ℕ → Type 0
IsImage b = IsNone (first_fault b)
