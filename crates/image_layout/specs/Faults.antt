-- The first of several faults, in the order in which the rules are tested.
use Rattle.std.specs.Prelude.{ℕ, zero, suc, ◌+◌, Bool, true, false, List, [], ◌∷◌, Option, Some, None}
use Rattle.image_layout.specs.declared.fault.ImageFault.{ImageFault}
use Rattle.image_layout.specs.declared.fault.ImageFault.TheVariants.{Order, Range}

-- the first of the faults
unfoldable pub first_of : List (Option ImageFault) → Option ImageFault
first_of [] = None
first_of (None ∷ faults) = first_of faults
first_of (Some fault ∷ faults) = Some fault

-- the first fault of the n entries from k on
unfoldable pub first_from : ℕ → ℕ → (ℕ → Option ImageFault) → Option ImageFault
first_from k zero fault_of = None
first_from k (suc n) fault_of = first_of (fault_of k ∷ first_from (k + 1) n fault_of ∷ [])

-- the fault, where the rule does not hold
abbrev pub unless : Bool → ImageFault → Option ImageFault
unless true fault = None
unless false fault = Some fault

-- a range that an entry of a section keeps
abbrev pub in_range : ℕ → ℕ → Bool → Option ImageFault
in_range section at holds = unless holds (Range section at)

-- an order that an entry of a section keeps to the one before
abbrev pub in_order : ℕ → ℕ → Bool → Option ImageFault
in_order section at holds = unless holds (Order section at)
