-- What a check answers.
use Rattle.std.specs.Prelude.{◌≡◌, Option, Some, None, Result, Ok, Err}
use Rattle.image_layout.specs.declared.fault.ImageFault.{ImageFault}

-- Ok where there is no fault, else the fault
abbrev pub Tells : {X : Type 0} → Result X ImageFault → Option ImageFault → Type 0
Tells (Ok _) fault = fault ≡ None
Tells (Err f) fault = fault ≡ Some f
