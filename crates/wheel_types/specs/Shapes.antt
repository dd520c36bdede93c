-- The shape of an instant, as a number from 1 to 26.
use Rattle.std.specs.Prelude.{ℕ, zero, suc, ◌+◌, ◌*◌, Option, Some, None}
use Rattle.wheel_types.specs.declared.channel.Pol.{Pol}
use Rattle.wheel_types.specs.declared.channel.Pol.TheVariants.{Rise, Fall}

-- no edge, a rising one, a falling one
abbrev pub digit_of : Option Pol → ℕ
digit_of None = 0
digit_of (Some Rise) = 1
digit_of (Some Fall) = 2

-- the edge that a digit stands for
abbrev pub edge_of : ℕ → Option Pol
edge_of zero = None
edge_of (suc zero) = Some Rise
edge_of (suc (suc n)) = Some Fall

-- the number of the shape of an instant with these edges on crank, first cam and second cam
abbrev pub shape_number : Option Pol → Option Pol → Option Pol → ℕ
shape_number crank cam1 cam2 = digit_of crank + 3 * digit_of cam1 + 9 * digit_of cam2
