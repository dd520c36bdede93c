-- The values of a dump, and the levels that they give.
use Rattle.std.specs.Prelude.{ℕ, Bool, true, false, ◌==◌, if◌then◌else◌, List, [], ◌∷◌, Option, Some, None, codes}
use Rattle.std.specs.List.{list_any}
use Rattle.wheel_types.specs.declared.channel.Channel.{Channel}
use Rattle.wheel_types.specs.declared.channel.Channel.TheVariants.{Crank, Cam1, Cam2}
use Rattle.capture_core.specs.declared.capture.Given.{Given}
use Rattle.capture_core.specs.Stamps.{with_level}
use Rattle.vcd_header.specs.declared.signals.Signals.{Signals}
use Rattle.vcd_header.specs.Texts.{same}

-- 0, 1, and the letters and the dash of the other values
abbrev pub is_value : ℕ → Bool
is_value b = list_any (λ c. b == c) (codes "01xXzZuUwWlLhH-")

-- the level that a value gives
abbrev pub level_of : ℕ → Option Bool
level_of b = if b == 48 then Some false else if b == 49 then Some true else None

-- the last of a list of values
abbrev pub last_of : List ℕ → ℕ → ℕ
last_of [] c = c
last_of (b ∷ bytes) c = last_of bytes b

-- the code is that of a watched channel
abbrev pub is_code : Option (List ℕ) → List ℕ → Bool
is_code None code = false
is_code (Some mine) code = same mine code

abbrev pub given_if : Bool → Channel → Bool → Given → Given
given_if is channel level g = if is then with_level channel level g else g

-- the levels of a stamp after a change of this code, which all channels of the code are given
abbrev pub given_by : Signals → Option Bool → List ℕ → Given → Given
given_by signals None code g = g
given_by signals (Some level) code g =
    given_if (is_code signals.cam2 code) Cam2 level (given_if (is_code signals.cam1 code) Cam1 level (given_if (same signals.crank code) Crank level g))

-- the keywords that have no effect by themselves among the changes
abbrev pub is_idle : List ℕ → Bool
is_idle text = list_any (λ w. same text w) (codes "$dumpvars" ∷ codes "$dumpall" ∷ codes "$dumpon" ∷ codes "$dumpoff" ∷ codes "$end" ∷ [])
