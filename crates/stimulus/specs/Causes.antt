-- Why there is no stimulus.
use Rattle.std.specs.Prelude.{ℕ, ◌<◌, ◌≤◌, ⊤}
use Rattle.wheel_types.specs.declared.parts.WheelParts.{WheelParts}
use Rattle.stimulus.specs.declared.fault.StimFault.{StimFault}
use Rattle.stimulus.specs.declared.fault.StimFault.TheVariants.{Stuck, TooManyEdges, Memory}
use Rattle.stimulus.specs.Gaps.{HasTimes, IsStuck}
use Rattle.stimulus.specs.Drawn.{IsEdgeCount}

-- how many edges a stimulus may have
abbrev pub most_edges : ℕ
most_edges = 4000000

-- the stimulus has so many edges at most
abbrev pub HasFewEdges : WheelParts → ℕ → ℕ → Type 0
HasFewEdges w seed gaps = (n : ℕ) × (IsEdgeCount w seed gaps n × (n ≤ most_edges))

-- and here it has more
abbrev pub HasManyEdges : WheelParts → ℕ → ℕ → Type 0
HasManyEdges w seed gaps = (n : ℕ) × (IsEdgeCount w seed gaps n × (most_edges < n))

-- what the fault says is so
abbrev pub Says : WheelParts → ℕ → ℕ → StimFault → Type 0
Says w seed gaps (Stuck gap low high) = IsStuck w seed gaps gap low high
Says w seed gaps TooManyEdges = HasManyEdges w seed gaps
Says w seed gaps Memory = ⊤

-- and it is the first that is so: edges are too many only where each gap has a time
abbrev pub IsCause : WheelParts → ℕ → ℕ → StimFault → Type 0
IsCause w seed gaps (Stuck gap low high) = IsStuck w seed gaps gap low high
IsCause w seed gaps TooManyEdges = HasTimes w seed gaps × HasManyEdges w seed gaps
IsCause w seed gaps Memory = ⊤
