-- What the search for an edge finds.
use Rattle.std.specs.Prelude.{ℕ, ◌<◌, ◌≤◌, slice_index}
use Rattle.wheel_types.specs.declared.channel.Channel.{Channel}
use Rattle.wheel_types.specs.declared.parts.WheelParts.{WheelParts}
use Rattle.wheel_types.specs.Edges.{edge_count, edge_slots}

-- n edges of the channel, the first ones of a cycle, are before the slot, and no others
pub record IsCountBefore (w : WheelParts) (c : Channel) (slot n : ℕ) : Type 0 where
  pub within : n ≤ edge_count w c
  pub before : (k : ℕ) → k < n → slice_index (edge_slots w c) k < slot
  pub from : (k : ℕ) → n ≤ k → k < edge_count w c → slot ≤ slice_index (edge_slots w c) k
