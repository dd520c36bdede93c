-- The search by halving for the edges before a slot.
use Rattle.std.proofs.Common.{◌≡◌, ℕ, ◌+◌, ◌<◌, ◌≤◌, ◌⊎◌, inl, inr, sym, subst, arith}
use Rattle.std.specs.Prelude.{slice_index}
use Rattle.wheel_types.specs.declared.channel.Channel.{Channel}
use Rattle.wheel_types.specs.declared.parts.WheelParts.{WheelParts}
use Rattle.wheel_types.specs.Edges.{edge_count, edge_slots}
use Rattle.edge_angles.proofs.Tables.{edge_slots-rise}

-- the edges below `first` are before the slot, those from `end` on are not
pub record AreApart (w : WheelParts) (c : Channel) (slot first end : ℕ) : Type 0 where
  pub before : (k : ℕ) → k < first → slice_index (edge_slots w c) k < slot
  pub from : (k : ℕ) → end ≤ k → k < edge_count w c → slot ≤ slice_index (edge_slots w c) k

-- a number below the next is below or equal
lesser : (a b : ℕ) → a < b + 1 → (a < b) ⊎ (a ≡ b)
lesser a b h = grind arith

-- a number from another on is after it or equal
greater : (a b : ℕ) → b ≤ a → (b < a) ⊎ (b ≡ a)
greater a b h = grind arith

-- the middle edge is before the slot
pub apart_above : (w : WheelParts) (c : Channel) (slot first end middle : ℕ) → AreApart w c slot first end → middle < edge_count w c → slice_index (edge_slots w c) middle < slot → AreApart w c slot (middle + 1) end
apart_above w c slot first end middle a within here = record { before = λ k below. up_to k (lesser k middle below); from = a.from }
  where
    up_to : (k : ℕ) → (k < middle) ⊎ (k ≡ middle) → slice_index (edge_slots w c) k < slot
    up_to k (inl l) =
        let rises : slice_index (edge_slots w c) k < slice_index (edge_slots w c) middle = edge_slots-rise w c k middle l within in
        omega (arith, rises, here)
    up_to k (inr e) = subst (λ n. slice_index (edge_slots w c) n < slot) (sym e) here

-- it is not
pub apart_below : (w : WheelParts) (c : Channel) (slot first end middle : ℕ) → AreApart w c slot first end → slot ≤ slice_index (edge_slots w c) middle → AreApart w c slot first middle
apart_below w c slot first end middle a here = record { before = a.before; from = λ k above within. onwards k within (greater k middle above) }
  where
    onwards : (k : ℕ) → k < edge_count w c → (middle < k) ⊎ (middle ≡ k) → slot ≤ slice_index (edge_slots w c) k
    onwards k within (inl l) =
        let rises : slice_index (edge_slots w c) middle < slice_index (edge_slots w c) k = edge_slots-rise w c middle k l within in
        omega (arith, rises, here)
    onwards k within (inr e) = subst (λ n. slot ≤ slice_index (edge_slots w c) n) e here
