use Rattle.std.proofs.Common.{◌≡◌, ℕ, ◌+◌, add-one, ◌∙◌, ap, sym, map, [], ◌∷◌, ◌++◌}
use Rattle.std.proofs.lemmas.List.{map-append}
use Rattle.wheel_types.specs.Edges.{below}
use Rattle.wheel_pattern.specs.Patterns.{slot_of}
use Rattle.wheel_pattern.proofs.tooth_pattern.pattern_slots.Goals as goal

-- one more number below adds one more value at the end
map_below_more : (f : ℕ → ℕ) (k : ℕ) → map f (below (k + 1)) ≡ map f (below k) ++ f k ∷ []
map_below_more f k = ap (λ n. map f (below n)) (add-one k) ∙ map-append f (below k) (k ∷ [])

pub loop-slot-preserved : goal.loop-slot-preserved
loop-slot-preserved c =
    rw (c.in_ok-push.ensures.items, c.loop-slot.invariant, c.slot_at.ensures) (sym (map_below_more (slot_of c.args.pattern) c.loop-slot.slot))
