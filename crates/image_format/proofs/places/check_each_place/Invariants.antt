use Rattle.std.proofs.Common.{◌≡◌, ℕ, ◌<◌, None}
use Rattle.image_layout.specs.ListRules.{place_fault}
use Rattle.image_format.proofs.places.check_each_place.Given as goal

abbrev pub invariant-loop-i : goal.invariant-loop-i
invariant-loop-i l = (k : ℕ) → k < l.i → place_fault l.bytes k ≡ None
