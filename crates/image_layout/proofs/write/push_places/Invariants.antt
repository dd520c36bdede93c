use Rattle.std.proofs.Common.{◌≡◌, ◌++◌, take}
use Rattle.std.specs.Prelude.{flat_map}
use Rattle.image_layout.specs.Parts.{words, place_words}
use Rattle.image_layout.proofs.write.push_places.Given as goal

abbrev pub invariant-loop-place : goal.invariant-loop-place
invariant-loop-place l = l.out.items ≡ l.initial.out.items ++ flat_map (λ place. words (place_words place)) (take l.place-index l.places)
