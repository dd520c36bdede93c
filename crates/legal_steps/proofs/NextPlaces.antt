-- The place after a passed edge.
use Rattle.std.proofs.Common.{◌≡◌, ℕ, ◌+◌, ◌<◌, ℤ, pos, ◌+ℤ◌, ◌-ℤ◌, ◌*ℤ◌, refl, sym, ◌∙◌, ap, arith}
use Rattle.std.proofs.lemmas.Int.{ints}
use Rattle.wheel_types.specs.declared.channel.Channel.TheVariants.{Crank, Cam1, Cam2}
use Rattle.wheel_types.specs.declared.place.Place.{Place}
use Rattle.wheel_types.specs.declared.parts.WheelParts.{WheelParts}
use Rattle.wheel_types.specs.Edges.{edge_count}
use Rattle.wheel_types.specs.Motions.{Indices, passed}
use Rattle.wheel_types.specs.Verdicts.{place_of}
use Rattle.wheel_types.specs.Steps.{indices_of}
use Rattle.wheel_types.proofs.Shifted.{shifted, place_of-shifted}
use Rattle.wheel_types.proofs.Standing.{place_of-indices}

same_indices : (a b c d e f : ℤ) → a ≡ d → b ≡ e → c ≡ f → ◌≡◌ {A = Indices} (record { crank = a; cam1 = b; cam2 = c }) (record { crank = d; cam1 = e; cam2 = f })
same_indices a b c d e f p q r = rw (p, q, r)

-- a place by its parts
pub place_is : (r p : Place) → r.j ≡ p.j → r.n1 ≡ p.n1 → r.n2 ≡ p.n2 → r ≡ p
place_is r p e f g = by_parts r.j p.j r.n1 p.n1 r.n2 p.n2 e f g
  where
    by_parts : (a d : ℕ) (b e c f : ℤ) → a ≡ d → b ≡ e → c ≡ f → ◌≡◌ {A = Place} (record { j = a; n1 = b; n2 = c }) (record { j = d; n1 = e; n2 = f })
    by_parts a d b e c f p q r = rw (p, q, r)

-- after a crank edge that is not the last of its cycle
pub crank_within : (w : WheelParts) (p r : Place) → p.j + 1 < edge_count w Crank → r.j ≡ p.j + 1 → r.n1 ≡ p.n1 → r.n2 ≡ p.n2 → r ≡ place_of w (passed Crank (indices_of p))
crank_within w p r h e f g =
    let q : Place = record { j = p.j + 1; n1 = p.n1; n2 = p.n2 } in
    let next : indices_of q ≡ passed Crank (indices_of p) = same_indices _ _ _ _ _ _ (one_more p.j) refl refl in
    place_is r q e f g ∙ sym (place_of-indices w q h) ∙ ap (place_of w) next
  where
    one_more : (j : ℕ) → pos (j + 1 + 1) ≡ pos (j + 1) +ℤ pos 1
    one_more j = omega (arith, ints)

-- after the last one, a cycle back
pub crank_carried : (w : WheelParts) (p r : Place) → p.j < edge_count w Crank → p.j + 1 ≡ edge_count w Crank → r.j ≡ 0 → r.n1 ≡ p.n1 -ℤ pos (edge_count w Cam1) → r.n2 ≡ p.n2 -ℤ pos (edge_count w Cam2) → r ≡ place_of w (passed Crank (indices_of p))
crank_carried w p r h last e f g =
    let some : 0 < edge_count w Crank = omega (arith, h) in
    let q : Place = record { j = 0; n1 = p.n1 -ℤ pos (edge_count w Cam1); n2 = p.n2 -ℤ pos (edge_count w Cam2) } in
    let next : shifted w (pos 1) (indices_of q) ≡ passed Crank (indices_of p) = same_indices _ _ _ _ _ _ (turn p.j (edge_count w Crank) last) (there p.n1 (edge_count w Cam1)) (there p.n2 (edge_count w Cam2)) in
    place_is r q e f g ∙ sym (place_of-indices w q some) ∙ sym (place_of-shifted w (pos 1) (indices_of q) some) ∙ ap (place_of w) next
  where
    turn : (j count : ℕ) → j + 1 ≡ count → pos (0 + 1) +ℤ pos 1 *ℤ pos count ≡ pos (j + 1) +ℤ pos 1
    turn j count e = omega (arith, ints, e)

    there : (n : ℤ) (count : ℕ) → (n -ℤ pos count) +ℤ pos 1 *ℤ pos count ≡ n
    there n count = omega (arith, ints)

-- after an edge of the first cam
pub first_passed : (w : WheelParts) (p r : Place) → p.j < edge_count w Crank → r.j ≡ p.j → r.n1 ≡ p.n1 +ℤ pos 1 → r.n2 ≡ p.n2 → r ≡ place_of w (passed Cam1 (indices_of p))
first_passed w p r h e f g =
    let q : Place = record { j = p.j; n1 = p.n1 +ℤ pos 1; n2 = p.n2 } in
    place_is r q e f g ∙ sym (place_of-indices w q h)

-- and of the second
pub second_passed : (w : WheelParts) (p r : Place) → p.j < edge_count w Crank → r.j ≡ p.j → r.n1 ≡ p.n1 → r.n2 ≡ p.n2 +ℤ pos 1 → r ≡ place_of w (passed Cam2 (indices_of p))
second_passed w p r h e f g =
    let q : Place = record { j = p.j; n1 = p.n1; n2 = p.n2 +ℤ pos 1 } in
    place_is r q e f g ∙ sym (place_of-indices w q h)
