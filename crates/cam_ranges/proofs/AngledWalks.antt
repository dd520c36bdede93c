-- Angles of walks over standing places.
use Rattle.std.proofs.Common.{◌≡◌, ℕ, ◌<◌, List, [], ◌∷◌, ℤ, pos, ◌+ℤ◌, arith}
use Rattle.std.proofs.lemmas.Int.{ints}
use Rattle.wheel_types.specs.declared.channel.Channel.{Channel}
use Rattle.wheel_types.specs.declared.channel.Channel.TheVariants.{Crank, Cam1, Cam2}
use Rattle.wheel_types.specs.declared.place.Place.{Place}
use Rattle.wheel_types.specs.declared.parts.WheelParts.{WheelParts}
use Rattle.wheel_types.specs.Wheels.{IsWheel}
use Rattle.wheel_types.specs.Edges.{edge_count}
use Rattle.wheel_types.specs.Motions.{Indices, passed, Stands, CamStands}
use Rattle.wheel_types.specs.Steps.{IsStanding, indices_of}
use Rattle.wheel_types.specs.Named.{IsLeastAngle}
use Rattle.wheel_types.proofs.LeastAngles.{least_angle, least_move}
use Rattle.cam_ranges.specs.Walks.{after_passes, walk_of, AllStand, CanPass, MakePasses, AreLeastAngles}
use Rattle.cam_ranges.specs.Laws.{AnglesOfWalk}

-- ---- a channel that passes is there

-- two edges in turn are not both edge 0
not_both_none : (n : ℤ) → n ≡ pos 0 → n +ℤ pos 1 ≡ pos 0 → ⊥
not_both_none n e f = absurd (omega (arith, ints, e, f))

-- a channel that has not no edges has some
none_or_some : (k : ℕ) → (k ≡ 0 → ⊥) → 0 < k
none_or_some k h = grind arith

-- a cam that stands before and after an edge has edges
cam_present : (w : WheelParts) (c : Channel) (n x y : ℤ) → CamStands w c n x → CamStands w c (n +ℤ pos 1) y → 0 < edge_count w c
cam_present w c n x y s next = none_or_some (edge_count w c) (λ none. not_both_none n (s.absent none) (next.absent none))

-- and so for every channel
present : (w : WheelParts) (c : Channel) (ix : Indices) (x y : ℤ) → 0 < edge_count w Crank → Stands w x ix → Stands w y (passed c ix) → 0 < edge_count w c
present w Crank ix x y crank s next = crank
present w Cam1 ix x y crank s next = cam_present w Cam1 ix.cam1 x y s.cam1 next.cam1
present w Cam2 ix x y crank s next = cam_present w Cam2 ix.cam2 x y s.cam2 next.cam2

-- ---- where angles make the passes, every place stands

-- the last place of the walk, and those before it
at_end : (w : WheelParts) (ix : Indices) (cs : List Channel) → AllStand w (walk_of ix cs) → IsStanding w (after_passes ix cs)
at_end w ix [] h = h.0
at_end w ix (c ∷ cs) h = h.0

-- each pass leads where the engine stands
passes_stand : (w : WheelParts) (ix : Indices) (cs : List Channel) (xs : List ℤ) → MakePasses w ix cs xs → AllStand w (walk_of ix cs)
passes_stand w ix [] [] h = absurd h
passes_stand w ix [] (x ∷ []) h = ((x, h), tt)
passes_stand w ix [] (y ∷ x ∷ xs) h = absurd h
passes_stand w ix (c ∷ cs) [] h = absurd h
passes_stand w ix (c ∷ cs) (x ∷ []) h = absurd h
passes_stand w ix (c ∷ cs) (y ∷ x ∷ xs) h = ((y, (h.0 (pos 0)).after), passes_stand w ix cs (x ∷ xs) h.1)

-- ---- the least angles make the passes

-- from the least angle of a place a channel can pass at the least angle of the next
can_pass : (w : WheelParts) (c : Channel) (ix : Indices) (x y : ℤ) → 0 < edge_count w Crank → IsLeastAngle w ix x → IsLeastAngle w (passed c ix) y → CanPass w x ix c y
can_pass w c ix x y crank here next = λ t. least_move w c ix x y t crank (present w c ix x y crank here.stands next.stands) here next

-- the first of the least angles of a walk is that of its last place
first_least : (w : WheelParts) (ix : Indices) (cs : List Channel) (x : ℤ) (xs : List ℤ) → AreLeastAngles w (walk_of ix cs) (x ∷ xs) → IsLeastAngle w (after_passes ix cs) x
first_least w ix [] x xs h = h.0
first_least w ix (c ∷ cs) x xs h = h.0

-- a walk has at least one place
no_angles : (w : WheelParts) (ix : Indices) (cs : List Channel) → AreLeastAngles w (walk_of ix cs) [] → ⊥
no_angles w ix [] h = h
no_angles w ix (c ∷ cs) h = h

-- so the least angles make the passes
least_pass : (w : WheelParts) (ix : Indices) (cs : List Channel) (xs : List ℤ) → 0 < edge_count w Crank → AreLeastAngles w (walk_of ix cs) xs → MakePasses w ix cs xs
least_pass w ix [] [] crank h = absurd h
least_pass w ix [] (x ∷ []) crank h = h.0.stands
least_pass w ix [] (y ∷ x ∷ xs) crank h = absurd h.1
least_pass w ix (c ∷ cs) [] crank h = absurd h
least_pass w ix (c ∷ cs) (x ∷ []) crank h = absurd (no_angles w ix cs h.1)
least_pass w ix (c ∷ cs) (y ∷ x ∷ xs) crank h = (can_pass w c (after_passes ix cs) x y crank (first_least w ix cs x xs h.1) h.0, least_pass w ix cs (x ∷ xs) crank h.1)

-- places that stand have least angles
least_angles : (w : WheelParts) (ixs : List Indices) → AllStand w ixs → (xs : List ℤ) × AreLeastAngles w ixs xs
least_angles w [] h = ([], tt)
least_angles w (ix ∷ ixs) h =
    let x = least_angle w ix h.0 in
    let xs = least_angles w ixs h.1 in
    (x.0 ∷ xs.0, (x.1, xs.1))

-- what angles have to say of a walk
pub angles_of_walk : (w : WheelParts) (start : Place) (cs : List Channel) → IsWheel w → AnglesOfWalk w start cs
angles_of_walk w start cs wheel =
    let crank : 0 < edge_count w Crank = omega (arith, wheel.crank_edge) in
    let ix = indices_of start in
    record {
      exist = (λ a. passes_stand w ix cs a.0 a.1, λ h. let xs = least_angles w (walk_of ix cs) h in (xs.0, least_pass w ix cs xs.0 crank xs.1));
      least = least_angles w (walk_of ix cs);
      least_pass = λ xs h. least_pass w ix cs xs crank h;
    }
