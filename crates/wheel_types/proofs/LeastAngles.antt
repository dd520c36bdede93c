-- Along a walk over standing places each move can be made at the least angle of the place after it.
use Rattle.std.proofs.Common.{◌≡◌, ◌<◌, List, [], ◌∷◌, ◌++◌, ℤ, pos, ◌+ℤ◌, ◌-ℤ◌, ◌≤ℤ◌, ◌*◌, refl, sym, ◌∙◌, ap, subst, arith}
use Rattle.std.proofs.lemmas.Int.{ints}
use Rattle.wheel_types.specs.declared.channel.Channel.{Channel}
use Rattle.wheel_types.specs.declared.channel.Channel.TheVariants.{Crank, Cam1, Cam2}
use Rattle.wheel_types.specs.declared.parts.WheelParts.{WheelParts}
use Rattle.wheel_types.specs.Edges.{edge_count, pol_of, angle_of, first_angle, early_of, slot_count}
use Rattle.wheel_types.specs.Motions.{Indices, index_of, passed, Stands, CamStands, Move, CanMake, CanMove, Event, events_passed, indices_after, angle_after, crank_passes}
use Rattle.wheel_types.specs.Steps.{Walks, IsStanding}
use Rattle.wheel_types.specs.Plain.{low_of}
use Rattle.wheel_types.specs.Named.{IsLeastAngle, AtLeastAngles}
use Rattle.wheel_types.proofs.Forward.{back_and_on, passes_by, indices_by, same_pass}
use Rattle.wheel_types.proofs.Rising.{angle_of-rises}
use Rattle.wheel_types.proofs.Tests.{standing_tested, stands_lowest, lowest_before}
use Rattle.wheel_types.proofs.GoesOn.{some_move, same_event}
use Rattle.wheel_types.proofs.StartsAndEnds.{indices_after-events}

-- where the engine can stand there is a least angle at which it does
pub least_angle : (w : WheelParts) (ix : Indices) → IsStanding w ix → (x : ℤ) × IsLeastAngle w ix x
least_angle w ix s = (low_of w ix, record { stands = stands_lowest w ix ((standing_tested w ix).1 s); least = λ y h. lowest_before w y ix h })

through : {a b c : ℤ} → a ≤ℤ b → b ≤ℤ c → a ≤ℤ c
through {a} {b} {c} h k = omega (arith, ints)

on_and_back : (m : ℤ) → (m -ℤ pos 1) +ℤ pos 1 ≡ m
on_and_back m = omega (arith, ints)

less_both : (a b e : ℤ) → a ≤ℤ b → (a -ℤ e) ≤ℤ (b -ℤ e)
less_both a b e h = omega (arith, ints)

-- the angles at which edge m may fall begin no earlier than those of the edge before
angle_before : (w : WheelParts) (m : ℤ) → 0 < edge_count w Crank → angle_of w Crank (m -ℤ pos 1) ≤ℤ angle_of w Crank m
angle_before w m h = subst (λ n. angle_of w Crank (m -ℤ pos 1) ≤ℤ angle_of w Crank n) (on_and_back m) (angle_of-rises w Crank (m -ℤ pos 1) h)

first_angle_before : (w : WheelParts) (c : Channel) (n : ℤ) → 0 < edge_count w c → first_angle w c (n -ℤ pos 1) ≤ℤ first_angle w c n
first_angle_before w c n h = less_both _ _ (pos (early_of w c * slot_count w)) (subst (λ k. angle_of w c (n -ℤ pos 1) ≤ℤ angle_of w c k) (on_and_back n) (angle_of-rises w c (n -ℤ pos 1) h))

-- a cam at an angle up to one at which it stands
cam_earlier : (w : WheelParts) (c : Channel) (n y z : ℤ) → (0 < edge_count w c → first_angle w c (n -ℤ pos 1) ≤ℤ y) → CamStands w c n z → y ≤ℤ z → CamStands w c n y
cam_earlier w c n y z low s h = record { absent = s.absent; behind = low; ahead = λ some. through h (s.ahead some) }

cam_moved : (w : WheelParts) (c : Channel) (n y z : ℤ) → CamStands w c (n +ℤ pos 1) y → CamStands w c n z → y ≤ℤ z → CamStands w c n y
cam_moved w c n y z next s h = cam_earlier w c n y z (λ some. through (first_angle_before w c n some) (subst (λ k. first_angle w c k ≤ℤ y) (back_and_on n) (next.behind some))) s h

-- an angle that stands after an edge stands before it, where some angle from there on does
stands_before : (w : WheelParts) (c : Channel) (ix : Indices) (y z : ℤ) → 0 < edge_count w Crank → Stands w y (passed c ix) → Stands w z ix → y ≤ℤ z → Stands w y ix
stands_before w Crank ix y z some next s h = record {
  behind = through (angle_before w ix.crank some) (subst (λ m. angle_of w Crank m ≤ℤ y) (back_and_on ix.crank) next.behind);
  ahead = through h s.ahead;
  cam1 = cam_earlier w Cam1 ix.cam1 y z next.cam1.behind s.cam1 h;
  cam2 = cam_earlier w Cam2 ix.cam2 y z next.cam2.behind s.cam2 h;
}
stands_before w Cam1 ix y z some next s h = record { behind = next.behind; ahead = through h s.ahead; cam1 = cam_moved w Cam1 ix.cam1 y z next.cam1 s.cam1 h; cam2 = next.cam2 }
stands_before w Cam2 ix y z some next s h = record { behind = next.behind; ahead = through h s.ahead; cam1 = next.cam1; cam2 = cam_moved w Cam2 ix.cam2 y z next.cam2 s.cam2 h }

-- from the least angle of a place a channel can move at the least angle of the next
pub least_move : (w : WheelParts) (c : Channel) (ix : Indices) (x y t : ℤ) → 0 < edge_count w Crank → 0 < edge_count w c → IsLeastAngle w ix x → IsLeastAngle w (passed c ix) y → CanMove w x ix (record { time = t; channel = c; angle = y })
least_move w c ix x y t crank some here next =
    let m = some_move w c x y ix t some here.stands next.stands in
    let before : Stands w y ix = stands_before w c ix y m.0 crank next.stands m.1.before (next.least m.0 m.1.after) in
    record { forward = here.least y before; present = some; before = before; after = next.stands }

-- ---- moves after others

pub indices_after-append : (ix : Indices) (g vs : List Move) → indices_after ix (g ++ vs) ≡ indices_after (indices_after ix vs) g
indices_after-append ix [] vs = refl
indices_after-append ix (v ∷ g) vs = ap (passed v.channel) (indices_after-append ix g vs)

pub events_passed-append : (w : WheelParts) (ix : Indices) (g vs : List Move) → events_passed w ix (g ++ vs) ≡ events_passed w (indices_after ix vs) g ++ events_passed w ix vs
events_passed-append w ix [] vs = refl
events_passed-append w ix (v ∷ g) vs = same_event v.time v.channel _ _ _ _ (ap (λ (k : Indices). pol_of w v.channel (index_of k v.channel)) (indices_after-append ix g vs)) (events_passed-append w ix g vs)

pub crank_passes-append : (w : WheelParts) (ix : Indices) (g vs : List Move) → crank_passes ix (g ++ vs) ≡ passes_by (indices_after ix vs) (events_passed w (indices_after ix vs) g) (crank_passes ix vs)
crank_passes-append w ix [] vs = refl
crank_passes-append w ix (v ∷ g) vs =
    same_pass v.channel v.channel v.time v.time (indices_after ix (g ++ vs)).crank (indices_by (indices_after ix vs) (events_passed w (indices_after ix vs) g)).crank (crank_passes ix (g ++ vs)) (passes_by (indices_after ix vs) (events_passed w (indices_after ix vs) g) (crank_passes ix vs)) refl refl
    (ap (λ (k : Indices). k.crank) (indices_after-append ix g vs ∙ indices_after-events w (indices_after ix vs) g))
    (crank_passes-append w ix g vs)

-- ---- a walk at least angles

pub record LeastWalk (w : WheelParts) (x : ℤ) (ix : Indices) (vs : List Move) (es : List Event) (to : Indices) : Type 0 where
  pub group : List Move
  pub can : CanMake w x ix (group ++ vs)
  pub passes : events_passed w (indices_after ix vs) group ≡ es
  pub ends : to ≡ indices_after ix (group ++ vs)
  pub last : IsLeastAngle w to (angle_after x (group ++ vs))
  pub angles : AtLeastAngles w ix (group ++ vs)

one_more : (w : WheelParts) (x : ℤ) (ix : Indices) (vs : List Move) (e : Event) (es : List Event) (mid to : Indices) → 0 < edge_count w Crank → LeastWalk w x ix vs es mid → 0 < edge_count w e.channel → pol_of w e.channel (index_of mid e.channel) ≡ e.polarity → IsStanding w to → to ≡ passed e.channel mid → LeastWalk w x ix vs (e ∷ es) to
one_more w x ix vs e es mid to crank r some pol standing ends =
    let all = r.group ++ vs in
    let here = indices_after ix all in
    let next : to ≡ passed e.channel here = ends ∙ ap (passed e.channel) r.ends in
    let y = least_angle w (passed e.channel here) (subst (IsStanding w) next standing) in
    let now : IsLeastAngle w here (angle_after x all) = subst (λ k. IsLeastAngle w k (angle_after x all)) r.ends r.last in
    let same : indices_after (indices_after ix vs) r.group ≡ mid = sym (r.ends ∙ indices_after-append ix r.group vs) in
    record {
      group = record { time = e.time; channel = e.channel; angle = y.0 } ∷ r.group;
      can = (least_move w e.channel here (angle_after x all) y.0 e.time crank some now y.1, r.can);
      passes = same_event e.time e.channel _ _ _ _ (ap (λ (k : Indices). pol_of w e.channel (index_of k e.channel)) same ∙ pol) r.passes;
      ends = next;
      last = subst (λ k. IsLeastAngle w k y.0) (sym next) y.1;
      angles = (y.1, r.angles);
    }

pub least_walk : (w : WheelParts) (x : ℤ) (ix : Indices) (vs : List Move) (es : List Event) (to : Indices) → 0 < edge_count w Crank → CanMake w x ix vs → IsLeastAngle w (indices_after ix vs) (angle_after x vs) → AtLeastAngles w ix vs → Walks w (indices_after ix vs) es to → LeastWalk w x ix vs es to
least_walk w x ix vs [] to crank can last angles walk = record { group = []; can = can; passes = refl; ends = walk; last = subst (λ k. IsLeastAngle w k (angle_after x vs)) (sym walk) last; angles = angles }
least_walk w x ix vs (e ∷ es) to crank can last angles walk = one_more w x ix vs e es walk.0 to crank (least_walk w x ix vs es walk.0 crank can last angles walk.1) walk.2 walk.3 walk.4 walk.5
