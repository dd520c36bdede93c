-- A motion goes on along any walk over standing places, with cams too.
use Rattle.std.proofs.Common.{◌≡◌, ℕ, ◌*◌, ◌<◌, List, [], ◌∷◌, ◌++◌, ℤ, pos, ◌+ℤ◌, ◌-ℤ◌, ◌≤ℤ◌, refl, sym, ◌∙◌, ap, subst, arith}
use Rattle.std.proofs.lemmas.Int.{ints}
use lib.Signed.{≤ℤ_refl}
use Rattle.std.specs.Prelude.{⊤}
use Rattle.std.proofs.lemmas.Int.{by_lt_z}
use Rattle.wheel_types.specs.declared.channel.Pol.{Pol}
use Rattle.wheel_types.specs.declared.channel.Channel.{Channel}
use Rattle.wheel_types.specs.declared.channel.Channel.TheVariants.{Crank, Cam1, Cam2}
use Rattle.wheel_types.specs.declared.parts.WheelParts.{WheelParts}
use Rattle.wheel_types.specs.Edges.{edge_count, pol_of, angle_of, first_angle, last_angle, early_of, late_of, slot_count}
use Rattle.wheel_types.specs.Motions.{Indices, index_of, passed, Stands, CamStands, Move, CanMake, CanMove, Event, events_passed, indices_after, angle_after, crank_passes}
use Rattle.wheel_types.specs.Steps.{Walks, IsStanding}
use Rattle.wheel_types.proofs.Forward.{back_and_on, indices_by, passes_by, same_pass}
use Rattle.wheel_types.proofs.Rising.{last_angle-rises}

through : {a b c : ℤ} → a ≤ℤ b → b ≤ℤ c → a ≤ℤ c
through {a} {b} {c} h k = omega (arith, ints)

-- an angle from y on at which the cam stands before and after its edge
pub record Meets (w : WheelParts) (c : Channel) (n y : ℤ) (bound : ℤ → Type 0) : Type 0 where
  pub at : ℤ
  pub forward : y ≤ℤ at
  pub passes : first_angle w c n ≤ℤ at
  pub least : (z : ℤ) → y ≤ℤ z → first_angle w c n ≤ℤ z → at ≤ℤ z

meets : (w : WheelParts) (c : Channel) (n y : ℤ) → Meets w c n y (λ _. ⊤)
meets w c n y =
    by_lt_z y (first_angle w c n)
    (λ h. record { at = first_angle w c n; forward = (let k : y ≤ℤ first_angle w c n = omega (arith, ints, h) in k); passes = ≤ℤ_refl _; least = λ z a b. b })
    (λ h. record { at = y; forward = ≤ℤ_refl _; passes = h; least = λ z a b. a })

-- a cam's range does not end before it begins
range : (w : WheelParts) (c : Channel) (n : ℤ) → first_angle w c n ≤ℤ last_angle w c n
range w c n = spread (angle_of w c n) (early_of w c * slot_count w) (late_of w c * slot_count w)
  where
    spread : (a : ℤ) (e l : ℕ) → (a -ℤ pos e) ≤ℤ (a +ℤ pos l)
    spread a e l = omega (arith, ints)

-- a channel that does not move stands at a later angle, up to a bound at which it stands
cam_stays : (w : WheelParts) (c : Channel) (n y z x : ℤ) → y ≤ℤ z → (0 < edge_count w c → z ≤ℤ last_angle w c n) → CamStands w c n y → CamStands w c n z
cam_stays w c n y z x h k s = record { absent = s.absent; behind = λ some. through (s.behind some) h; ahead = k }

-- the crank moves at its angle
crank_goes : (w : WheelParts) (y x : ℤ) (ix : Indices) (t : ℤ) → 0 < edge_count w Crank → Stands w y ix → Stands w x (passed Crank ix) → CanMove w y ix (record { time = t; channel = Crank; angle = angle_of w Crank ix.crank })
crank_goes w y x ix t some s next =
    let a = angle_of w Crank ix.crank in
    let here : angle_of w Crank ((ix.crank +ℤ pos 1) -ℤ pos 1) ≡ a = ap (angle_of w Crank) (back_and_on ix.crank) in
    let up : a ≤ℤ x = subst (λ z. z ≤ℤ x) here next.behind in
    let one : CamStands w Cam1 ix.cam1 a = cam_stays w Cam1 ix.cam1 y a x s.ahead (λ k. through up (next.cam1.ahead k)) s.cam1 in
    let two : CamStands w Cam2 ix.cam2 a = cam_stays w Cam2 ix.cam2 y a x s.ahead (λ k. through up (next.cam2.ahead k)) s.cam2 in
    record {
      forward = s.ahead;
      present = some;
      before = record { behind = through s.behind s.ahead; ahead = ≤ℤ_refl _; cam1 = one; cam2 = two };
      after = record { behind = subst (λ z. z ≤ℤ a) (sym here) (≤ℤ_refl _); ahead = through up next.ahead; cam1 = one; cam2 = two };
    }

-- the cam that moves, before and after
cam_before : (w : WheelParts) (c : Channel) (n y x : ℤ) → 0 < edge_count w c → CamStands w c n y → CamStands w c (n +ℤ pos 1) x → (m : Meets w c n y (λ _. ⊤)) → CamStands w c n m.at
cam_before w c n y x some s next m = record { absent = s.absent; behind = λ k. through (s.behind k) m.forward; ahead = λ k. m.least (last_angle w c n) (s.ahead k) (range w c n) }

cam_after : (w : WheelParts) (c : Channel) (n y x : ℤ) → 0 < edge_count w c → CamStands w c n y → CamStands w c (n +ℤ pos 1) x → (m : Meets w c n y (λ _. ⊤)) → CamStands w c (n +ℤ pos 1) m.at
cam_after w c n y x some s next m =
    let here : first_angle w c ((n +ℤ pos 1) -ℤ pos 1) ≡ first_angle w c n = ap (first_angle w c) (back_and_on n) in
    record {
      absent = next.absent;
      behind = λ k. subst (λ z. z ≤ℤ m.at) (sym here) m.passes;
      ahead = λ k. m.least (last_angle w c (n +ℤ pos 1)) (through (s.ahead k) (last_angle-rises w c n k)) (through (subst (λ z. z ≤ℤ x) here (next.behind k)) (next.ahead k));
    }

lower : (w : WheelParts) (c : Channel) (n x : ℤ) → 0 < edge_count w c → CamStands w c (n +ℤ pos 1) x → first_angle w c n ≤ℤ x
lower w c n x some next = subst (λ z. z ≤ℤ x) (ap (first_angle w c) (back_and_on n)) (next.behind some)

cam1_goes : (w : WheelParts) (y x : ℤ) (ix : Indices) (t : ℤ) → 0 < edge_count w Cam1 → Stands w y ix → Stands w x (passed Cam1 ix) → (m : Meets w Cam1 ix.cam1 y (λ _. ⊤)) → CanMove w y ix (record { time = t; channel = Cam1; angle = m.at })
cam1_goes w y x ix t some s next m =
    let low = lower w Cam1 ix.cam1 x some next.cam1 in
    let ahead : m.at ≤ℤ angle_of w Crank ix.crank = m.least _ s.ahead (through low next.ahead) in
    let other : CamStands w Cam2 ix.cam2 m.at = cam_stays w Cam2 ix.cam2 y m.at x m.forward (λ k. m.least _ (s.cam2.ahead k) (through low (next.cam2.ahead k))) s.cam2 in
    record {
      forward = m.forward;
      present = some;
      before = record { behind = through s.behind m.forward; ahead = ahead; cam1 = cam_before w Cam1 ix.cam1 y x some s.cam1 next.cam1 m; cam2 = other };
      after = record { behind = through s.behind m.forward; ahead = ahead; cam1 = cam_after w Cam1 ix.cam1 y x some s.cam1 next.cam1 m; cam2 = other };
    }

cam2_goes : (w : WheelParts) (y x : ℤ) (ix : Indices) (t : ℤ) → 0 < edge_count w Cam2 → Stands w y ix → Stands w x (passed Cam2 ix) → (m : Meets w Cam2 ix.cam2 y (λ _. ⊤)) → CanMove w y ix (record { time = t; channel = Cam2; angle = m.at })
cam2_goes w y x ix t some s next m =
    let low = lower w Cam2 ix.cam2 x some next.cam2 in
    let ahead : m.at ≤ℤ angle_of w Crank ix.crank = m.least _ s.ahead (through low next.ahead) in
    let other : CamStands w Cam1 ix.cam1 m.at = cam_stays w Cam1 ix.cam1 y m.at x m.forward (λ k. m.least _ (s.cam1.ahead k) (through low (next.cam1.ahead k))) s.cam1 in
    record {
      forward = m.forward;
      present = some;
      before = record { behind = through s.behind m.forward; ahead = ahead; cam1 = other; cam2 = cam_before w Cam2 ix.cam2 y x some s.cam2 next.cam2 m };
      after = record { behind = through s.behind m.forward; ahead = ahead; cam1 = other; cam2 = cam_after w Cam2 ix.cam2 y x some s.cam2 next.cam2 m };
    }

-- from an angle that stands with the indices, a move of the channel at an angle from there on, where some angle stands with the indices after it
pub some_move : (w : WheelParts) (c : Channel) (y x : ℤ) (ix : Indices) (t : ℤ) → 0 < edge_count w c → Stands w y ix → Stands w x (passed c ix) → (z : ℤ) × CanMove w y ix (record { time = t; channel = c; angle = z })
some_move w Crank y x ix t some s next = (angle_of w Crank ix.crank, crank_goes w y x ix t some s next)
some_move w Cam1 y x ix t some s next = let m = meets w Cam1 ix.cam1 y in (m.at, cam1_goes w y x ix t some s next m)
some_move w Cam2 y x ix t some s next = let m = meets w Cam2 ix.cam2 y in (m.at, cam2_goes w y x ix t some s next m)

-- a motion stands where it ends
pub ends_standing : (w : WheelParts) (x : ℤ) (ix : Indices) (vs : List Move) → Stands w x ix → CanMake w x ix vs → Stands w (angle_after x vs) (indices_after ix vs)
ends_standing w x ix [] s m = s
ends_standing w x ix (v ∷ vs) s m = m.0.after

-- moves that make a walk after others
pub record MakesWalk (w : WheelParts) (x : ℤ) (ix : Indices) (vs : List Move) (es : List Event) (to : Indices) : Type 0 where
  pub moves : List Move
  pub can : CanMake w x ix moves
  pub passes : events_passed w ix moves ≡ es ++ events_passed w ix vs
  pub ends : to ≡ indices_after ix moves
  pub indices : to ≡ indices_by (indices_after ix vs) es
  pub crank : crank_passes ix moves ≡ passes_by (indices_after ix vs) es (crank_passes ix vs)

pub same_event : (t : ℤ) (c : Channel) (p q : Pol) (es fs : List Event) → p ≡ q → es ≡ fs → record { time = t; channel = c; polarity = p } ∷ es ≡ record { time = t; channel = c; polarity = q } ∷ fs
same_event t c p q es fs e f = rw (e, f)

pub makes_walk : (w : WheelParts) (x : ℤ) (ix : Indices) (vs : List Move) (es : List Event) (to : Indices) → Stands w x ix → CanMake w x ix vs → Walks w (indices_after ix vs) es to → MakesWalk w x ix vs es to
makes_walk w x ix vs [] to s m walk = record { moves = vs; can = m; passes = refl; ends = walk; indices = walk; crank = refl }
makes_walk w x ix vs (e ∷ es) to s m walk =
    let r = makes_walk w x ix vs es walk.0 s m walk.1 in
    one_more w x ix vs e es to s r walk.2 walk.3 walk.4 walk.5
  where
    one_more : (w : WheelParts) (x : ℤ) (ix : Indices) (vs : List Move) (e : Event) (es : List Event) (to : Indices) {mid : Indices} → Stands w x ix → MakesWalk w x ix vs es mid → 0 < edge_count w e.channel → pol_of w e.channel (index_of mid e.channel) ≡ e.polarity → IsStanding w to → to ≡ passed e.channel mid → MakesWalk w x ix vs (e ∷ es) to
    one_more w x ix vs e es to {mid} s r some pol standing ends =
        let here = indices_after ix r.moves in
        let next : to ≡ passed e.channel here = ends ∙ ap (passed e.channel) r.ends in
        let move = some_move w e.channel (angle_after x r.moves) standing.0 here e.time some (ends_standing w x ix r.moves s r.can) (subst (Stands w standing.0) next standing.1) in
        let colour : pol_of w e.channel (index_of here e.channel) ≡ e.polarity = ap (λ (k : Indices). pol_of w e.channel (index_of k e.channel)) (sym r.ends) ∙ pol in
        record {
          moves = record { time = e.time; channel = e.channel; angle = move.0 } ∷ r.moves;
          can = (move.1, r.can);
          passes = same_event e.time e.channel _ _ _ _ colour r.passes;
          ends = next;
          indices = ends ∙ ap (passed e.channel) r.indices;
          crank = same_pass e.channel e.channel e.time e.time here.crank (indices_by (indices_after ix vs) es).crank (crank_passes ix r.moves) (passes_by (indices_after ix vs) es (crank_passes ix vs)) refl refl (ap (λ (k : Indices). k.crank) (sym r.ends ∙ r.indices)) r.crank;
        }
