-- What a window keeps, instant by instant.
use Rattle.std.proofs.Common.{◌≡◌, ◌<◌, true, false, List, [], ◌∷◌, take, ℤ, refl, sym, ◌∙◌, ap, subst}
use Rattle.std.specs.Prelude.{Some, None, Contains, ◌↔◌}
use Rattle.wheel_types.specs.declared.channel.Pol.{Pol}
use Rattle.wheel_types.specs.declared.channel.Channel.TheVariants.{Crank}
use Rattle.wheel_types.specs.declared.place.Place.{Place}
use Rattle.wheel_types.specs.declared.instant.Instant.{Instant}
use Rattle.wheel_types.specs.declared.parts.WheelParts.{WheelParts}
use Rattle.wheel_types.specs.Edges.{edge_count}
use Rattle.wheel_types.specs.Verdicts.{Leads, AllEarlier}
use Rattle.wheel_types.specs.Steps.{indices_of, crank_times, time_if}
use Rattle.wheel_types.proofs.Forward.{motion_of}
use Rattle.wheel_types.proofs.Places.{leads_after_step}
use Rattle.wheel_types.proofs.BothWays.{step_leads}
use Rattle.wheel_types.proofs.Standing.{ends_stand, place_of-indices}
use Rattle.wheel_types.proofs.StartsAndEnds.{start_determined}
use Rattle.cam_ranges.specs.Places.{IsPlace, IsAscending}
use Rattle.plain_motion.specs.declared.window.Walk.{Walk}
use Rattle.plain_motion.specs.declared.window.Window.{Window}
use Rattle.legal_steps.specs.declared.times.CrankTimes.TheVariants.{Unseen}
use Rattle.legal_steps.specs.Times.{times_of}
use Rattle.plain_motion.specs.Ends.{Keeps, AreAllPlaces, AreWalksOf, GoesOnTo, starts_of}
use Rattle.plain_motion.proofs.Images.{AreImages}
use Rattle.legal_steps.proofs.TimedSteps.{timed_is_legal, legal_is_timed}

-- motions end at places of the wheel
pub ends_on : (w : WheelParts) (past : List Instant) (a e : Place) → 0 < edge_count w Crank → Leads w past a e → IsPlace w e
ends_on w past a e some l = let s = ends_stand w past e some (a, l) in record { edge = s.edge; stands = s.standing }

-- the walk that stays at a place
abbrev pub stays_at : Place → Walk
stays_at p = record { start = p; end = p }

-- a motion that does not move
rests : (w : WheelParts) (p : Place) → IsPlace w p → Leads w [] p p
rests w p is = record {
  motion = motion_of is.stands.0 (indices_of p) [];
  permitted = record { motion = record { standing = is.stands.1; moves = tt; times = tt }; speed = tt; ratio = tt };
  gives = refl;
  starts = place_of-indices w p is.edge;
  ends = place_of-indices w p is.edge;
}

same_walk : (a e p : Place) → record { start = a; end = e } ≡ stays_at p → (a ≡ p) × (e ≡ p)
same_walk a e p h = (ap (λ (v : Walk). v.start) h, ap (λ (v : Walk). v.end) h)

both_at : (p a e : Place) → a ≡ p → e ≡ p → record { start = a; end = e } ≡ stays_at p
both_at p a e h k = rw (h, k) refl

-- before any instant, walks stay where they are
walks_of_none : (w : WheelParts) (places : List Place) (walks : List Walk) → 0 < edge_count w Crank → ((p : Place) → Contains places p ↔ IsPlace w p) → AreImages (λ p v. v ≡ stays_at p) places walks → AreWalksOf w [] walks
walks_of_none w places walks some all images a e = (
  λ k.
      let from = (images (record { start = a; end = e })).0 k in
      let p = from.0 in
      let same = same_walk a e p from.1.1 in
      let rest = rests w p ((all p).0 from.1.0) in
      subst (λ x. Leads w [] x e) (sym same.0) (subst (Leads w [] p) (sym same.1) rest),
  λ l.
      let is = ends_on w [] a e some l in
      let start : a ≡ e = start_determined w [] a e some l ∙ place_of-indices w e is.edge in
      (images (record { start = a; end = e })).1 (e, ((all e).1 is, both_at e a e start refl)),
)

-- before its first instant
pub keeps_none : (w : WheelParts) (s : Window) (places : List Place) → 0 < edge_count w Crank → AreAllPlaces w places → AreImages (λ p v. v ≡ stays_at p) places s.walks → starts_of s.walks ≡ places
    → s.begun ≡ false → s.times ≡ Unseen → Keeps w s []
keeps_none w s places some all images starts b t = record {
  walks = walks_of_none w places s.walks some all.exact images;
  ascend = subst IsAscending (sym starts) all.ascend;
  begun = b;
  times = ap times_of t;
}

-- the walks after one more instant
walks_more : (w : WheelParts) (s : Window) (walks : List Walk) (i : Instant) (past : List Instant) → 0 < edge_count w Crank → AllEarlier i.time past → Keeps w s past → AreImages (GoesOnTo w (times_of s.times) i) s.walks walks → AreWalksOf w (i ∷ past) walks
walks_more w s walks i past some early k steps a q = (
  λ c.
      let from = (steps (record { start = a; end = q })).0 c in
      let v = from.0 in
      let leads = (k.walks v.start v.end).0 from.1.0 in
      let legal = timed_is_legal w past (times_of s.times) v.end i q (ends_on w past v.start v.end some leads) k.times from.1.1.step in
      step_leads w i past a v.end q some early (subst (λ x. Leads w past x v.end) (sym from.1.1.start) leads) legal,
  λ l.
      let from = leads_after_step w i past a q some l in
      let p = from.0 in
      let step = legal_is_timed w past (times_of s.times) p i q (ends_on w past a p some from.1) k.times from.2 in
      (steps (record { start = a; end = q })).1 (record { start = a; end = p }, ((k.walks a p).1 from.1, record { start = refl; step = step })),
)

take_two : (t : ℤ) (ts : List ℤ) → take 2 (t ∷ take 2 ts) ≡ take 2 (t ∷ ts)
take_two t [] = refl
take_two t (u ∷ []) = refl
take_two t (u ∷ v ∷ ts) = refl

-- the times after an instant with a crank edge
pub times_more : (s : Window) (us : List ℤ) (i : Instant) (past : List Instant) (p : Pol) → i.crank ≡ Some p → us ≡ take 2 (i.time ∷ times_of s.times) → times_of s.times ≡ take 2 (crank_times past) → us ≡ take 2 (crank_times (i ∷ past))
times_more s us i past p e t k = t ∙ ap (λ ts. take 2 (i.time ∷ ts)) k ∙ take_two i.time (crank_times past) ∙ ap (λ o. take 2 (time_if o i.time (crank_times past))) (sym e)

-- and after one without
pub times_same : (s : Window) (us : List ℤ) (i : Instant) (past : List Instant) → i.crank ≡ None → us ≡ times_of s.times → times_of s.times ≡ take 2 (crank_times past) → us ≡ take 2 (crank_times (i ∷ past))
times_same s us i past e t k = t ∙ k ∙ ap (λ o. take 2 (time_if o i.time (crank_times past))) (sym e)

-- the window with one more instant
pub keeps_more : (w : WheelParts) (s next : Window) (i : Instant) (past : List Instant) → 0 < edge_count w Crank → AreImages (GoesOnTo w (times_of s.times) i) s.walks next.walks
    → (IsAscending (starts_of s.walks) → IsAscending (starts_of next.walks)) → next.begun ≡ true → times_of next.times ≡ take 2 (crank_times (i ∷ past)) → AllEarlier i.time past → Keeps w s past → Keeps w next (i ∷ past)
keeps_more w s next i past some steps ascend b t early k = record {
  walks = walks_more w s next.walks i past some early k steps;
  ascend = ascend k.ascend;
  begun = b;
  times = t;
}
