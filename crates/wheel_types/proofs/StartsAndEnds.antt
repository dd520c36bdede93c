-- Over given instants the start place and the end place of a motion determine each other.
use Rattle.std.proofs.Common.{◌≡◌, ◌<◌, List, [], ◌∷◌, ◌++◌, ℤ, pos, ◌+ℤ◌, ◌-ℤ◌, ◌*ℤ◌, refl, sym, ◌∙◌, ap, subst, arith}
use Rattle.std.proofs.lemmas.Int.{ints}
use Rattle.std.specs.Prelude.{Option, Some, None}
use Rattle.wheel_types.specs.declared.channel.Pol.{Pol}
use Rattle.wheel_types.specs.declared.channel.Channel.TheVariants.{Crank, Cam1, Cam2}
use Rattle.wheel_types.specs.declared.place.Place.{Place}
use Rattle.wheel_types.specs.declared.instant.Instant.{Instant}
use Rattle.wheel_types.specs.declared.parts.WheelParts.{WheelParts}
use Rattle.wheel_types.specs.Edges.{edge_count}
use Rattle.wheel_types.specs.Motions.{Indices, passed, Move, Motion, Event, events_passed, Groups, Gives, indices_after}
use Rattle.wheel_types.specs.Verdicts.{place_of, Leads, EndsAt}
use Rattle.wheel_types.specs.Steps.{indices_of}
use Rattle.wheel_types.specs.Starts.{edge_if, taken_back, start_of}
use Rattle.wheel_types.proofs.Forward.{indices_by, crank_after, back_and_on}
use Rattle.wheel_types.proofs.OneStep.{after_instant, indices_by-order}
use Rattle.wheel_types.proofs.Shifted.{shifted, cycle_at, of_place, place_of-shifted}

-- the next edges after the instants
abbrev pub gone_on : List Instant → Indices → Indices
gone_on [] ix = ix
gone_on (i ∷ past) ix = after_instant i (gone_on past ix)

-- the next edges before the instant's
abbrev before_instant : Instant → Indices → Indices
before_instant i ix = record { crank = edge_if i.crank ix.crank; cam1 = edge_if i.cam1 ix.cam1; cam2 = edge_if i.cam2 ix.cam2 }

alike : (a b c d e f : ℤ) → a ≡ d → b ≡ e → c ≡ f → ◌≡◌ {A = Indices} (record { crank = a; cam1 = b; cam2 = c }) (record { crank = d; cam1 = e; cam2 = f })
alike a b c d e f p q r = rw (p, q, r)

edge_back : (a : Option Pol) (m : ℤ) → edge_if a (crank_after a m) ≡ m
edge_back None m = refl
edge_back (Some pol) m = back_and_on m

instant_back : (i : Instant) (ix : Indices) → before_instant i (after_instant i ix) ≡ ix
instant_back i ix = alike _ _ _ _ _ _ (edge_back i.crank ix.crank) (edge_back i.cam1 ix.cam1) (edge_back i.cam2 ix.cam2)

pub taken_back-gone_on : (past : List Instant) (ix : Indices) → taken_back past (gone_on past ix) ≡ ix
taken_back-gone_on [] ix = refl
taken_back-gone_on (i ∷ past) ix = ap (taken_back past) (instant_back i (gone_on past ix)) ∙ taken_back-gone_on past ix

indices_by-append : (ix : Indices) (es fs : List Event) → indices_by ix (es ++ fs) ≡ indices_by (indices_by ix fs) es
indices_by-append ix [] fs = refl
indices_by-append ix (e ∷ es) fs = ap (passed e.channel) (indices_by-append ix es fs)

pub indices_after-events : (w : WheelParts) (ix : Indices) (vs : List Move) → indices_after ix vs ≡ indices_by ix (events_passed w ix vs)
indices_after-events w ix [] = refl
indices_after-events w ix (v ∷ vs) = ap (passed v.channel) (indices_after-events w ix vs)

groups_to : (ix : Indices) (es : List Event) (past : List Instant) → Groups es past → indices_by ix es ≡ gone_on past ix
groups_to ix es [] g = ap (indices_by ix) g
groups_to ix es (i ∷ past) g =
    ap (indices_by ix) g.2
    ∙ indices_by-append ix g.0 g.1
    ∙ ap (λ k. indices_by k g.0) (groups_to ix g.1 past g.4)
    ∙ indices_by-order i (gone_on past ix) g.0 g.3

-- a motion that gives the instants passes their edges
pub gives_to : (w : WheelParts) (e : Motion) (past : List Instant) → Gives w e past → indices_after e.start e.moves ≡ gone_on past e.start
gives_to w e past g = indices_after-events w e.start e.moves ∙ groups_to e.start (events_passed w e.start e.moves) past g

edge_if-later : (a : Option Pol) (m t : ℤ) → edge_if a (m +ℤ t) ≡ edge_if a m +ℤ t
edge_if-later None m t = refl
edge_if-later (Some pol) m t = swap m t
  where
    swap : (m t : ℤ) → (m +ℤ t) -ℤ pos 1 ≡ (m -ℤ pos 1) +ℤ t
    swap m t = omega (arith, ints)

crank_after-later : (a : Option Pol) (m t : ℤ) → crank_after a (m +ℤ t) ≡ crank_after a m +ℤ t
crank_after-later None m t = refl
crank_after-later (Some pol) m t = swap m t
  where
    swap : (m t : ℤ) → (m +ℤ t) +ℤ pos 1 ≡ (m +ℤ pos 1) +ℤ t
    swap m t = omega (arith, ints)

before_instant-shifted : (w : WheelParts) (k : ℤ) (i : Instant) (ix : Indices) → before_instant i (shifted w k ix) ≡ shifted w k (before_instant i ix)
before_instant-shifted w k i ix = alike _ _ _ _ _ _ (edge_if-later i.crank ix.crank (k *ℤ pos (edge_count w Crank))) (edge_if-later i.cam1 ix.cam1 (k *ℤ pos (edge_count w Cam1))) (edge_if-later i.cam2 ix.cam2 (k *ℤ pos (edge_count w Cam2)))

after_instant-shifted : (w : WheelParts) (k : ℤ) (i : Instant) (ix : Indices) → after_instant i (shifted w k ix) ≡ shifted w k (after_instant i ix)
after_instant-shifted w k i ix = alike _ _ _ _ _ _ (crank_after-later i.crank ix.crank (k *ℤ pos (edge_count w Crank))) (crank_after-later i.cam1 ix.cam1 (k *ℤ pos (edge_count w Cam1))) (crank_after-later i.cam2 ix.cam2 (k *ℤ pos (edge_count w Cam2)))

pub taken_back-shifted : (w : WheelParts) (k : ℤ) (past : List Instant) (ix : Indices) → taken_back past (shifted w k ix) ≡ shifted w k (taken_back past ix)
taken_back-shifted w k [] ix = refl
taken_back-shifted w k (i ∷ past) ix = ap (taken_back past) (before_instant-shifted w k i ix) ∙ taken_back-shifted w k past (before_instant i ix)

pub gone_on-shifted : (w : WheelParts) (k : ℤ) (past : List Instant) (ix : Indices) → gone_on past (shifted w k ix) ≡ shifted w k (gone_on past ix)
gone_on-shifted w k [] ix = refl
gone_on-shifted w k (i ∷ past) ix = ap (after_instant i) (gone_on-shifted w k past ix) ∙ after_instant-shifted w k i (gone_on past ix)

-- the end place determines the start place
pub start_determined : (w : WheelParts) (past : List Instant) (a e : Place) → 0 < edge_count w Crank → Leads w past a e → a ≡ start_of w past e
start_determined w past a e h l =
    let first = l.motion.start in
    let last = indices_after first l.motion.moves in
    let k = cycle_at w last in
    let here : shifted w k (indices_of e) ≡ last = ap (λ r. shifted w k (indices_of r)) (sym l.ends) ∙ of_place w last h in
    let back : taken_back past last ≡ first = ap (taken_back past) (gives_to w l.motion past l.gives) ∙ taken_back-gone_on past first in
    sym l.starts
    ∙ ap (place_of w) (sym back)
    ∙ ap (λ r. place_of w (taken_back past r)) (sym here)
    ∙ ap (place_of w) (taken_back-shifted w k past (indices_of e))
    ∙ place_of-shifted w k (taken_back past (indices_of e)) h

pub leads_from_start : (w : WheelParts) (past : List Instant) (e : Place) → 0 < edge_count w Crank → EndsAt w past e → Leads w past (start_of w past e) e
leads_from_start w past e h ends = subst (λ a. Leads w past a e) (start_determined w past ends.0 e h ends.1) ends.1

-- where the motions end that give the instants and begin at the place
abbrev pub end_of : WheelParts → List Instant → Place → Place
end_of w past p = place_of w (gone_on past (indices_of p))

-- the start place determines the end place
pub end_determined : (w : WheelParts) (past : List Instant) (a e : Place) → 0 < edge_count w Crank → Leads w past a e → e ≡ end_of w past a
end_determined w past a e h l =
    let first = l.motion.start in
    let k = cycle_at w first in
    let here : shifted w k (indices_of a) ≡ first = ap (λ r. shifted w k (indices_of r)) (sym l.starts) ∙ of_place w first h in
    sym l.ends
    ∙ ap (place_of w) (gives_to w l.motion past l.gives)
    ∙ ap (λ r. place_of w (gone_on past r)) (sym here)
    ∙ ap (place_of w) (gone_on-shifted w k past (indices_of a))
    ∙ place_of-shifted w k (gone_on past (indices_of a)) h

pub start_once : (w : WheelParts) (past : List Instant) (a b e : Place) → 0 < edge_count w Crank → Leads w past a e → Leads w past b e → a ≡ b
start_once w past a b e h l m = start_determined w past a e h l ∙ sym (start_determined w past b e h m)

pub end_once : (w : WheelParts) (past : List Instant) (a e f : Place) → 0 < edge_count w Crank → Leads w past a e → Leads w past a f → e ≡ f
end_once w past a e f h l m = end_determined w past a e h l ∙ sym (end_determined w past a f h m)
