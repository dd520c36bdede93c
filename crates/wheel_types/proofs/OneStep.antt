-- The edges of an instant lead to the same next edges in every order, so a legal step is one place or none.
use Rattle.std.proofs.Common.{◌≡◌, List, [], ◌∷◌, ℤ, refl, sym, ◌∙◌, ap}
use Rattle.std.specs.Prelude.{Contains, Option, Some, None}
use Rattle.std.specs.List.{AllByRecursion}
use Rattle.std.proofs.lemmas.List.Elements.{All-from_recursion, All-contains}
use Rattle.wheel_types.specs.declared.channel.Pol.{Pol}
use Rattle.wheel_types.specs.declared.place.Place.{Place}
use Rattle.wheel_types.specs.declared.instant.Instant.{Instant}
use Rattle.wheel_types.specs.declared.parts.WheelParts.{WheelParts}
use Rattle.wheel_types.specs.Motions.{Indices, passed, Event, orders, events_at, events_of}
use Rattle.wheel_types.specs.Verdicts.{place_of}
use Rattle.wheel_types.specs.Steps.{Walks, Steps, indices_of, IsLegalStep}
use Rattle.wheel_types.proofs.Forward.{indices_by, crank_after}

-- the next edges after an edge of each channel that has one
abbrev pub after_edges : Option Pol → Option Pol → Option Pol → Indices → Indices
after_edges a b c ix = record { crank = crank_after a ix.crank; cam1 = crank_after b ix.cam1; cam2 = crank_after c ix.cam2 }

-- the next edges after those of an instant
abbrev pub after_instant : Instant → Indices → Indices
after_instant i ix = after_edges i.crank i.cam1 i.cam2 ix

indices_by-orders : (t : ℤ) (a b c : Option Pol) (ix : Indices) → AllByRecursion (λ order. indices_by ix order ≡ after_edges a b c ix) (orders (events_at t a b c))
indices_by-orders t None None None ix = (refl, tt)
indices_by-orders t None None (Some c) ix = (refl, tt)
indices_by-orders t None (Some b) None ix = (refl, tt)
indices_by-orders t None (Some b) (Some c) ix = (refl, (refl, tt))
indices_by-orders t (Some a) None None ix = (refl, tt)
indices_by-orders t (Some a) None (Some c) ix = (refl, (refl, tt))
indices_by-orders t (Some a) (Some b) None ix = (refl, (refl, tt))
indices_by-orders t (Some a) (Some b) (Some c) ix = (refl, (refl, (refl, (refl, (refl, (refl, tt))))))

-- every order of an instant's edges ends at the same indices
pub indices_by-order : (i : Instant) (ix : Indices) (order : List Event) → Contains (orders (events_of i)) order → indices_by ix order ≡ after_instant i ix
indices_by-order i ix order h =
    let P : List Event → Type 0 = λ order. indices_by ix order ≡ after_instant i ix in
    All-contains P (orders (events_of i)) order (All-from_recursion P (orders (events_of i)) (indices_by-orders i.time i.crank i.cam1 i.cam2 ix)) h

pub walks_to : (w : WheelParts) (from : Indices) (es : List Event) (to : Indices) → Walks w from es to → to ≡ indices_by from es
walks_to w from [] to h = h
walks_to w from (e ∷ es) to h = h.5 ∙ ap (passed e.channel) (walks_to w from es h.0 h.1)

-- a step goes to the indices after the instant's edges
pub steps_to : (w : WheelParts) (past : List Instant) (from : Indices) (i : Instant) (to : Indices) → Steps w past from i to → to ≡ after_instant i from
steps_to w past from i to s = walks_to w from s.order to s.walks ∙ indices_by-order i from s.order s.is_order

pub legal_step_to : (w : WheelParts) (past : List Instant) (p : Place) (i : Instant) (q : Place) → IsLegalStep w past p i q → q ≡ place_of w (after_instant i (indices_of p))
legal_step_to w past p i q s = s.2 ∙ ap (place_of w) (steps_to w past (indices_of p) i s.0 s.1)

-- a legal step is one place or none
pub legal_step_once : (w : WheelParts) (past : List Instant) (p : Place) (i : Instant) (q r : Place) → IsLegalStep w past p i q → IsLegalStep w past p i r → q ≡ r
legal_step_once w past p i q r s u = legal_step_to w past p i q s ∙ sym (legal_step_to w past p i r u)
