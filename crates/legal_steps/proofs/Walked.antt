-- The first walk that passes an instant's edges, and the walks of the definition.
use Rattle.std.proofs.Common.{◌≡◌, inl, inr, zero, suc, ◌+◌, arith, Bool, true, false, cond, List, [], ◌∷◌, ℤ, pos, refl, sym, ◌∙◌, ap, subst}
use Rattle.std.proofs.lemmas.Bool.{and_parts, lt-ltb, ltb-true}
use Rattle.std.proofs.lemmas.List.Elements.{Contains-append_cases, Contains-append_left, Contains-append_right, Contains-push}
use Rattle.std.specs.Prelude.{Contains, Option, Some, None, option_and_then, is_some, nat_lt, ◌&&◌}
use Rattle.wheel_types.specs.declared.channel.Pol.{Pol}
use Rattle.wheel_types.specs.declared.channel.Pol.TheVariants.{Rise, Fall}
use Rattle.wheel_types.specs.declared.place.Place.{Place}
use Rattle.wheel_types.specs.declared.instant.Instant.{Instant}
use Rattle.wheel_types.specs.declared.parts.WheelParts.{WheelParts}
use Rattle.wheel_types.specs.Edges.{edge_count, pol_of}
use Rattle.wheel_types.specs.Motions.{Indices, index_of, passed, Event, orders, events_of}
use Rattle.wheel_types.specs.Verdicts.{place_of}
use Rattle.wheel_types.specs.Steps.{Walks, IsStanding, IsLegalStep, indices_of, KeepsGapsIf}
use Rattle.wheel_types.specs.PlainSteps.{same_pol, is_standing, pass_event, walk, first_walk}
use Rattle.wheel_types.proofs.Tests.{standing_tested}
use Rattle.wheel_types.proofs.OneStep.{walks_to, indices_by-order, after_instant}
use Rattle.cam_ranges.specs.Places.{IsPlace}
use Rattle.legal_steps.specs.Passes.{PassesInstant, Finds}
use Rattle.legal_steps.proofs.TimedSteps.{timed_is_legal, legal_is_timed}
use Rattle.legal_steps.specs.TimedSteps.{end_of}

pol_same : (p q : Pol) → same_pol p q ≡ true → p ≡ q
pol_same Rise Rise h = refl
pol_same Rise Fall h = absurd (cc)
pol_same Fall Rise h = absurd (cc)
pol_same Fall Fall h = refl

same_itself : (p : Pol) → same_pol p p ≡ true
same_itself Rise = refl
same_itself Fall = refl

pol_test : (p q : Pol) → p ≡ q → same_pol p q ≡ true
pol_test p q e = subst (λ r. same_pol p r ≡ true) e (same_itself p)

-- the test of a pass
abbrev passes : WheelParts → Event → Indices → Bool
passes w e mid = nat_lt 0 (edge_count w e.channel) && (same_pol (pol_of w e.channel (index_of mid e.channel)) e.polarity && is_standing w (passed e.channel mid))

taken : (b : Bool) (x y : Indices) → cond b (Some x) None ≡ Some y → (b ≡ true) × (y ≡ x)
taken true x y h = (refl, cc)
taken false x y h = absurd (cc)

-- a walk that is found is one
pub walk_sound : (w : WheelParts) (from : Indices) (es : List Event) (to : Indices) → walk w from es ≡ Some to → Walks w from es to
walk_sound w from [] to h = cc
walk_sound w from (e ∷ es) to h = by (walk_sound w from es) (walk w from es) refl
  where
    by : ((mid : Indices) → walk w from es ≡ Some mid → Walks w from es mid) → (o : Option Indices) → walk w from es ≡ o → Walks w from (e ∷ es) to
    by rest None at = absurd (let f : option_and_then (pass_event w e) None ≡ Some to = sym (ap (option_and_then (pass_event w e)) at) ∙ h in cc)
    by rest (Some mid) at =
        let f : option_and_then (pass_event w e) (Some mid) ≡ Some to = sym (ap (option_and_then (pass_event w e)) at) ∙ h in
        let t = taken (passes w e mid) (passed e.channel mid) to f in
        let a = and_parts _ _ t.0 in
        let b = and_parts _ _ a.1 in
        (mid, rest mid at, ltb-true 0 (edge_count w e.channel) a.0, pol_same _ _ b.0, subst (IsStanding w) (sym t.1) ((standing_tested w (passed e.channel mid)).0 b.1), t.1)

-- and each walk is found
pub walk_whole : (w : WheelParts) (from : Indices) (es : List Event) (to : Indices) → Walks w from es to → walk w from es ≡ Some to
walk_whole w from [] to h = ap Some (sym h)
walk_whole w from (e ∷ es) to h =
    let rest : walk w from es ≡ Some h.0 = walk_whole w from es h.0 h.1 in
    let standing : is_standing w (passed e.channel h.0) ≡ true = (standing_tested w (passed e.channel h.0)).1 (subst (IsStanding w) h.5 h.4) in
    let pass : passes w e h.0 ≡ true = rw (lt-ltb 0 (edge_count w e.channel) h.2, pol_test _ _ h.3, standing) refl in
    ap (option_and_then (pass_event w e)) rest ∙ (ap (λ b. cond b (Some (passed e.channel h.0)) None) pass ∙ ap Some (sym h.5))

-- ---- the first of some orders

pub first_sound : (w : WheelParts) (from : Indices) (os : List (List Event)) (to : Indices) → first_walk w from os ≡ Some to → (o : List Event) × (Contains os o × Walks w from o to)
first_sound w from [] to h = absurd (cc)
first_sound w from (o ∷ os) to h = by (first_sound w from os to) (walk w from o) refl
  where
    by : (first_walk w from os ≡ Some to → (p : List Event) × (Contains os p × Walks w from p to)) → (r : Option Indices) → walk w from o ≡ r → (p : List Event) × (Contains (o ∷ os) p × Walks w from p to)
    by rest (Some mid) at =
        let f : first_walk w from (o ∷ os) ≡ Some mid = ap (λ r. cond (is_some r) r (first_walk w from os)) at in
        let e : walk w from o ≡ Some to = at ∙ (sym f ∙ h) in
        (o, (Contains-append_left (o ∷ []) os o (Contains-push [] o), walk_sound w from o to e))
    by rest None at =
        let f : first_walk w from (o ∷ os) ≡ first_walk w from os = ap (λ r. cond (is_some r) r (first_walk w from os)) at in
        let r = rest (sym f ∙ h) in
        (r.0, (Contains-append_right (o ∷ []) os r.0 r.1.0, r.1.1))

only_one : {X : Type 0} (p o : X) → Contains (p ∷ []) o → p ≡ o
only_one p o (zero, lt, e) = e
only_one p o (suc i, lt, e) = absurd (omega (arith, lt))

pub first_none : (w : WheelParts) (from : Indices) (os : List (List Event)) → first_walk w from os ≡ None → (o : List Event) (to : Indices) → Contains os o → Walks w from o to → ⊥
first_none w from [] h o to c k = absurd (omega (arith, c.1))
first_none w from (p ∷ os) h o to c k = by (first_none w from os) (walk w from p) refl
  where
    by : (first_walk w from os ≡ None → (o : List Event) (to : Indices) → Contains os o → Walks w from o to → ⊥) → (r : Option Indices) → walk w from p ≡ r → ⊥
    by rest (Some mid) at =
        let f : first_walk w from (p ∷ os) ≡ Some mid = ap (λ r. cond (is_some r) r (first_walk w from os)) at in
        let g : Some mid ≡ None = sym f ∙ h in
        absurd (cc)
    by rest None at =
        let f : first_walk w from (p ∷ os) ≡ first_walk w from os = ap (λ r. cond (is_some r) r (first_walk w from os)) at in
        elim (Contains-append_cases (p ∷ []) os o c) [
          | inl one ↦ let e = only_one p o one in let g : None ≡ Some to = sym at ∙ walk_whole w from p to (subst (λ x. Walks w from x to) (sym e) k) in absurd (cc)
          | inr later ↦ rest (sym f ∙ h) o to later k
        ]

-- ---- the end place

-- every walk in one of the orders ends at the place of the first
pub end_whole : (w : WheelParts) (i : Instant) (p : Place) (o : List Event) (to : Indices) → Contains (orders (events_of i)) o → Walks w (indices_of p) o to → end_of w (orders (events_of i)) p ≡ Some (place_of w to)
end_whole w i p o to c k = by (first_walk w (indices_of p) (orders (events_of i))) refl
  where
    by : (r : Option Indices) → first_walk w (indices_of p) (orders (events_of i)) ≡ r → end_of w (orders (events_of i)) p ≡ Some (place_of w to)
    by None at = absurd (first_none w (indices_of p) (orders (events_of i)) at o to c k)
    by (Some mid) at =
        let f = first_sound w (indices_of p) (orders (events_of i)) mid at in
        let here : mid ≡ after_instant i (indices_of p) = walks_to w (indices_of p) f.0 mid f.1.1 ∙ indices_by-order i (indices_of p) f.0 f.1.0 in
        let there : to ≡ after_instant i (indices_of p) = walks_to w (indices_of p) o to k ∙ indices_by-order i (indices_of p) o c in
        ap (option_and_then (λ ix. Some (place_of w ix))) at ∙ ap (λ ix. Some (place_of w ix)) (here ∙ sym there)

pub end_sound : (w : WheelParts) (os : List (List Event)) (p q : Place) → end_of w os p ≡ Some q → (o : List Event) × ((to : Indices) × (Contains os o × (Walks w (indices_of p) o to × (q ≡ place_of w to))))
end_sound w os p q h = by (first_walk w (indices_of p) os) refl
  where
    by : (r : Option Indices) → first_walk w (indices_of p) os ≡ r → (o : List Event) × ((to : Indices) × (Contains os o × (Walks w (indices_of p) o to × (q ≡ place_of w to))))
    by None at = absurd (let f : option_and_then (λ ix. Some (place_of w ix)) None ≡ Some q = sym (ap (option_and_then (λ ix. Some (place_of w ix))) at) ∙ h in cc)
    by (Some to) at =
        let f : Some (place_of w to) ≡ Some q = sym (ap (option_and_then (λ ix. Some (place_of w ix))) at) ∙ h in
        let s = first_sound w (indices_of p) os to at in
        (s.0, (to, (s.1.0, (s.1.1, cc))))

pub no_limits : (o : Option Pol) (w : WheelParts) (m t : ℤ) → KeepsGapsIf o w m t []
no_limits None w m t = tt
no_limits (Some p) w m t = tt

-- what passes an instant's edges is that end
pub found_end : (w : WheelParts) (p : Place) (i : Instant) (r : Option Place) → IsPlace w p → Finds (PassesInstant w p i) r → end_of w (orders (events_of i)) p ≡ r
found_end w p i None is finds = by (end_of w (orders (events_of i)) p) refl
  where
    by : (r : Option Place) → end_of w (orders (events_of i)) p ≡ r → end_of w (orders (events_of i)) p ≡ None
    by None at = at
    by (Some q) at =
        let s = end_sound w (orders (events_of i)) p q at in
        let legal : IsLegalStep w [] p i q = (s.1.0, record { order = s.0; is_order = s.1.1.0; walks = s.1.1.1.0; gaps = no_limits i.crank w (pos (p.j + 1)) i.time }, s.1.1.1.1) in
        absurd (finds q (legal_is_timed w [] [] p i q is refl legal).passes)
found_end w p i (Some q) is passes' =
    let legal = timed_is_legal w [] [] p i q is refl (record { passes = passes'; gaps = no_limits i.crank w (pos (p.j + 1)) i.time }) in
    end_whole w i p legal.1.order legal.0 legal.1.is_order legal.1.walks ∙ ap Some (sym legal.2)
