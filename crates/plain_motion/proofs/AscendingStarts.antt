-- Walks by ascending start.
use Rattle.std.proofs.Common.{◌≡◌, ℕ, ◌<◌, List, [], ◌∷◌, ◌++◌, length, take, get_or, sym, ◌∙◌, ap, subst, arith}
use Rattle.std.proofs.lemmas.List.{map-append, get_or-map, length-map, get_or-take, get_or_default, length-take-le}
use Rattle.std.proofs.lemmas.List.Elements.{Contains-get_or}
use Rattle.std.specs.Prelude.{Contains}
use Rattle.wheel_types.specs.declared.place.Place.{Place}
use Rattle.cam_ranges.specs.Places.{IsLess, IsAscending}
use Rattle.cam_ranges.proofs.GatheredPlaces.{ascending_with}
use Rattle.plain_motion.specs.declared.window.Walk.{Walk}
use Rattle.plain_motion.specs.Ends.{starts_of}
use Rattle.plain_motion.proofs.Images.{somewhere, nowhere}

-- the start of walk k
pub start_at : (walks : List Walk) (k : ℕ) (d : Walk) (p : Place) → k < length walks → get_or (starts_of walks) k p ≡ (get_or walks k d).start
start_at walks k d p h = get_or-map (λ (v : Walk). v.start) walks k d p h

-- there are as many starts
pub all_starts : (walks : List Walk) (k : ℕ) → k < length walks → k < length (starts_of walks)
all_starts walks k h = subst (λ n. k < n) (sym (length-map walks (λ (v : Walk). v.start))) h

-- the start of a walk is one of the starts
pub start_in : (walks : List Walk) (v : Walk) (p : Place) → Contains walks v → v.start ≡ p → Contains (starts_of walks) p
start_in walks v p c e =
    let k = c.0 in
    let is : (get_or walks k v).start ≡ p = ap (λ (u : Walk). u.start) (get_or_default walks k v v c.1 ∙ c.2) ∙ e in
    subst (Contains (starts_of walks)) (start_at walks k v somewhere c.1 ∙ is) (Contains-get_or (starts_of walks) k somewhere (all_starts walks k c.1))

-- a start is that of a walk
start_of_some : (walks : List Walk) (p : Place) → Contains (starts_of walks) p → (v : Walk) × (Contains walks v × (v.start ≡ p))
start_of_some walks p c =
    let k = c.0 in
    let here : k < length walks = subst (λ n. k < n) (length-map walks (λ (v : Walk). v.start)) c.1 in
    (get_or walks k nowhere, (Contains-get_or walks k nowhere here, sym (start_at walks k nowhere p here) ∙ get_or_default (starts_of walks) k p p c.1 ∙ c.2))

-- one walk more, whose start is past those of the others
pub starts_with : (walks : List Walk) (u : Walk) → IsAscending (starts_of walks) → ((v : Walk) → Contains walks v → IsLess v.start u.start) → IsAscending (starts_of (walks ++ u ∷ []))
starts_with walks u ascend less = subst IsAscending (sym (map-append (λ (v : Walk). v.start) walks (u ∷ [])))
    (ascending_with (starts_of walks) u.start ascend (λ p c. let from = start_of_some walks p c in subst (λ q. IsLess q u.start) from.1.1 (less from.0 from.1.0)))

-- a walk before walk k begins before it
pub begins_before : (walks : List Walk) (k : ℕ) (d v : Walk) → IsAscending (starts_of walks) → k < length walks → Contains (take k walks) v → IsLess v.start (get_or walks k d).start
begins_before walks k d v ascend h c =
    let m = c.0 in
    let first : m < k = subst (λ n. m < n) (length-take-le k walks (omega (arith, h))) c.1 in
    let there : m < length walks = omega (arith, first, h) in
    let is : get_or walks m v ≡ v = sym (get_or-take k walks m v first) ∙ get_or_default (take k walks) m v v c.1 ∙ c.2 in
    subst (λ p. IsLess p (get_or walks k d).start) (start_at walks m v somewhere there ∙ ap (λ (w : Walk). w.start) is)
    (subst (λ p. IsLess (get_or (starts_of walks) m somewhere) p) (start_at walks k d somewhere h) (ascend m k somewhere first (all_starts walks k h)))
