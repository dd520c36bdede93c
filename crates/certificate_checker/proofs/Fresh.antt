-- The cover of a loss, by tests.
use Rattle.std.proofs.Common.{◌≡◌, ◌↔◌, true, false, Bool, not, IsTrue, List, [], refl, subst}
use mathlib.Core.Bool.{beq}
use Rattle.std.proofs.lemmas.Bool.{false≢true}
use Rattle.std.specs.Prelude.{Contains}
use Rattle.wheel_types.specs.declared.place.Place.{Place}
use Rattle.wheel_types.specs.declared.instant.Instant.{Instant}
use Rattle.wheel_types.specs.declared.parts.WheelParts.{WheelParts}
use Rattle.certificate_checker.specs.Situations.{BeginsAt}
use Rattle.certificate_checker.specs.Rules.{HoldsFresh}
use Rattle.certificate_checker.specs.Checking.{ArePlacesOf, StepsTo, HoldsAll, HasStep}

-- every place that the instant alone comes to is in the cover
abbrev pub HoldsBegun : WheelParts → Instant → List Place → Type 0
HoldsBegun w i cover = (q : Place) → BeginsAt w i q → Contains cover q

-- there is one
abbrev pub HasBegun : WheelParts → Instant → Type 0
HasBegun w i = (q : Place) × BeginsAt w i q

from_places : (w : WheelParts) (places : List Place) (i : Instant) (q : Place) → ArePlacesOf w places → StepsTo w [] places i q → BeginsAt w i q
from_places w places i q are s = (s.0, ((are s.0).0 s.1.0, s.1.1))

to_places : (w : WheelParts) (places : List Place) (i : Instant) (q : Place) → ArePlacesOf w places → BeginsAt w i q → StepsTo w [] places i q
to_places w places i q are s = (s.0, ((are s.0).1 s.1.0, s.1.1))

pub begun_all : (u w : WheelParts) (window : List Instant) (slice places cover : List Place) (i : Instant) (b : Bool) → u ≡ w → window ≡ [] → slice ≡ places → ArePlacesOf w places → IsTrue b ↔ HoldsAll u window slice i cover → IsTrue b ↔ HoldsBegun w i cover
begun_all u w window slice places cover i b e f g are h =
    let k : IsTrue b ↔ HoldsAll w [] places i cover = subst (λ v. IsTrue b ↔ HoldsAll v [] places i cover) e (subst (λ l. IsTrue b ↔ HoldsAll u l places i cover) f (subst (λ l. IsTrue b ↔ HoldsAll u window l i cover) g h)) in
    (λ t q s. k.0 t q (to_places w places i q are s), λ m. k.1 (λ q s. m q (from_places w places i q are s)))

pub begun_some : (u w : WheelParts) (window : List Instant) (slice places : List Place) (i : Instant) (b : Bool) → u ≡ w → window ≡ [] → slice ≡ places → ArePlacesOf w places → IsTrue b ↔ HasStep u window slice i → IsTrue b ↔ HasBegun w i
begun_some u w window slice places i b e f g are h =
    let k : IsTrue b ↔ HasStep w [] places i = subst (λ v. IsTrue b ↔ HasStep v [] places i) e (subst (λ l. IsTrue b ↔ HasStep u l places i) f (subst (λ l. IsTrue b ↔ HasStep u window l i) g h)) in
    (λ t. let s = k.0 t in (s.0, from_places w places i s.0 are s.1), λ m. k.1 (m.0, to_places w places i m.0 are m.1))

pub fresh_held : (w : WheelParts) (i : Instant) (cover : List Place) (some empty : Bool) → HoldsBegun w i cover → IsTrue some ↔ HasBegun w i → IsTrue empty ↔ (cover ≡ []) → IsTrue (not (beq some empty)) ↔ HoldsFresh w i cover
fresh_held w i cover true true held s e = (λ t. absurd (false≢true t), λ h. let b = s.0 refl in absurd (h.empty.0 (e.0 refl) b.0 b.1))
fresh_held w i cover true false held s e = (λ t. record { steps = held; empty = (λ none. absurd (false≢true (e.1 none)), λ none. let b = s.0 refl in absurd (none b.0 b.1)) }, λ h. refl)
fresh_held w i cover false true held s e = (λ t. record { steps = held; empty = (λ none q b. false≢true (s.1 (q, b)), λ none. e.0 refl) }, λ h. refl)
fresh_held w i cover false false held s e = (λ t. absurd (false≢true t), λ h. absurd (false≢true (e.1 (h.empty.1 (λ q b. false≢true (s.1 (q, b)))))))
