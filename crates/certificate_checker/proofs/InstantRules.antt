-- What the tests at one instant say of its rules.
use Rattle.std.proofs.Common.{◌≡◌, ◌≢◌, ◌<◌, ◌↔◌, true, false, Bool, not, IsTrue, List, [], ◌∷◌, refl, sym, ◌∙◌, subst}
use Rattle.std.proofs.lemmas.Bool.{false≢true}
use Rattle.std.specs.Prelude.{Contains, Option, Some, None, MatchOption}
use Rattle.wheel_types.specs.declared.place.Place.{Place}
use Rattle.wheel_types.specs.declared.instant.Instant.{Instant}
use Rattle.wheel_types.specs.declared.verdict.Verdict.{Verdict}
use Rattle.wheel_types.specs.declared.verdict.Verdict.TheVariants.{At, Open, Lost}
use Rattle.wheel_types.specs.declared.parts.WheelParts.{WheelParts}
use Rattle.wheel_types.specs.Verdicts.{Leads, IsVerdict, IsLeast}
use Rattle.wheel_types.specs.declared.channel.Channel.TheVariants.{Crank}
use Rattle.wheel_types.specs.Edges.{edge_count}
use Rattle.wheel_types.proofs.StartsAndEnds.{end_once}
use Rattle.certificate_checker.specs.Situations.{ComesTo, IsWalk}
use Rattle.certificate_checker.specs.Rules.{HoldsSteps, EndsLeast}
use Rattle.certificate_checker.specs.Checking.{StepsTo, HoldsAll, HasStep, AreFrom, Tells, IsLeastNotAt}

-- a legal step of one of the places is one that is come to
to_come : (w : WheelParts) (before : List Instant) (reached from : List Place) (i : Instant) (q : Place) → AreFrom w before reached from → StepsTo w before from i q → ComesTo w before reached i q
to_come w before reached from i q a s = (s.0, ((a s.0).0 s.1.0, s.1.1))

come_to : (w : WheelParts) (before : List Instant) (reached from : List Place) (i : Instant) (q : Place) → AreFrom w before reached from → ComesTo w before reached i q → StepsTo w before from i q
come_to w before reached from i q a s = (s.0, ((a s.0).1 s.1.0, s.1.1))

pub all_steps : (w : WheelParts) (before : List Instant) (reached from : List Place) (i : Instant) (v : Verdict) (cover : List Place) (b : Bool) → v ≢ Lost → AreFrom w before reached from → IsTrue b ↔ HoldsAll w before from i cover → IsTrue b ↔ HoldsSteps w before reached i v cover
all_steps w before reached from i (At j s) cover b n a h = (λ t q c. h.0 t q (come_to w before reached from i q a c), λ k. h.1 (λ q s. k q (to_come w before reached from i q a s)))
all_steps w before reached from i (Open x y) cover b n a h = (λ t q c. h.0 t q (come_to w before reached from i q a c), λ k. h.1 (λ q s. k q (to_come w before reached from i q a s)))
all_steps w before reached from i Lost cover b n a h = absurd (n refl)

not_true : (b : Bool) → IsTrue (not b) → IsTrue b → ⊥
not_true true h k = false≢true h
not_true false h k = false≢true k

true_not : (b : Bool) → (IsTrue b → ⊥) → IsTrue (not b)
true_not true h = absurd (h refl)
true_not false h = refl

pub no_steps : (w : WheelParts) (before : List Instant) (reached from : List Place) (i : Instant) (v : Verdict) (cover : List Place) (b : Bool) → v ≡ Lost → AreFrom w before reached from → IsTrue b ↔ HasStep w before from i → IsTrue (not b) ↔ HoldsSteps w before reached i v cover
no_steps w before reached from i v cover b e a h = subst (λ v. IsTrue (not b) ↔ HoldsSteps w before reached i v cover) (sym e) (
  λ t q c. not_true b t (h.1 (q, come_to w before reached from i q a c)),
  λ k. true_not b (λ t. let s = h.0 t in k s.0 (to_come w before reached from i s.0 a s.1)),
)

-- what a set that took the instant says of walks
pub walk_found : (w : WheelParts) (since window : List Instant) (v : Verdict) (a : Place) (r : Option Place) → v ≢ Lost → Tells w since v window → MatchOption r ((e : Place) → Leads w window a e → ⊥) (λ e. Leads w window a e) → MatchOption r ((e : Place) → IsWalk w since a e → ⊥) (λ e. IsWalk w since a e)
walk_found w since window v a None n t h = λ e k. h e (subst (λ l. Leads w l a e) (sym (t.goes_on n)) ((t.walks a e).0 k))
walk_found w since window v a (Some e) n t h = (t.walks a e).1 (subst (λ l. Leads w l a e) (t.goes_on n) h)

pub none_walks : (w : WheelParts) (since window : List Instant) (v : Verdict) (a e : Place) → v ≡ Lost → Tells w since v window → IsWalk w since a e → ⊥
none_walks w since window v a e lost t k = by_verdict v lost t.verdict
  where
    by_verdict : (v : Verdict) → v ≡ Lost → IsVerdict w since v → ⊥
    by_verdict (At j s) lost is = cc
    by_verdict (Open x y) lost is = cc
    by_verdict Lost lost is = is e (a, (t.walks a e).0 k)

pub has_some : (w : WheelParts) (i : Instant) (before window : List Instant) (v : Verdict) → v ≢ Lost → Tells w (i ∷ before) v window → window ≡ [] → ⊥
has_some w i before window v n t e = let f : i ∷ before ≡ [] = sym (t.goes_on n) ∙ e in cc

-- a walk from a place ends at one place
pub walk_once : (w : WheelParts) (since window : List Instant) (v : Verdict) (a e f : Place) → 0 < edge_count w Crank → Tells w since v window → IsWalk w since a e → IsWalk w since a f → e ≡ f
walk_once w since window v a e f some t x y = end_once w since a e f some ((t.walks a e).0 x) ((t.walks a f).0 y)

-- the best of a cover, whatever its position, is its least place
pub least_best : (cover : List Place) (e : Place) → IsLeastNotAt cover None e ↔ IsLeast (Contains cover) e
least_best cover e = (
  λ h. record { holds = h.holds.0; least = λ q c. h.least q (c, tt) },
  λ h. record { holds = (h.holds, tt); least = λ q c. h.least q c.0 },
)

pub ends_found : (w : WheelParts) (since window : List Instant) (v : Verdict) (a b e f : Place) (cover : List Place) (x y : Bool) → 0 < edge_count w Crank → Tells w since v window → IsWalk w since a e → IsWalk w since b f
    → IsTrue x ↔ IsLeastNotAt cover None e → IsTrue y ↔ IsLeastNotAt cover (Some e.j) f → (IsTrue x → IsTrue y → EndsLeast w since cover a b) × (EndsLeast w since cover a b → IsTrue x × IsTrue y)
ends_found w since window v a b e f cover x y some t k l h g = (
  λ p q. record { first = e; second = f; walks = k; others = l; least = (least_best cover e).0 (h.0 p); next = g.0 q },
  λ m.
      let first : m.first ≡ e = walk_once w since window v a m.first e some t m.walks k in
      let second : m.second ≡ f = walk_once w since window v b m.second f some t m.others l in (
        h.1 ((least_best cover e).1 (subst (IsLeast (Contains cover)) first m.least)),
        g.1 (subst (λ (p : Place). IsLeastNotAt cover (Some p.j) f) first (subst (IsLeastNotAt cover (Some m.first.j)) second m.next)),
      ),
)

pub true_unless : (b : Bool) → (b ≡ false → ⊥) → IsTrue b
true_unless true h = refl
true_unless false h = absurd (h refl)
