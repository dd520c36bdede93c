-- On every wheel instants whose times rise have an exact certificate, and the one of the first of them is the front of it.
use Rattle.std.proofs.Common.{◌≡◌, ℕ, zero, suc, ◌+◌, ◌<◌, ◌⊎◌, inl, inr, ◌↔◌, List, [], ◌∷◌, ◌++◌, length, reverse, append-nil, ℤ, ◌<ℤ◌, refl, sym, ap, subst, arith}
use Rattle.std.proofs.lemmas.Int.{ints}
use Rattle.std.specs.Prelude.{slice_index_or, Contains}
use Rattle.wheel_types.specs.declared.place.Place.{Place}
use Rattle.wheel_types.specs.declared.instant.Instant.{Instant}
use Rattle.wheel_types.specs.declared.verdict.Verdict.{Verdict}
use Rattle.wheel_types.specs.declared.verdict.Verdict.TheVariants.{At, Open, Lost}
use Rattle.wheel_types.specs.declared.parts.WheelParts.{WheelParts}
use Rattle.wheel_types.specs.Wheels.{IsWheel}
use Rattle.wheel_types.specs.Verdicts.{EndsAt, IsVerdict, AreVerdicts, AllEarlier, IsRising}
use Rattle.wheel_types.proofs.Determined.{verdicts_determined}
use Rattle.wheel_types.proofs.RisingTimes.{RisesTo, rises_to-reverse}
use Rattle.cam_ranges.specs.Places.{IsLess, IsAscending}
use Rattle.cam_ranges.specs.Gathered.{AreExactly}
use Rattle.plain_motion.specs.EndPlaces.{AreEndsOf}
use Rattle.plain_motion.proofs.Listed.{IsIn, Lists}
use Rattle.plain_motion.proofs.ListedPlaces.{LeastOrNone, nats_apart, least_or_none}
use Rattle.plain_motion.proofs.Existing.{ends_listed, verdicts_exist}
use Rattle.pair_certificate.specs.declared.line.CertKind.{CertKind}
use Rattle.pair_certificate.specs.declared.line.CertKind.TheVariants as kind
use Rattle.pair_certificate.specs.declared.line.CertLine.{CertLine}
use Rattle.certificate_checker.specs.Exact.{HasExactKind, AreExactLines}
use Rattle.cam_ranges.proofs.OrderedLists.{less_through}
use Rattle.certificate_checker.proofs.NextRises.{next_rises, next_earlier}

-- ---- places in order

-- each is less than all after it
abbrev pub InOrder : List Place → Type 0
InOrder [] = Unit {0}
InOrder (p ∷ ps) = ((q : Place) → IsIn q ps → IsLess p q) × InOrder ps

is_in_at : (ps : List Place) (k : ℕ) (d : Place) → k < length ps → IsIn (slice_index_or ps k d) ps
is_in_at [] k d h = absurd (omega (arith, h))
is_in_at (p ∷ ps) zero d h = inl refl
is_in_at (p ∷ ps) (suc k) d h = inr (is_in_at ps k d (omega (arith, h)))

order_ascends : (ps : List Place) → InOrder ps → IsAscending ps
order_ascends [] o a b d h k = absurd (omega (arith, k))
order_ascends (p ∷ ps) o zero zero d h k = absurd (omega (arith, h))
order_ascends (p ∷ ps) o zero (suc b) d h k = o.0 (slice_index_or ps b d) (is_in_at ps b d (omega (arith, k)))
order_ascends (p ∷ ps) o (suc a) zero d h k = absurd (omega (arith, h))
order_ascends (p ∷ ps) o (suc a) (suc b) d h k = order_ascends ps o.1 a b d (omega (arith, h)) (omega (arith, k))

ints_apart : (a b : ℤ) → (a <ℤ b) ⊎ ((b <ℤ a) ⊎ (a ≡ b))
ints_apart a b = grind (arith, ints)

same_place : (p q : Place) → p.j ≡ q.j → p.n1 ≡ q.n1 → p.n2 ≡ q.n2 → p ≡ q
same_place p q e f g = rw (e, f, g) refl

-- of two places one is less, or they are one
apart : (p q : Place) → IsLess p q ⊎ (IsLess q p ⊎ (p ≡ q))
apart p q = by_position (nats_apart p.j q.j)
  where
    by_second : p.j ≡ q.j → p.n1 ≡ q.n1 → (p.n2 <ℤ q.n2) ⊎ ((q.n2 <ℤ p.n2) ⊎ (p.n2 ≡ q.n2)) → IsLess p q ⊎ (IsLess q p ⊎ (p ≡ q))
    by_second e f (inl h) = inl (inr (e, inr (f, h)))
    by_second e f (inr (inl h)) = inr (inl (inr (sym e, inr (sym f, h))))
    by_second e f (inr (inr g)) = inr (inr (same_place p q e f g))

    by_first : p.j ≡ q.j → (p.n1 <ℤ q.n1) ⊎ ((q.n1 <ℤ p.n1) ⊎ (p.n1 ≡ q.n1)) → IsLess p q ⊎ (IsLess q p ⊎ (p ≡ q))
    by_first e (inl h) = inl (inr (e, inl h))
    by_first e (inr (inl h)) = inr (inl (inr (sym e, inl h)))
    by_first e (inr (inr f)) = by_second e f (ints_apart p.n2 q.n2)

    by_position : (p.j < q.j) ⊎ ((q.j < p.j) ⊎ (p.j ≡ q.j)) → IsLess p q ⊎ (IsLess q p ⊎ (p ≡ q))
    by_position (inl h) = inl (inl h)
    by_position (inr (inl h)) = inr (inl (inl h))
    by_position (inr (inr e)) = by_first e (ints_apart p.n1 q.n1)

-- a list in order of these places and one more
record Put (p : Place) (ps : List Place) : Type 0 where
  pub all : List Place
  pub order : InOrder all
  pub has : (q : Place) → IsIn q all → (p ≡ q) ⊎ IsIn q ps
  pub first : IsIn p all
  pub rest : (q : Place) → IsIn q ps → IsIn q all

put : (p : Place) (ps : List Place) → InOrder ps → Put p ps
put p [] o = record { all = p ∷ []; order = ((λ q h. absurd h), tt); has = λ q h. h; first = inl refl; rest = λ q h. absurd h }
put p (q ∷ ps) o = by_cases (put p ps o.1) (apart p q)
  where
    before : IsLess p q → (r : Place) → IsIn r (q ∷ ps) → IsLess p r
    before h r (inl e) = subst (IsLess p) e h
    before h r (inr k) = less_through p q r h (o.0 r k)

    later : (s : Put p ps) → IsLess q p → (r : Place) → (p ≡ r) ⊎ IsIn r ps → IsLess q r
    later s h r (inl e) = subst (IsLess q) e h
    later s h r (inr k) = o.0 r k

    has_more : (s : Put p ps) → (r : Place) → IsIn r (q ∷ s.all) → (p ≡ r) ⊎ IsIn r (q ∷ ps)
    has_more s r (inl e) = inr (inl e)
    has_more s r (inr k) = by (s.has r k)
      where
        by : (p ≡ r) ⊎ IsIn r ps → (p ≡ r) ⊎ IsIn r (q ∷ ps)
        by (inl e) = inl e
        by (inr m) = inr (inr m)

    rest_more : (s : Put p ps) → (r : Place) → IsIn r (q ∷ ps) → IsIn r (q ∷ s.all)
    rest_more s r (inl e) = inl e
    rest_more s r (inr k) = inr (s.rest r k)

    by_cases : Put p ps → IsLess p q ⊎ (IsLess q p ⊎ (p ≡ q)) → Put p (q ∷ ps)
    by_cases s (inl h) = record { all = p ∷ q ∷ ps; order = (before h, o); has = λ r k. k; first = inl refl; rest = λ r k. inr k }
    by_cases s (inr (inl h)) =
        record { all = q ∷ s.all; order = ((λ r k. later s h r (s.has r k)), s.order); has = has_more s; first = inr s.first; rest = rest_more s }
    by_cases s (inr (inr e)) = record { all = q ∷ ps; order = o; has = λ r k. inr k; first = inl (sym e); rest = λ r k. k }

-- the same places, in order
record Sorted (ps : List Place) : Type 0 where
  pub all : List Place
  pub order : InOrder all
  pub same : (q : Place) → IsIn q all ↔ IsIn q ps

sort : (ps : List Place) → Sorted ps
sort [] = record { all = []; order = tt; same = λ q. ((λ h. h), (λ h. h)) }
sort (p ∷ ps) =
    let rest = sort ps in
    let s = put p rest.all rest.order in
    record { all = s.all; order = s.order; same = λ q. ((λ h. to rest q (s.has q h)), (λ h. back rest s q h)) }
  where
    to : (rest : Sorted ps) (q : Place) → (p ≡ q) ⊎ IsIn q rest.all → IsIn q (p ∷ ps)
    to rest q (inl e) = inl e
    to rest q (inr h) = inr ((rest.same q).0 h)

    back : (rest : Sorted ps) (s : Put p rest.all) (q : Place) → IsIn q (p ∷ ps) → IsIn q s.all
    back rest s q (inl e) = subst (λ r. IsIn r s.all) e s.first
    back rest s q (inr h) = s.rest q ((rest.same q).1 h)

-- ---- membership by place in the list

pub is_in_has : (ps : List Place) (q : Place) → IsIn q ps → Contains ps q
is_in_has [] q h = absurd h
is_in_has (p ∷ ps) q (inl e) = (0, omega arith, e)
is_in_has (p ∷ ps) q (inr h) =
    let c = is_in_has ps q h in
    let within = c.1 in
    (suc c.0, omega (arith, within), c.2)

pub has_is_in : (ps : List Place) (q : Place) → Contains ps q → IsIn q ps
has_is_in ps q c = subst (λ r. IsIn r ps) c.2 (is_in_at ps c.0 q c.1)

-- what is listed stands in a list in order
pub exactly_listed : (P : Place → Type 0) → Lists P → (ps : List Place) × AreExactly P ps
exactly_listed P l =
    let s = sort l.members in (
      s.all,
      record {
        ascend = order_ascends s.all s.order;
        exact = λ q. ((λ h. (l.are q).0 ((s.same q).0 (has_is_in s.all q h))), (λ h. is_in_has s.all q ((s.same q).1 ((l.are q).1 h))));
      },
    )

-- ---- lines

cover_exists : (w : WheelParts) → IsWheel w → (window : List Instant) → RisesTo window → (cover : List Place) × AreEndsOf w window cover
cover_exists w wheel [] r = ([], refl)
cover_exists w wheel (i ∷ before) r = exactly_listed (EndsAt w (i ∷ before)) (ends_listed w wheel (i ∷ before) r)

kind_exists : (w : WheelParts) → IsWheel w → (since : List Instant) (v : Verdict) → RisesTo since → IsVerdict w since v → (k : CertKind) × HasExactKind w since v k
kind_exists w wheel since Lost r h = (kind.Lost, tt)
kind_exists w wheel since (Open a b) r h = (kind.Open a b, (refl, refl))
kind_exists w wheel since (At j slot) r h = by_least (least_or_none (EndsAt w since) (ends_listed w wheel since r))
  where
    by_least : LeastOrNone (EndsAt w since) → (k : CertKind) × HasExactKind w since (At j slot) k
    by_least (inl n) = absurd (n h.0.0 h.0.1)
    by_least (inr (e, m)) = (kind.At m.holds.0, (e, (m, m.holds.1)))

-- the windows of instants whose times rise rise
windows_rise : (w : WheelParts) (past : List Instant) (vs : List Verdict) (window : List Instant) → RisesTo past → AreVerdicts w past vs window
    → RisesTo window × ((t : ℤ) → AllEarlier t past → AllEarlier t window)
windows_rise w [] [] window r h = (subst RisesTo (sym h) tt, λ t e. subst (AllEarlier t) (sym h) tt)
windows_rise w [] (v ∷ vs) window r h = absurd h
windows_rise w (i ∷ past) [] window r h = absurd h
windows_rise w (i ∷ past) (v ∷ vs) window r h =
    let before = windows_rise w past vs h.0 r.1 h.1 in
    let since : RisesTo (i ∷ h.0) = (before.1 i.time r.0, before.0) in
    (next_rises w i h.0 v window since h.3, λ t e. next_earlier w t i h.0 v window (e.0, before.1 t e.1) h.3)

-- the verdicts of exact lines
pub exact_verdicts : (w : WheelParts) (past : List Instant) (vs : List Verdict) (cs : List CertLine) (window : List Instant) → AreExactLines w past vs cs window → AreVerdicts w past vs window
exact_verdicts w [] [] [] window x = x
exact_verdicts w [] [] (c ∷ cs) window x = absurd x
exact_verdicts w [] (v ∷ vs) cs window x = absurd x
exact_verdicts w (i ∷ past) [] cs window x = absurd x
exact_verdicts w (i ∷ past) (v ∷ vs) [] window x = absurd x
exact_verdicts w (i ∷ past) (v ∷ vs) (c ∷ cs) window x = (x.0, exact_verdicts w past vs cs x.0 x.1.0, x.1.1.0, x.1.1.1.0)

-- exact lines of later instants past those of earlier ones
pub record Extends (w : WheelParts) (later past : List Instant) (vs us : List Verdict) (cs : List CertLine) (window : List Instant) : Type 0 where
  pub verdicts : List Verdict
  pub lines : List CertLine
  pub all : vs ≡ verdicts ++ us
  pub exact : AreExactLines w (later ++ past) vs (lines ++ cs) window
  pub many : length verdicts ≡ length later
  pub as_many : length lines ≡ length later

pub extended : (w : WheelParts) → IsWheel w → (later past : List Instant) (vs us : List Verdict) (cs : List CertLine) (g m : List Instant) → RisesTo (later ++ past)
    → AreVerdicts w (later ++ past) vs g → AreExactLines w past us cs m → Extends w later past vs us cs g
extended w wheel [] past vs us cs g m r h x =
    let same = verdicts_determined w past vs us g m wheel.crank_edge h (exact_verdicts w past us cs m x) in
    record {
      verdicts = [];
      lines = [];
      all = same.0;
      exact = subst (λ l. AreExactLines w past l cs g) (sym same.0) (subst (AreExactLines w past us cs) (sym same.1) x);
      many = refl;
      as_many = refl;
    }
extended w wheel (i ∷ later) past [] us cs g m r h x = absurd h
extended w wheel (i ∷ later) past (v ∷ vs) us cs g m r h x =
    let rest = extended w wheel later past vs us cs h.0 m r.1 h.1 x in
    let rises = windows_rise w (later ++ past) vs h.0 r.1 h.1 in
    let since : RisesTo (i ∷ h.0) = (rises.1 i.time r.0, rises.0) in
    let k = kind_exists w wheel (i ∷ h.0) v since h.2 in
    let cover = cover_exists w wheel g (next_rises w i h.0 v g since h.3) in
    let c : CertLine = record { index = length (later ++ past) + 1; kind = k.0; cover = cover.0 } in
    record {
      verdicts = v ∷ rest.verdicts;
      lines = c ∷ rest.lines;
      all = ap (λ l. v ∷ l) rest.all;
      exact = (h.0, (rest.exact, (h.2, (h.3, record { index = refl; kind = k.1; cover = cover.1 }))));
      many = ap suc rest.many;
      as_many = ap suc rest.as_many;
    }

-- instants whose times rise have an exact certificate
pub exact_exists : (w : WheelParts) (is : List Instant) → IsWheel w → IsRising is → (vs : List Verdict) × ((cs : List CertLine) × ((window : List Instant) × AreExactLines w (reverse is) vs cs window))
exact_exists w is wheel rising =
    let r : RisesTo (reverse is) = rises_to-reverse is rising in
    let v = verdicts_exist w wheel (reverse is) r in
    let all : reverse is ++ [] ≡ reverse is = append-nil (reverse is) in
    let e = extended w wheel (reverse is) [] v.verdicts [] [] v.window [] (subst RisesTo (sym all) r) (subst (λ l. AreVerdicts w l v.verdicts v.window) (sym all) v.are) refl in
    (v.verdicts, (e.lines, (v.window, subst (λ l. AreExactLines w l v.verdicts e.lines v.window) all (subst (λ cs. AreExactLines w (reverse is ++ []) v.verdicts cs v.window) (append-nil e.lines) e.exact))))
