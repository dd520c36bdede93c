-- The instants of stamps with rising times: their times rise, and are those of stamps.
use Rattle.std.proofs.Common.{◌≡◌, ℕ, suc, zero, ◌+◌, ◌<◌, ◌≤◌, ◌⊎◌, inl, inr, ℤ, ◌<ℤ◌, List, [], ◌∷◌, ◌++◌, length, get_or, Option, Some, None, refl, sym, subst, arith, length-append}
use Rattle.std.specs.Prelude.{⊤}
use Rattle.std.specs.List.{AllByRecursion}
use Rattle.std.proofs.lemmas.Int.{ints}
use Rattle.std.proofs.lemmas.Bool.{cases_lt}
use Rattle.std.proofs.lemmas.List.{get_or_append_left}
use Rattle.std.proofs.Math.Seq.{get_or-append_seam}
use Rattle.wheel_types.specs.declared.channel.Pol.{Pol}
use Rattle.wheel_types.specs.declared.instant.Instant.{Instant}
use Rattle.wheel_types.specs.Verdicts as verdicts
use Rattle.capture_core.specs.declared.capture.Given.{Given}
use Rattle.capture_core.specs.declared.capture.Stamp.{Stamp}
use Rattle.capture_core.specs.declared.capture.Watch.{Watch}
use Rattle.capture_core.specs.Captures.{closed_stamps}
use Rattle.capture_core.specs.Laws.{InstantsRise}
use Rattle.capture_core.specs.Stamps.{IsRising, edge_of, instant_if, instant_at, instants_of, with_last, known_after}
use Rattle.capture_core.proofs.RisingStamps.{closed_rising}

-- the time of an instant, if there is one, is that of the stamp
abbrev pub IsAt : ℤ → Option Instant → Type 0
IsAt t None = ⊤
IsAt t (Some i) = i.time ≡ t

instant_if-at : (t : ℤ) (a b c : Option Pol) → IsAt t (instant_if t a b c)
instant_if-at t (Some a) b c = refl
instant_if-at t None (Some b) c = refl
instant_if-at t None None (Some c) = refl
instant_if-at t None None None = tt

pub instant_at-at : (watch : Watch) (before : Given) (s : Stamp) → IsAt s.time (instant_at watch before s)
instant_at-at watch before s = instant_if-at s.time (edge_of (Some watch.crank) before.crank s.given.crank) (edge_of watch.cam1 before.cam1 s.given.cam1) (edge_of watch.cam2 before.cam2 s.given.cam2)

-- each instant is before the time
abbrev pub AllBefore : ℤ → List Instant → Type 0
AllBefore t is = AllByRecursion (λ (i : Instant). i.time <ℤ t) is

through : (a b c : ℤ) → a <ℤ b → b <ℤ c → a <ℤ c
through a b c h k = omega (arith, ints)

before-more : (t u : ℤ) (is : List Instant) → t <ℤ u → AllBefore t is → AllBefore u is
before-more t u [] h b = tt
before-more t u (i ∷ is) h b = (through i.time t u b.0 h, before-more t u is h b.1)

before-last : (t u : ℤ) (is : List Instant) (o : Option Instant) → AllBefore u is → IsAt t o → t <ℤ u → AllBefore u (with_last is o)
before-last t u is None b at h = b
before-last t u [] (Some i) b at h = (subst (λ v. v <ℤ u) (sym at) h, tt)
before-last t u (j ∷ is) (Some i) b at h = (b.0, before-last t u is (Some i) b.1 at h)

-- the instants of stamps that end before a time
all-before : (watch : Watch) (s : Stamp) (past : List Stamp) (u : ℤ) → IsRising (s ∷ past) → s.time <ℤ u → AllBefore u (instants_of watch (s ∷ past))
all-before watch s [] u r h = before-last s.time u [] _ tt (instant_at-at watch (known_after []) s) h
all-before watch s (q ∷ past) u r h =
    before-last s.time u (instants_of watch (q ∷ past)) _ (before-more s.time u _ h (all-before watch q past s.time r.1 r.0)) (instant_at-at watch (known_after (q ∷ past)) s) h

before-at : (t : ℤ) (is : List Instant) (k : ℕ) (d : Instant) → AllBefore t is → k < length is → (get_or is k d).time <ℤ t
before-at t [] k d b h = absurd (omega (arith, h))
before-at t (i ∷ is) zero d b h = b.0
before-at t (i ∷ is) (suc k) d b h = before-at t is k d b.1 (omega (arith, h))

-- one later instant at the end
rising-last : (is : List Instant) (i : Instant) → verdicts.IsRising is → AllBefore i.time is → verdicts.IsRising (is ++ i ∷ [])
rising-last is i r b k d h =
    let size : length (is ++ i ∷ []) ≡ length is + 1 = length-append is (i ∷ []) in
    let first : get_or (is ++ i ∷ []) k d ≡ get_or is k d = get_or_append_left is (i ∷ []) d k (omega (arith, h, size)) in
    by first (cases_lt (k + 1) (length is))
  where
    by : get_or (is ++ i ∷ []) k d ≡ get_or is k d → (k + 1 < length is) ⊎ (length is ≤ k + 1) → (get_or (is ++ i ∷ []) k d).time <ℤ (get_or (is ++ i ∷ []) (k + 1) d).time
    by first (inl inside) =
        let second : get_or (is ++ i ∷ []) (k + 1) d ≡ get_or is (k + 1) d = get_or_append_left is (i ∷ []) d (k + 1) inside in
        rw (first, second) (r k d inside)
    by first (inr end) =
        let size : length (is ++ i ∷ []) ≡ length is + 1 = length-append is (i ∷ []) in
        let here : length is ≡ k + 1 = omega (arith, h, size, end) in
        let second : get_or (is ++ i ∷ []) (k + 1) d ≡ i = subst (λ n. get_or (is ++ i ∷ []) n d ≡ i) here (get_or-append_seam is i [] d) in
        rw (first, second) (before-at i.time is k d b (omega (arith, here)))

rising-with : (t : ℤ) (is : List Instant) (o : Option Instant) → verdicts.IsRising is → AllBefore t is → IsAt t o → verdicts.IsRising (with_last is o)
rising-with t is None r b at = r
rising-with t is (Some i) r b at = rising-last is i r (subst (λ u. AllBefore u is) (sym at) b)

none-before : (watch : Watch) (s : Stamp) (past : List Stamp) → IsRising (s ∷ past) → AllBefore s.time (instants_of watch past)
none-before watch s [] r = tt
none-before watch s (q ∷ past) r = all-before watch q past s.time r.1 r.0

rising-before : (s : Stamp) (past : List Stamp) → IsRising (s ∷ past) → IsRising past
rising-before s [] r = tt
rising-before s (q ∷ past) r = r.1

pub instants-rise : (watch : Watch) (stamps : List Stamp) → IsRising stamps → verdicts.IsRising (instants_of watch stamps)
instants-rise watch [] r = λ k d h. absurd (omega (arith, h))
instants-rise watch (s ∷ past) r =
    rising-with s.time (instants_of watch past) _ (instants-rise watch past (rising-before s past r)) (none-before watch s past r) (instant_at-at watch (known_after past) s)

-- the instants of a capture
pub capture-rises : InstantsRise
capture-rises watch told h = instants-rise watch (closed_stamps told.end told.stamps) (closed_rising told.end told.stamps h)
