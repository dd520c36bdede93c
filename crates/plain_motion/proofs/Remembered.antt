-- What is kept of instants, instant by instant.
use Rattle.std.proofs.Common.{◌≡◌, ◌≢◌, inl, inr, Bool, true, List, [], ◌∷◌, ℤ, ◌<ℤ◌, refl, sym, subst, arith}
use Rattle.std.proofs.lemmas.Int.{ints}
use Rattle.std.specs.Prelude.{Option, Some, None, IfSome}
use Rattle.wheel_types.specs.declared.instant.Instant.{Instant}
use Rattle.wheel_types.specs.declared.verdict.Verdict.{Verdict}
use Rattle.wheel_types.specs.declared.verdict.Verdict.TheVariants.{At, Open, Lost}
use Rattle.wheel_types.specs.declared.parts.WheelParts.{WheelParts}
use Rattle.wheel_types.specs.Verdicts.{AreVerdicts, IsVerdict, IsNextWindow, AllEarlier}
use Rattle.plain_motion.specs.declared.window.Window.{Window}
use Rattle.plain_motion.specs.Ends.{Keeps, some_instant}
use Rattle.plain_motion.specs.Memories.{Remembers, BeginsAfter}

-- before the first instant
pub remembers_none : (w : WheelParts) (s : Window) → Keeps w s [] → Remembers w s None [] []
remembers_none w s k = record { window = []; windows = refl; kept = k; time = refl; earlier = λ t h. tt }

later_still : (last : Option ℤ) (t u : ℤ) → IfSome last (λ l. l <ℤ t) → t <ℤ u → IfSome last (λ l. l <ℤ u)
later_still None t u h k = tt
later_still (Some l) t u h k = through l t u h k
  where
    through : (l t u : ℤ) → l <ℤ t → t <ℤ u → l <ℤ u
    through l t u h k = omega (arith, ints, h, k)

-- what an instant changes
pub record GoesOn (w : WheelParts) (s next : Window) (i : Instant) (v : Verdict) : Type 0 where
  pub keeps : (past : List Instant) → AllEarlier i.time past → Keeps w s past → Keeps w next (i ∷ past)
  pub judged : (past : List Instant) → Keeps w next past → IsVerdict w past v

goes_on : (w : WheelParts) (i : Instant) (before : List Instant) (v : Verdict) → v ≢ Lost → IsNextWindow w i before v (i ∷ before)
goes_on w i before (At j slot) n = refl
goes_on w i before (Open a b) n = refl
goes_on w i before Lost n = absurd (n refl)

-- where the instant was not lost
pub found : (w : WheelParts) (s next : Window) (last : Option ℤ) (past : List Instant) (vs : List Verdict) (i : Instant) (v : Verdict) → v ≢ Lost → GoesOn w s next i v → IfSome last (λ l. l <ℤ i.time) → Remembers w s last past vs → Remembers w next (Some i.time) (i ∷ past) (v ∷ vs)
found w s next last past vs i v n g later r =
    let k = g.keeps r.window (r.earlier i.time later) r.kept in
    record {
      window = i ∷ r.window;
      windows = (r.window, r.windows, g.judged (i ∷ r.window) k, goes_on w i r.window v n);
      kept = k;
      time = refl;
      earlier = λ t h. (h, r.earlier t (later_still last i.time t later h));
    }

-- where it was lost
pub lost : (w : WheelParts) (s next fresh : Window) (last : Option ℤ) (past : List Instant) (vs : List Verdict) (i : Instant) → GoesOn w s next i Lost → BeginsAfter w s.begun i fresh → IfSome last (λ l. l <ℤ i.time) → Remembers w s last past vs → Remembers w fresh (Some i.time) (i ∷ past) (Lost ∷ vs)
lost w s next fresh last past vs i g after later r =
    by_cases r.window (subst (λ b. BeginsAfter w b i fresh) r.kept.begun after) r.windows (g.judged (i ∷ r.window) (g.keeps r.window (r.earlier i.time later) r.kept))
  where
    by_cases : (window : List Instant) → BeginsAfter w (some_instant window) i fresh → AreVerdicts w past vs window → IsVerdict w (i ∷ window) Lost → Remembers w fresh (Some i.time) (i ∷ past) (Lost ∷ vs)
    by_cases [] b a v = record { window = []; windows = ([], a, v, refl); kept = b; time = refl; earlier = λ t h. tt }
    by_cases (x ∷ window) (inl b) a v = record { window = i ∷ []; windows = (x ∷ window, a, v, inl (b.0, refl)); kept = b.1; time = refl; earlier = λ t h. (h, tt) }
    by_cases (x ∷ window) (inr b) a v = record { window = []; windows = (x ∷ window, a, v, inr (b.0, refl)); kept = b.1; time = refl; earlier = λ t h. tt }

-- what the instant alone leaves
pub alone_found : (w : WheelParts) (s : Window) (i : Instant) (v : Verdict) → v ≢ Lost → IsVerdict w (i ∷ []) v → Keeps w s (i ∷ []) → BeginsAfter w true i s
alone_found w s i (At j slot) n v k = inl (v.0, k)
alone_found w s i (Open a b) n v k = inl ((v.0, (v.2.holds)), k)
alone_found w s i Lost n v k = absurd (n refl)

pub alone_lost : (w : WheelParts) (s : Window) (i : Instant) → IsVerdict w (i ∷ []) Lost → Keeps w s [] → BeginsAfter w true i s
alone_lost w s i v k = inr (v, k)

pub begins_by : (w : WheelParts) (s : Window) (i : Instant) (b c : Bool) → b ≡ c → BeginsAfter w c i s → BeginsAfter w b i s
begins_by w s i b c e h = subst (λ x. BeginsAfter w x i s) (sym e) h

pub keeps_found : (w : WheelParts) (s next : Window) (last : Option ℤ) (past : List Instant) (vs : List Verdict) (i : Instant) (t : ℤ) (v : Verdict) → t ≡ i.time → Remembers w next (Some i.time) (i ∷ past) (v ∷ vs) → Remembers w next (Some t) (i ∷ past) (v ∷ vs)
keeps_found w s next last past vs i t v e r = subst (λ x. Remembers w next (Some x) (i ∷ past) (v ∷ vs)) (sym e) r
