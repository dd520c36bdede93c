-- Where the rules hold at an instant, its report line has the verdict.
use Rattle.std.proofs.Common.{◌≡◌, ◌≢◌, ◌<◌, inl, inr, ◌⊎◌, List, [], ◌∷◌, ℤ, sym, subst, refl}
use Rattle.std.specs.Prelude.{Contains}
use Rattle.std.proofs.lemmas.List.Elements.{All-contains}
use Rattle.wheel_types.specs.declared.channel.Channel.TheVariants.{Crank}
use Rattle.wheel_types.specs.declared.place.Place.{Place}
use Rattle.wheel_types.specs.declared.instant.Instant.{Instant}
use Rattle.wheel_types.specs.declared.verdict.Verdict.{Verdict}
use Rattle.wheel_types.specs.declared.verdict.Verdict.TheVariants.{At, Open, Lost}
use Rattle.wheel_types.specs.declared.parts.WheelParts.{WheelParts}
use Rattle.wheel_types.specs.Wheels.{IsWheel}
use Rattle.wheel_types.specs.Edges.{edge_count}
use Rattle.wheel_types.specs.Verdicts.{EndsAt, IsLeast, Leads, IsVerdict, AreGiven, IsNextWindow, AllEarlier}
use Rattle.wheel_types.proofs.RisingTimes.{RisesTo}
use Rattle.plain_motion.proofs.ListedPlaces.{LeastOrNone, least_or_none}
use Rattle.plain_motion.proofs.Existing.{ends_listed}
use Rattle.pair_certificate.specs.declared.line.CertKind.{CertKind}
use Rattle.pair_certificate.specs.declared.line.CertKind.TheVariants as kind
use Rattle.certificate_checker.specs.Situations.{Situation, BeginsAt, window_after}
use Rattle.certificate_checker.specs.Rules.{IsOfKind, HoldsSteps, HoldsPosition, HoldsStarts, EndsLeast, HoldsLeastEnds, HoldsFresh, HoldsAfterLoss, HoldsLoss}
use Rattle.certificate_checker.proofs.LegalWalks.{walk_leads}
use Rattle.certificate_checker.proofs.Covers.{Covers, none_covers, ends_come, ends_begin, begin_ends}

-- the least of a cover is the least end place, if motions end there
least_end : (w : WheelParts) (since : List Instant) (cover : List Place) (e : Place) → ((q : Place) → EndsAt w since q → Contains cover q) → EndsAt w since e → IsLeast (Contains cover) e → IsLeast (EndsAt w since) e
least_end w since cover e all ends l = record { holds = ends; least = λ q k. l.least q (all q k) }

next_end : (w : WheelParts) (since : List Instant) (cover : List Place) (e f : Place) → ((q : Place) → EndsAt w since q → Contains cover q) → EndsAt w since f
    → IsLeast (λ p. Contains cover p × (p.j ≢ e.j)) f → IsLeast (λ p. EndsAt w since p × (p.j ≢ e.j)) f
next_end w since cover e f all ends l = record { holds = (ends, l.holds.1); least = λ q k. l.least q (all q k.0, k.1) }

pub verdict_right : (w : WheelParts) (t : Situation) (v : Verdict) (k : CertKind) → 0 < edge_count w Crank → Covers w t.before t.reached → RisesTo (t.instant ∷ t.before)
    → IsOfKind v k → HoldsSteps w t.before t.reached t.instant v t.line.cover → HoldsPosition w v t.line.cover → HoldsStarts w (t.instant ∷ t.before) k → HoldsLeastEnds w (t.instant ∷ t.before) v k t.line.cover → IsVerdict w (t.instant ∷ t.before) v
verdict_right w t (At j slot) (kind.At a) some covers rises is steps position starts least =
    let since : List Instant = t.instant ∷ t.before in
    let ends : EndsAt w since starts.0 = (a, walk_leads w since a starts.0 some rises starts.1) in
    ((starts.0, ends), λ q e. All-contains (λ (p : Place). p.j ≡ j) t.line.cover q position.0 (steps q (ends_come w t q some covers e)), position.1.1)
verdict_right w t (Open x y) (kind.Open a b) some covers rises is steps position starts least =
    let since : List Instant = t.instant ∷ t.before in
    let l : EndsLeast w (t.instant ∷ t.before) t.line.cover a b = least.1.1 in
    let all : (q : Place) → EndsAt w since q → Contains t.line.cover q = λ q e. steps q (ends_come w t q some covers e) in
    let first : Leads w since a l.first = walk_leads w since a l.first some rises l.walks in
    let second : Leads w since b l.second = walk_leads w since b l.second some rises l.others in (
      l.first,
      l.second,
      least_end w since t.line.cover l.first all (a, first) l.least,
      next_end w since t.line.cover l.first l.second all (b, second) l.next,
      subst (λ p. Leads w since p l.first) (sym least.0) first,
      subst (λ p. Leads w since p l.second) (sym least.1.0) second,
    )
verdict_right w t Lost kind.Lost some covers rises is steps position starts least = λ q e. steps q (ends_come w t q some covers e)
verdict_right w t (At j slot) (kind.Open a b) some covers rises is steps position starts least = absurd is
verdict_right w t (At j slot) kind.Lost some covers rises is steps position starts least = absurd is
verdict_right w t (Open x y) (kind.At a) some covers rises is steps position starts least = absurd is
verdict_right w t (Open x y) kind.Lost some covers rises is steps position starts least = absurd is
verdict_right w t Lost (kind.At a) some covers rises is steps position starts least = absurd is
verdict_right w t Lost (kind.Open a b) some covers rises is steps position starts least = absurd is

-- the window that the next instant comes into: the one that the cover tells, which has every end place
pub record NextCovers (w : WheelParts) (i : Instant) (before : List Instant) (v : Verdict) (cover : List Place) : Type 0 where
  pub is_next : IsNextWindow w i before v (window_after i before v cover)
  pub covers : Covers w (window_after i before v cover) cover
  pub rises : RisesTo (window_after i before v cover)
  pub earlier : (u : ℤ) → AllEarlier u (i ∷ before) → AllEarlier u (window_after i before v cover)

-- a place begins a window, or none does
begins_or_not : (w : WheelParts) (i : Instant) → IsWheel w → 0 < edge_count w Crank → AreGiven w (i ∷ []) ⊎ ((q : Place) → BeginsAt w i q → ⊥)
begins_or_not w i wheel some = by_cases (least_or_none (EndsAt w (i ∷ [])) (ends_listed w wheel (i ∷ []) (tt, tt)))
  where
    by_cases : LeastOrNone (EndsAt w (i ∷ [])) → AreGiven w (i ∷ []) ⊎ ((q : Place) → BeginsAt w i q → ⊥)
    by_cases (inl n) = inr (λ q b. n q (begin_ends w i q some b))
    by_cases (inr (e, l)) = inl (e, l.holds)

after_loss : (w : WheelParts) (i : Instant) (h : Instant) (before : List Instant) (cover : List Place) → IsWheel w → 0 < edge_count w Crank → HoldsFresh w i cover → NextCovers w i (h ∷ before) Lost cover
after_loss w i h before [] wheel some fresh =
    let none : (q : Place) → BeginsAt w i q → ⊥ = fresh.empty.0 refl in
    record { is_next = inr (λ q e. none q (ends_begin w i q some e), refl); covers = none_covers w [] some; rises = tt; earlier = λ u e. tt }
after_loss w i h before (p ∷ cover) wheel some fresh = by_cases (begins_or_not w i wheel some)
  where
    not_empty : p ∷ cover ≡ [] → ⊥
    not_empty e = cc

    by_cases : AreGiven w (i ∷ []) ⊎ ((q : Place) → BeginsAt w i q → ⊥) → NextCovers w i (h ∷ before) Lost (p ∷ cover)
    by_cases (inl g) = record { is_next = inl (g, refl); covers = λ q e. fresh.steps q (ends_begin w i q some e); rises = (tt, tt); earlier = λ u e. (e.0, tt) }
    by_cases (inr n) = absurd (not_empty (fresh.empty.1 n))

by_loss : (w : WheelParts) (i : Instant) (before : List Instant) (cover : List Place) → IsWheel w → 0 < edge_count w Crank → HoldsAfterLoss w i before cover → NextCovers w i before Lost cover
by_loss w i [] cover wheel some loss = record { is_next = refl; covers = none_covers w cover some; rises = tt; earlier = λ u e. tt }
by_loss w i (h ∷ before) cover wheel some loss = after_loss w i h before cover wheel some loss

pub next_covers : (w : WheelParts) (t : Situation) (v : Verdict) → IsWheel w → 0 < edge_count w Crank → Covers w t.before t.reached → RisesTo (t.instant ∷ t.before)
    → HoldsSteps w t.before t.reached t.instant v t.line.cover → HoldsLoss w t.instant t.before v t.line.cover → NextCovers w t.instant t.before v t.line.cover
next_covers w t (At j slot) wheel some covers rises steps loss = record { is_next = refl; covers = λ q e. steps q (ends_come w t q some covers e); rises = rises; earlier = λ u e. e }
next_covers w t (Open x y) wheel some covers rises steps loss = record { is_next = refl; covers = λ q e. steps q (ends_come w t q some covers e); rises = rises; earlier = λ u e. e }
next_covers w t Lost wheel some covers rises steps loss = by_loss w t.instant t.before t.line.cover wheel some loss
