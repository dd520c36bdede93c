-- Each line of an exact certificate keeps the rules.
use Rattle.std.proofs.Common.{◌≡◌, ℕ, ◌<◌, inl, inr, List, [], ◌∷◌, refl, sym, subst}
use Rattle.std.specs.Prelude.{All}
use Rattle.wheel_types.specs.declared.channel.Channel.TheVariants.{Crank}
use Rattle.wheel_types.specs.declared.place.Place.{Place}
use Rattle.wheel_types.specs.declared.instant.Instant.{Instant}
use Rattle.wheel_types.specs.declared.verdict.Verdict.{Verdict}
use Rattle.wheel_types.specs.declared.verdict.Verdict.TheVariants.{At, Open, Lost}
use Rattle.wheel_types.specs.declared.parts.WheelParts.{WheelParts}
use Rattle.wheel_types.specs.Edges.{edge_count}
use Rattle.wheel_types.specs.Verdicts.{EndsAt, Leads, IsVerdict, IsNextWindow}
use Rattle.wheel_types.proofs.BothWays.{step_ends}
use Rattle.wheel_types.proofs.Standing.{ends_stand}
use Rattle.wheel_types.proofs.RisingTimes.{RisesTo}
use Rattle.cam_ranges.specs.Places.{IsPlace, IsAscending}
use Rattle.cam_ranges.specs.Gathered.{AreExactly}
use Rattle.cam_ranges.proofs.SmallPlaces.{place_stands}
use Rattle.plain_motion.proofs.Images.{all_from_contains}
use Rattle.pair_certificate.specs.declared.line.CertKind.{CertKind}
use Rattle.pair_certificate.specs.declared.line.CertKind.TheVariants as kind
use Rattle.pair_certificate.specs.declared.line.CertLine.{CertLine}
use Rattle.certificate_checker.specs.Situations.{Situation, ComesFrom, ComesTo, IsWalk}
use Rattle.certificate_checker.specs.Rules.{IsOfKind, HoldsSteps, HoldsPosition, HoldsStarts, HoldsLeastEnds, HoldsFresh, HoldsAfterLoss, HoldsLoss}
use Rattle.certificate_checker.specs.Valid.{KeepsRules, situation_of}
use Rattle.certificate_checker.specs.Reports.{report_of}
use Rattle.plain_motion.specs.EndPlaces.{AreEndsOf}
use Rattle.certificate_checker.specs.Exact.{HasExactKind, IsExactLine}
use Rattle.certificate_checker.proofs.Lists.{none_in-if, none_ascend, none_all}
use Rattle.certificate_checker.proofs.LegalWalks.{place_ends, leads_walk}
use Rattle.certificate_checker.proofs.Covers.{begin_ends, ends_begin}

-- where the engine can be by an exact cover, motions end
come_from-ends : (w : WheelParts) (before : List Instant) (reached : List Place) (p : Place) → 0 < edge_count w Crank → AreEndsOf w before reached → ComesFrom w before reached p → EndsAt w before p
come_from-ends w [] reached p some exact come = place_ends w p some come
come_from-ends w (h ∷ before) reached p some exact come = (exact.exact p).0 come

-- and where it comes to by a legal step
pub come_to-ends : (w : WheelParts) (t : Situation) (q : Place) → 0 < edge_count w Crank → RisesTo (t.instant ∷ t.before) → AreEndsOf w t.before t.reached → ComesTo w t.before t.reached t.instant q → EndsAt w (t.instant ∷ t.before) q
come_to-ends w t q some rises exact come = step_ends w t.instant t.before come.0 q some rises.0 (come_from-ends w t.before t.reached come.0 some exact come.1.0) come.1.1

-- where motions end, a place stands
end_is_place : (w : WheelParts) (past : List Instant) (p : Place) → 0 < edge_count w Crank → EndsAt w past p → IsPlace w p
end_is_place w past p some e = (place_stands w p).0 (ends_stand w past p some e)

exact_cover : (w : WheelParts) (window : List Instant) (cover : List Place) → 0 < edge_count w Crank → AreEndsOf w window cover → IsAscending cover × All (IsPlace w) cover
exact_cover w [] cover some exact = (none_ascend cover exact, none_all (IsPlace w) cover exact)
exact_cover w (i ∷ before) cover some exact = (exact.ascend, all_from_contains (IsPlace w) cover (λ p h. end_is_place w (i ∷ before) p some ((exact.exact p).0 h)))

exact_kind : (w : WheelParts) (since : List Instant) (v : Verdict) (k : CertKind) → HasExactKind w since v k → IsOfKind v k
exact_kind w since (At j slot) (kind.At a) h = tt
exact_kind w since (Open x y) (kind.Open a b) h = tt
exact_kind w since Lost kind.Lost h = tt
exact_kind w since (At j slot) (kind.Open a b) h = absurd h
exact_kind w since (At j slot) kind.Lost h = absurd h
exact_kind w since (Open x y) (kind.At a) h = absurd h
exact_kind w since (Open x y) kind.Lost h = absurd h
exact_kind w since Lost (kind.At a) h = absurd h
exact_kind w since Lost (kind.Open a b) h = absurd h

-- the cover of an instant that is not lost has exactly the end places
cover_of : (w : WheelParts) (i : Instant) (before window : List Instant) (cover : List Place) → window ≡ i ∷ before → AreEndsOf w window cover → AreExactly (EndsAt w (i ∷ before)) cover
cover_of w i before window cover e exact = subst (λ l. AreEndsOf w l cover) e exact

exact_steps : (w : WheelParts) (t : Situation) (v : Verdict) (window : List Instant) → 0 < edge_count w Crank → RisesTo (t.instant ∷ t.before) → AreEndsOf w t.before t.reached
    → IsVerdict w (t.instant ∷ t.before) v → IsNextWindow w t.instant t.before v window → AreEndsOf w window t.line.cover → HoldsSteps w t.before t.reached t.instant v t.line.cover
exact_steps w t (At j slot) window some rises exact is next cover = λ q come. ((cover_of w t.instant t.before window t.line.cover next cover).exact q).1 (come_to-ends w t q some rises exact come)
exact_steps w t (Open x y) window some rises exact is next cover = λ q come. ((cover_of w t.instant t.before window t.line.cover next cover).exact q).1 (come_to-ends w t q some rises exact come)
exact_steps w t Lost window some rises exact is next cover = λ q come. is q (come_to-ends w t q some rises exact come)

exact_position : (w : WheelParts) (t : Situation) (v : Verdict) (window : List Instant) → 0 < edge_count w Crank
    → IsVerdict w (t.instant ∷ t.before) v → IsNextWindow w t.instant t.before v window → AreEndsOf w window t.line.cover → HoldsPosition w v t.line.cover
exact_position w t (At j slot) window some is next cover =
    let exact = cover_of w t.instant t.before window t.line.cover next cover in
    let e : Place = is.0.0 in
    let below : e.j < edge_count w Crank = (ends_stand w (t.instant ∷ t.before) e some is.0.1).edge in (
      all_from_contains (λ (p : Place). p.j ≡ j) t.line.cover (λ p h. is.1 p ((exact.exact p).0 h)),
      (subst (λ n. n < edge_count w Crank) (is.1 e is.0.1) below, is.2),
    )
exact_position w t (Open x y) window some is next cover = tt
exact_position w t Lost window some is next cover = tt

leads_start : (w : WheelParts) (t : Situation) (a x e : Place) → 0 < edge_count w Crank → a ≡ x → Leads w (t.instant ∷ t.before) x e → IsWalk w (t.instant ∷ t.before) a e
leads_start w t a x e some same l = leads_walk w (t.instant ∷ t.before) a e some (subst (λ p. Leads w (t.instant ∷ t.before) p e) (sym same) l)

exact_starts : (w : WheelParts) (t : Situation) (v : Verdict) (k : CertKind) → 0 < edge_count w Crank → IsVerdict w (t.instant ∷ t.before) v → HasExactKind w (t.instant ∷ t.before) v k → HoldsStarts w (t.instant ∷ t.before) k
exact_starts w t (At j slot) (kind.At a) some is h = (h.0, leads_walk w (t.instant ∷ t.before) a h.0 some h.1.1)
exact_starts w t (Open x y) (kind.Open a b) some is h = ((is.0, leads_start w t a x is.0 some h.0 is.4), (is.1, leads_start w t b y is.1 some h.1 is.5))
exact_starts w t Lost kind.Lost some is h = tt
exact_starts w t (At j slot) (kind.Open a b) some is h = absurd h
exact_starts w t (At j slot) kind.Lost some is h = absurd h
exact_starts w t (Open x y) (kind.At a) some is h = absurd h
exact_starts w t (Open x y) kind.Lost some is h = absurd h
exact_starts w t Lost (kind.At a) some is h = absurd h
exact_starts w t Lost (kind.Open a b) some is h = absurd h

exact_least_ends : (w : WheelParts) (t : Situation) (v : Verdict) (k : CertKind) (window : List Instant) → 0 < edge_count w Crank
    → IsVerdict w (t.instant ∷ t.before) v → IsNextWindow w t.instant t.before v window → AreEndsOf w window t.line.cover → HasExactKind w (t.instant ∷ t.before) v k → HoldsLeastEnds w (t.instant ∷ t.before) v k t.line.cover
exact_least_ends w t (Open x y) (kind.Open a b) window some is next cover h =
    let exact = cover_of w t.instant t.before window t.line.cover next cover in (
      sym h.0,
      (
        sym h.1,
        record {
          first = is.0;
          second = is.1;
          walks = leads_start w t a x is.0 some h.0 is.4;
          others = leads_start w t b y is.1 some h.1 is.5;
          least = record { holds = (exact.exact is.0).1 is.2.holds; least = λ q c. is.2.least q ((exact.exact q).0 c) };
          next = record { holds = ((exact.exact is.1).1 is.3.holds.0, is.3.holds.1); least = λ q c. is.3.least q ((exact.exact q).0 c.0, c.1) };
        },
      ),
    )
exact_least_ends w t (Open x y) (kind.At a) window some is next cover h = tt
exact_least_ends w t (Open x y) kind.Lost window some is next cover h = tt
exact_least_ends w t (At j slot) k window some is next cover h = tt
exact_least_ends w t Lost k window some is next cover h = tt

fresh_cover : (w : WheelParts) (i : Instant) (cover : List Place) (e : Place) → 0 < edge_count w Crank → EndsAt w (i ∷ []) e → AreExactly (EndsAt w (i ∷ [])) cover → HoldsFresh w i cover
fresh_cover w i cover e some ends exact = record {
  steps = λ q b. (exact.exact q).1 (begin_ends w i q some b);
  empty = (λ none. absurd (none_in-if cover e none ((exact.exact e).1 ends)), λ none. absurd (none e (ends_begin w i e some ends)));
}

no_cover : (w : WheelParts) (i : Instant) (cover : List Place) → 0 < edge_count w Crank → IsVerdict w (i ∷ []) Lost → cover ≡ [] → HoldsFresh w i cover
no_cover w i cover some lost none = record {
  steps = λ q b. absurd (lost q (begin_ends w i q some b));
  empty = (λ e q b. lost q (begin_ends w i q some b), λ n. none);
}

exact_after_loss : (w : WheelParts) (i : Instant) (before window : List Instant) (cover : List Place) → 0 < edge_count w Crank → IsNextWindow w i before Lost window → AreEndsOf w window cover → HoldsAfterLoss w i before cover
exact_after_loss w i [] window cover some next exact = subst (λ l. AreEndsOf w l cover) next exact
exact_after_loss w i (h ∷ before) window cover some (inl g) exact = fresh_cover w i cover g.0.0 some g.0.1 (subst (λ l. AreEndsOf w l cover) g.1 exact)
exact_after_loss w i (h ∷ before) window cover some (inr n) exact = no_cover w i cover some n.0 (subst (λ l. AreEndsOf w l cover) n.1 exact)

exact_loss : (w : WheelParts) (t : Situation) (v : Verdict) (window : List Instant) → 0 < edge_count w Crank → IsNextWindow w t.instant t.before v window → AreEndsOf w window t.line.cover → HoldsLoss w t.instant t.before v t.line.cover
exact_loss w t (At j slot) window some next exact = tt
exact_loss w t (Open x y) window some next exact = tt
exact_loss w t Lost window some next exact = exact_after_loss w t.instant t.before window t.line.cover some next exact

-- an exact line keeps the rules
pub exact_keeps : (w : WheelParts) (n : ℕ) (before : List Instant) (reached : List Place) (i : Instant) (v : Verdict) (c : CertLine) (window : List Instant) → 0 < edge_count w Crank → RisesTo (i ∷ before)
    → AreEndsOf w before reached → IsVerdict w (i ∷ before) v → IsNextWindow w i before v window → IsExactLine w n (i ∷ before) v window c → KeepsRules w (situation_of n before reached i (report_of n i v) c)
exact_keeps w n before reached i v c window some rises exact is next line =
    let t : Situation = situation_of n before reached i (report_of n i v) c in
    let cover = exact_cover w window c.cover some line.cover in
    record {
      report_line = record { index = refl; time = refl; shape = refl };
      cert_line = record { index = line.index; kind = exact_kind w (i ∷ before) v c.kind line.kind };
      cover = record { ascend = cover.0; stand = cover.1 };
      steps = exact_steps w t v window some rises exact is next line.cover;
      position = exact_position w t v window some is next line.cover;
      starts = exact_starts w t v c.kind some is line.kind;
      least_ends = exact_least_ends w t v c.kind window some is next line.cover line.kind;
      loss = exact_loss w t v window some next line.cover;
    }
