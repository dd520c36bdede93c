-- A session's line is the exact certificate's, over an image that is known to be sound.
use Rattle.std.proofs.Common.{◌≡◌, ℕ, zero, suc, ◌+◌, ◌<◌, Bool, inl, inr, List, [], ◌∷◌, length, reverse, refl, sym, subst, ap, ◌∙◌, arith}
use Rattle.std.proofs.Math.Logic.{∥∥₁_elim}
use Rattle.std.proofs.lemmas.Int.{ints}
use Rattle.std.proofs.lemmas.List.{reverse-reverse}
use Rattle.std.specs.Prelude.{Option, Some, slice_index_or}
use base.Stored.{Coded-set}
use Rattle.wheel_types.specs.declared.channel.Channel.TheVariants.{Crank}
use Rattle.wheel_types.specs.declared.instant.Instant.{Instant}
use Rattle.wheel_types.specs.declared.parts.WheelParts.{WheelParts}
use Rattle.wheel_types.specs.declared.place.Place.{Place}
use Rattle.wheel_types.specs.declared.verdict.Verdict.{Verdict}
use Rattle.wheel_types.specs.declared.verdict.Verdict.TheVariants.{At, Open, Lost}
use Rattle.wheel_types.specs.Edges.{edge_count}
use Rattle.wheel_types.specs.Starts.{start_of}
use Rattle.wheel_types.specs.Verdicts.{EndsAt, Leads, IsLeast, IsBefore, IsVerdict, IsNextWindow, AreVerdicts, IsRising}
use Rattle.wheel_types.proofs.Determined.{verdicts_determined}
use Rattle.wheel_types.proofs.RisingTimes.{RisesTo}
use Rattle.wheel_types.proofs.StartsAndEnds.{leads_from_start}
use Rattle.cam_ranges.specs.Places.{IsLess}
use Rattle.cam_ranges.specs.Gathered.{AreExactly}
use Rattle.plain_motion.specs.EndPlaces.{AreEndsOf}
use Rattle.image_layout.specs.Fields.{wheel_parts_of}
use Rattle.image_layout.specs.Rules.{IsImage}
use Rattle.image_format.specs.Walk.{Stand, stand_after}
use Rattle.image_format.proofs.Wheels.{is_wheel}
use Rattle.table_images.specs.Images.{IsSoundImage}
use Rattle.sound_walk.specs.Holding.{HoldsEnds, some_instant}
use Rattle.sound_walk.specs.Laws.{IsKnownSound}
use Rattle.sound_walk.specs.Windows.{window_after, verdict_at, verdicts_of}
use Rattle.sound_walk.proofs.Known.{known_verdicts}
use Rattle.sound_walk.proofs.Tables.{sound_over}
use Rattle.sound_walk.proofs.Walks.{rises, right_by, holds_by}
use Rattle.pair_certificate.specs.contracts.line.CertLine as line_row
use Rattle.pair_certificate.specs.declared.line.CertLine.{CertLine}
use Rattle.certificate_checker.specs.Exact.{HasExactKind, IsExactLine, AreExactLines}
use Rattle.certificate_checker.proofs.ExactExists.{exact_exists, exact_verdicts}
use Rattle.certificate_checker.proofs.ExactOnce.{exact_once}
use Rattle.replay_core.specs.declared.counts.EdgeCounts.{EdgeCounts}
use Rattle.replay_core.specs.Counts.{counts_of}
use Rattle.replay_core.specs.Covers.{AreMembersBy, kind_for, IsExactAt}
use Rattle.replay_core.specs.Lines.{line_at, last_verdict}
use Rattle.replay_core.proofs.Backs.{start_back}
use Rattle.replay_core.proofs.Whole.{some_crank, same_start, same_verdict}

line_set : IsSet CertLine
line_set = Coded-set line_row.the_row.coded

-- ---- over a sound image

less_before : (p q : Place) → IsLess p q → IsBefore p q
less_before p q (inl h) = inl h
less_before p q (inr (e, inl h)) = inr (e, inl h)
less_before p q (inr (e, inr (f, h))) = inr (e, inr (f, omega (arith, ints, h)))

before_itself : (p : Place) → IsBefore p p
before_itself p = inr (refl, inr (refl, omega (arith, ints)))

-- the first of places in order is the least of them
first_is_least : (P : Place → Type 0) (p : Place) (ps : List Place) → AreExactly P (p ∷ ps) → IsLeast P p
first_is_least P p ps h = record {
  holds = (h.exact p).0 (0, omega arith, refl);
  least = λ q x. let c = (h.exact q).1 x in at c.0 q c.1 c.2;
}
  where
    at : (k : ℕ) (q : Place) → k < length (p ∷ ps) → slice_index_or (p ∷ ps) k q ≡ q → IsBefore p q
    at zero q within is = subst (IsBefore p) is (before_itself p)
    at (suc k) q within is =
        subst (IsBefore p) is (less_before p (slice_index_or ps k q) (h.ascend 0 (suc k) q (omega arith) within))

-- the members of the walk's state are where its window's motions end
ends_by : (b : List ℕ) (q : ℕ) (next : List Instant) (v : Bool) (ps : List Place) → HoldsEnds b q next → v ≡ some_instant next
    → AreMembersBy v b q ps → AreEndsOf (wheel_parts_of b) next ps
ends_by b q next v ps holds e are = by next holds (subst (λ u. AreMembersBy u b q ps) e are)
  where
    by : (next : List Instant) → HoldsEnds b q next → AreMembersBy (some_instant next) b q ps → AreEndsOf (wheel_parts_of b) next ps
    by [] holds are = are
    by (i ∷ before) holds are = record {
      ascend = are.ascend;
      exact = λ p. (λ c. (holds.members p).0 ((are.exact p).0 c), λ h. (are.exact p).1 ((holds.members p).1 h));
    }

module _ (b : List ℕ) (image : IsImage b) where
  -- the places of an open verdict, and the start of the motions that end at the least place
  kind_by : (i : Instant) (before next : List Instant) (v : Verdict) (ps : List Place) → IsVerdict (wheel_parts_of b) (i ∷ before) v
      → IsNextWindow (wheel_parts_of b) i before v next → AreEndsOf (wheel_parts_of b) next ps
      → HasExactKind (wheel_parts_of b) (i ∷ before) v (kind_for (wheel_parts_of b) (counts_of next) (Some v) ps)
  kind_by i before next Lost ps is window ends = tt
  kind_by i before next (Open x y) ps is window ends = (refl, refl)
  kind_by i before next (At j slot) ps is window ends =
      let w = wheel_parts_of b in
      subst (λ g. HasExactKind w (i ∷ before) (At j slot) (kind_for w (counts_of g) (Some (At j slot)) ps)) (sym window)
      (by ps (subst (λ g. AreEndsOf w g ps) window ends))
    where
      by : (ps : List Place) → AreExactly (EndsAt (wheel_parts_of b) (i ∷ before)) ps
          → HasExactKind (wheel_parts_of b) (i ∷ before) (At j slot)
          (kind_for (wheel_parts_of b) (counts_of (i ∷ before)) (Some (At j slot)) ps)
      by [] are = let c = (are.exact is.0.0).1 is.0.1 in let within = c.1 in absurd (omega (arith, within))
      by (e ∷ rest) are =
          let w = wheel_parts_of b in
          let since : List Instant = i ∷ before in
          let least = first_is_least (EndsAt w since) e rest are in
          let leads = leads_from_start w since e (some_crank b image) least.holds in
          let whole = start_back w since e ∙ same_start b image since (start_of w since e) e leads in
          (e, (least, subst (λ a. Leads w since a e) (sym whole) leads))

  sound_line : (past : List Instant) (i : Instant) (s : Stand) (passed : EdgeCounts) (said : Option Verdict) (c : CertLine)
      → IsSoundImage b → RisesTo (i ∷ past) → s ≡ stand_after b (i ∷ past) → passed ≡ counts_of (window_after b (i ∷ past))
      → said ≡ last_verdict b (i ∷ past) → c.index ≡ length (i ∷ past) → c.kind ≡ kind_for (wheel_parts_of b) passed said c.cover
      → AreMembersBy s.started b s.state c.cover → IsExactAt b past i c
  sound_line past i s passed said c sound rise stand counted told index named are =
      let w = wheel_parts_of b in
      let over = sound_over b sound in
      let right = right_by b over.0 over.1 past i rise in
      let stands = holds_by b over.0 over.1 (i ∷ past) rise in
      let since : List Instant = i ∷ window_after b past in
      let next : List Instant = window_after b (i ∷ past) in
      let v : Verdict = verdict_at b past i in
      let here : Stand = stand_after b (i ∷ past) in
      let there : AreMembersBy here.started b here.state c.cover =
      subst (λ (t : Stand). AreMembersBy t.started b t.state c.cover) stand are in
      let cover = ends_by b here.state next here.started c.cover stands.holds stands.started there in
      let whole : (line_at b past i).verdict ≡ v = same_verdict b image since v right.verdict in
      let same : c.kind ≡ kind_for w (counts_of next) (Some v) c.cover =
      named ∙ ap (λ k. kind_for w k said c.cover) counted ∙ ap (λ o. kind_for w (counts_of next) o c.cover) (told ∙ ap Some whole) in
      record {
        index = index ∙ omega arith;
        kind = subst (HasExactKind w since v) (sym same) (kind_by i (window_after b past) next v c.cover right.verdict right.window cover);
        cover = cover;
      }

-- ---- over one that is known to be sound

-- exact lines of these instants, with the walk's own verdicts and windows
record Exact (b : List ℕ) (past : List Instant) (i : Instant) : Type 0 where
  line : CertLine
  lines : List CertLine
  before : AreExactLines (wheel_parts_of b) past (verdicts_of b past) lines (window_after b past)
  verdict : IsVerdict (wheel_parts_of b) (i ∷ window_after b past) (verdict_at b past i)
  next : IsNextWindow (wheel_parts_of b) i (window_after b past) (verdict_at b past i) (window_after b (i ∷ past))
  exact : IsExactAt b past i line

module _ (b : List ℕ) (known : IsKnownSound b) (past : List Instant) (i : Instant) (rising : IsRising (reverse (i ∷ past))) where
  abbrev w : WheelParts
  w = wheel_parts_of b

  some : 0 < edge_count w Crank
  some = some_crank b known.0

  all : AreVerdicts w (i ∷ past) (verdicts_of b (i ∷ past)) (window_after b (i ∷ past))
  all = known_verdicts b (is_wheel b known.0) known.1 (i ∷ past) (rises i past rising)

  old : AreVerdicts w past (verdicts_of b past) (window_after b past)
  old = known_verdicts b (is_wheel b known.0) known.1 past (rises i past rising).1

  own : Exact b past i
  own =
      let e = exact_exists w (reverse (i ∷ past)) (is_wheel b known.0) rising in
      by e.0 e.1.0 e.1.1.0 (subst (λ is. AreExactLines w is e.0 e.1.0 e.1.1.0) (reverse-reverse (i ∷ past)) e.1.1.1)
    where
      at : (before : List Instant) (cs : List CertLine) (c : CertLine) → before ≡ window_after b past
          → AreExactLines w past (verdicts_of b past) cs before → IsVerdict w (i ∷ before) (verdict_at b past i)
          → IsNextWindow w i before (verdict_at b past i) (window_after b (i ∷ past))
          → IsExactLine w (length past + 1) (i ∷ before) (verdict_at b past i) (window_after b (i ∷ past)) c → Exact b past i
      at before cs c same x v n l = record {
        line = c;
        lines = cs;
        before = subst (AreExactLines w past (verdicts_of b past) cs) same x;
        verdict = subst (λ g. IsVerdict w (i ∷ g) (verdict_at b past i)) same v;
        next = subst (λ g. IsNextWindow w i g (verdict_at b past i) (window_after b (i ∷ past))) same n;
        exact = subst (λ g. IsExactLine w (length past + 1) (i ∷ g) (verdict_at b past i) (window_after b (i ∷ past)) c) same l;
      }

      lined : (cs : List CertLine) → AreExactLines w (i ∷ past) (verdicts_of b (i ∷ past)) cs (window_after b (i ∷ past)) → Exact b past i
      lined [] x = absurd x
      lined (c ∷ cs) x =
          let vs : List Verdict = verdicts_of b past in
          let same = verdicts_determined w past vs vs x.0 (window_after b past) some (exact_verdicts w past vs cs x.0 x.1.0) old in
          at x.0 cs c same.1 x.1.0 x.1.1.0 x.1.1.1.0 x.1.1.1.1

      by : (vs : List Verdict) (cs : List CertLine) (window : List Instant) → AreExactLines w (i ∷ past) vs cs window → Exact b past i
      by vs cs window x =
          let mine : List Verdict = verdicts_of b (i ∷ past) in
          let same = verdicts_determined w (i ∷ past) vs mine window (window_after b (i ∷ past)) some
          (exact_verdicts w (i ∷ past) vs cs window x) all in
          lined cs (subst (AreExactLines w (i ∷ past) mine cs) same.1 (subst (λ us. AreExactLines w (i ∷ past) us cs window) same.0 x))

  -- the line that is exact where the image is sound is this one
  one_line : (c : CertLine) → IsExactAt b past i c → own.line ≡ c
  one_line c exact = first_of own.lines
      (exact_once w (i ∷ past) vs vs (own.line ∷ own.lines) (c ∷ own.lines) next next some
      (window_after b past, (own.before, (own.verdict, (own.next, own.exact))))
      (window_after b past, (own.before, (own.verdict, (own.next, exact)))))
    where
      vs : List Verdict
      vs = verdicts_of b (i ∷ past)

      next : List Instant
      next = window_after b (i ∷ past)

      first_of : (rest : List CertLine) → own.line ∷ rest ≡ c ∷ rest → own.line ≡ c
      first_of rest e = cc

  pub known_line : (s : Stand) (passed : EdgeCounts) (said : Option Verdict) (c : CertLine) → s ≡ stand_after b (i ∷ past)
      → passed ≡ counts_of (window_after b (i ∷ past)) → said ≡ last_verdict b (i ∷ past) → c.index ≡ length (i ∷ past)
      → c.kind ≡ kind_for (wheel_parts_of b) passed said c.cover → AreMembersBy s.started b s.state c.cover → IsExactAt b past i c
  known_line s passed said c stand counted told index named are =
      let line : own.line ≡ c = ∥∥₁_elim known.1 (line_set own.line c) (λ sound.
      one_line c (sound_line b known.0 past i s passed said c sound (rises i past rising) stand counted told index named are)) in
      subst (IsExactAt b past i) line own.exact
