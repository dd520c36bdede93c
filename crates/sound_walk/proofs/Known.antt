-- Where an image is known to be sound, and not over which alphabet, its walk's answers and report are right as they stand: the instants
-- have verdicts of their own, and the walk's are the same.
use Rattle.std.proofs.Common.{◌≡◌, ◌≢◌, ◌<◌, ℕ, List, ◌∷◌, reverse, subst, arith}
use Rattle.std.proofs.Math.Logic.{∥∥₁_elim}
use Rattle.std.specs.Coded.{coded_list}
use base.Stored.{Coded-set}
use Rattle.wheel_types.specs.contracts.instant.Instant as instant_row
use Rattle.wheel_types.specs.contracts.place.Place as place_row
use Rattle.wheel_types.specs.contracts.verdict.Verdict as verdict_row
use Rattle.wheel_types.specs.declared.channel.Channel.TheVariants.{Crank}
use Rattle.wheel_types.specs.declared.place.Place.{Place}
use Rattle.wheel_types.specs.declared.instant.Instant.{Instant}
use Rattle.wheel_types.specs.declared.parts.WheelParts.{WheelParts}
use Rattle.wheel_types.specs.declared.verdict.Verdict.{Verdict}
use Rattle.wheel_types.specs.Edges.{edge_count}
use Rattle.wheel_types.specs.Verdicts.{EndsAt, IsLeast, IsVerdict, AreVerdicts}
use Rattle.wheel_types.specs.Wheels.{IsWheel}
use Rattle.wheel_types.proofs.Determined.{least_once, verdicts_determined}
use Rattle.wheel_types.proofs.RisingTimes.{RisesTo, rises_to-reverse}
use Rattle.plain_motion.proofs.Existing.{Verdicts, verdicts_exist}
use Rattle.image_layout.specs.declared.kind.Kind.{Kind}
use Rattle.image_layout.specs.declared.kind.Kind.TheVariants.{Dead, At, Open}
use Rattle.image_layout.specs.Fields.{place_at, wheel_parts_of}
use Rattle.image_format.specs.Walk.{answer, stand_after}
use Rattle.image_format.proofs.Wheels.{is_wheel}
use Rattle.table_images.specs.Images.{IsSoundImage}
use Rattle.sound_walk.specs.Holding.{SaysEnds}
use Rattle.sound_walk.specs.Laws.{KnownKindsSayEnds, KnownReportIsRight}
use Rattle.sound_walk.specs.Windows.{window_after, reported, verdicts_of}
use Rattle.sound_walk.proofs.Tables.{sound_over}
use Rattle.sound_walk.proofs.Walks.{rises, kind_by, verdicts_by}

place_set : IsSet Place
place_set = Coded-set place_row.the_row.coded

verdicts_set : IsSet (List Verdict)
verdicts_set = Coded-set (coded_list verdict_row.the_row.coded)

instants_set : IsSet (List Instant)
instants_set = Coded-set (coded_list instant_row.the_row.coded)

module _ (b : List ℕ) (wheel : IsWheel (wheel_parts_of b)) (known : ∥ IsSoundImage b ∥₁) where
  some_crank : 0 < edge_count (wheel_parts_of b) Crank
  some_crank = let edge = wheel.crank_edge in omega (arith, edge)

  pub known_verdicts : (past : List Instant) → RisesTo past
      → AreVerdicts (wheel_parts_of b) past (verdicts_of b past) (window_after b past)
  known_verdicts past rise =
      subst (λ vs. AreVerdicts w past vs (window_after b past)) verdicts (subst (AreVerdicts w past own.verdicts) window own.are)
    where
      w : WheelParts
      w = wheel_parts_of b

      own : Verdicts w past
      own = verdicts_exist w wheel past rise

      same : IsSoundImage b → (own.verdicts ≡ verdicts_of b past) × (own.window ≡ window_after b past)
      same sound =
          let over = sound_over b sound in
          verdicts_determined w past own.verdicts (verdicts_of b past) own.window (window_after b past) some_crank own.are
          (verdicts_by b over.0 over.1 past rise)

      verdicts : own.verdicts ≡ verdicts_of b past
      verdicts = ∥∥₁_elim known (verdicts_set own.verdicts (verdicts_of b past)) (λ sound. (same sound).0)

      window : own.window ≡ window_after b past
      window = ∥∥₁_elim known (instants_set own.window (window_after b past)) (λ sound. (same sound).1)

  -- the places of an answer are those of the verdict
  says_known : (since : List Instant) (k : Kind) → IsVerdict (wheel_parts_of b) since (reported b since k)
      → ((P : Type 0) → IsProp P → (SaysEnds b since k → P) → P) → SaysEnds b since k
  says_known since Dead v told = λ given. v given.0 given.1
  says_known since (At j) v told = (v.0, v.1)
  says_known since (Open e f) v told =
      let w = wheel_parts_of b in
      let x : Place = place_at b e in
      let y : Place = place_at b f in
      let first : v.0 ≡ x = told (v.0 ≡ x) (place_set v.0 x) (λ says. least_once (EndsAt w since) v.0 x v.2 says.0) in
      let elsewhere : IsLeast (λ p. EndsAt w since p × (p.j ≢ x.j)) v.1 =
      subst (λ (q : Place). IsLeast (λ p. EndsAt w since p × (p.j ≢ q.j)) v.1) first v.3 in
      let second : v.1 ≡ y =
      told (v.1 ≡ y) (place_set v.1 y)
      (λ says. least_once (λ p. EndsAt w since p × (p.j ≢ x.j)) v.1 y elsewhere says.1) in (
        subst (IsLeast (EndsAt w since)) first v.2,
        subst (IsLeast (λ p. EndsAt w since p × (p.j ≢ x.j))) second elsewhere,
      )

  pub known_kind : (past : List Instant) (i : Instant) → RisesTo (i ∷ past)
      → SaysEnds b (i ∷ window_after b past) (answer b (stand_after b past) i)
  known_kind past i rise =
      let w = wheel_parts_of b in
      let all = known_verdicts (i ∷ past) rise in
      let vs : List Verdict = verdicts_of b past in
      let window : List Instant = window_after b past in
      let kind : Kind = answer b (stand_after b past) i in
      let same = verdicts_determined w past vs vs all.0 window some_crank all.1 (known_verdicts past rise.1) in
      says_known (i ∷ window) kind
      (subst (λ before. IsVerdict w (i ∷ before) (reported b (i ∷ window) kind)) same.1 all.2)
      (λ P prop told. ∥∥₁_elim known prop (λ sound. let over = sound_over b sound in told (kind_by b over.0 over.1 past i rise)))

pub known_kinds_say_ends : KnownKindsSayEnds
known_kinds_say_ends b past i known rising = known_kind b (is_wheel b known.0) known.1 past i (rises i past rising)

pub known_report_is_right : KnownReportIsRight
known_report_is_right b is known rising = known_verdicts b (is_wheel b known.0) known.1 (reverse is) (rises_to-reverse is rising)
