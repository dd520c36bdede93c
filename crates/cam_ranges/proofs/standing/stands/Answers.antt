use Rattle.std.proofs.Common.{◌≡◌, ◌↔◌, Bool, false, IsTrue, ℤ, w32, to_z, of_z, refl, ◌∙◌, sym, subst, arith}
use Rattle.std.proofs.lemmas.Int.{ints}
use Rattle.std.specs.Prelude.{Option, Some, None, is_some, MatchOption}
use Rattle.wheel_types.specs.declared.channel.Channel.TheVariants.{Cam1, Cam2}
use Rattle.wheel_types.specs.Motions.{Stands}
use Rattle.wheel_types.specs.Steps.{indices_of}
use Rattle.wheel_types.specs.declared.parts.WheelParts.{WheelParts}
use Rattle.wheel_types.specs.declared.channel.Channel.{Channel}
use Rattle.cam_ranges.specs.declared.span.Span.{Span}
use Rattle.cam_ranges.specs.Spans.{StandsIn, IsPart}
use lib.Signed.{≤ℤ_refl}
use Rattle.cam_ranges.proofs.PlacesInGaps.{stands_by_part, first_stands}
use Rattle.cam_ranges.proofs.standing.stands.Goals as goal

-- a part has an angle
part_stands : (w : WheelParts) (c : Channel) (n : ℤ) (span part : Span) → IsPart w c n span part → StandsIn w c n span
part_stands w c n span part is = (part.low, (is part.low).0 (≤ℤ_refl part.low, part.some))

-- there is a part where the cam stands somewhere in the span
found : (w : WheelParts) (c : Channel) (n : ℤ) (span : Span) (o : Option Span) → MatchOption o (StandsIn w c n span → ⊥) (λ part. IsPart w c n span part) → IsTrue (is_some o) ↔ StandsIn w c n span
found w c n span None m = (λ h. absurd (cc), λ s. absurd (m s))
found w c n span (Some part) m = (λ h. part_stands w c n span part m, λ s. refl)

-- a test of the same as another
tested : (b d : Bool) (P Q : Type 0) → b ≡ d → IsTrue d ↔ P → P ↔ Q → IsTrue b ↔ Q
tested b d P Q e h k = (λ t. k.0 (h.0 (sym e ∙ t)), λ q. e ∙ h.1 (k.1 q))

pub returns-in-Some : goal.returns-in-Some
returns-in-Some c =
    let w = c.args.wheel.now.parts in
    let p = c.args.place in
    let first : to_z w32 (of_z w32 p.n1) ≡ p.n1 = omega (arith, ints, c.requires.first) in
    let second : to_z w32 (of_z w32 p.n2) ≡ p.n2 = omega (arith, ints, c.requires.second) in
    let part = subst (λ n. IsPart w Cam1 n c.gap-gap.result c.in-Some.part) first c.in-Some.ensures in
    let cam2 = subst (λ n. IsTrue (is_some c.standing_part-in-Some.result) ↔ StandsIn w Cam2 n c.in-Some.part) second (found w Cam2 _ c.in-Some.part c.standing_part-in-Some.result c.standing_part-in-Some.ensures) in
    tested c.is_some.result (is_some c.standing_part-in-Some.result) (StandsIn w Cam2 p.n2 c.in-Some.part) ((x : ℤ) × Stands w x (indices_of p)) c.is_some.ensures cam2 (stands_by_part w p c.gap-gap.result c.in-Some.part c.gap-gap.ensures part)

-- false is not true
not_true : IsTrue false → ⊥
not_true h = absurd (cc)

pub returns-in-None : goal.returns-in-None
returns-in-None c =
    let w = c.args.wheel.now.parts in
    let p = c.args.place in
    let first : to_z w32 (of_z w32 p.n1) ≡ p.n1 = omega (arith, ints, c.requires.first) in (
      λ h. absurd (not_true h),
      λ s. absurd (c.in-None.ensures (subst (λ n. StandsIn w Cam1 n c.gap-gap.result) (sym first) (first_stands w p c.gap-gap.result c.gap-gap.ensures s))),
    )
