-- Over an image that is known to be sound no line is cut down.
use Rattle.std.proofs.Common.{◌≡◌, ℕ, ◌<◌, List, ◌∷◌, ℤ, pos, negsuc, refl, sym, subst, ap, arith}
use Rattle.std.specs.Prelude.{unsigned_abs}
use Rattle.std.specs.Int.{saturate_signed, w32}
use Rattle.wheel_types.specs.declared.channel.Channel.TheVariants.{Crank}
use Rattle.wheel_types.specs.declared.instant.Instant.{Instant}
use Rattle.wheel_types.specs.declared.parts.WheelParts.{WheelParts}
use Rattle.wheel_types.specs.declared.place.Place.{Place}
use Rattle.wheel_types.specs.declared.verdict.Verdict.{Verdict}
use Rattle.wheel_types.specs.declared.verdict.Verdict.TheVariants.{At, Open, Lost}
use Rattle.wheel_types.specs.Edges.{edge_count}
use Rattle.wheel_types.specs.Verdicts.{Leads, IsVerdict}
use Rattle.wheel_types.proofs.Determined.{verdicts_determined}
use Rattle.wheel_types.proofs.StartsAndEnds.{start_determined}
use Rattle.image_layout.specs.Fields.{wheel_parts_of, crank_total}
use Rattle.image_layout.specs.Rules.{IsImage}
use Rattle.image_layout.specs.Tables.{IsPlace}
use Rattle.image_format.proofs.Wheels.{is_wheel}
use Rattle.sound_walk.specs.Windows.{window_after, verdict_at, verdicts_of}
use Rattle.sound_walk.proofs.Known.{known_verdicts}
use Rattle.sound_walk.proofs.Walks.{rises, starts_are_small}
use Rattle.replay_core.specs.Counts.{cut_place}
use Rattle.replay_core.specs.Lines.{cut_verdict}
use Rattle.replay_core.specs.Laws.{SoundLinesAreWhole}
use Rattle.replay_core.proofs.Backs.{same_open}

same_number : (z : ℤ) → unsigned_abs z < 1048576 → saturate_signed w32 z ≡ z
same_number (pos n) lt = ap pos (omega (arith, lt))
same_number (negsuc n) lt = ap negsuc (omega (arith, lt))

same_place : (a d : ℕ) (b c e f : ℤ) → a ≡ d → b ≡ e → c ≡ f
    → ◌≡◌ {A = Place} (record { j = a; n1 = b; n2 = c }) (record { j = d; n1 = e; n2 = f })
same_place a d b c e f p q r = rw (p, q, r)

module _ (b : List ℕ) (image : IsImage b) where
  w : WheelParts
  w = wheel_parts_of b

  pub some_crank : 0 < edge_count (wheel_parts_of b) Crank
  some_crank = let edge = (is_wheel b image).crank_edge in omega (arith, edge)

  -- a place from which motions lead is in range
  pub same_start : (since : List Instant) (a e : Place) → Leads (wheel_parts_of b) since a e → cut_place a ≡ a
  same_start since a e leads =
      let start = start_determined (wheel_parts_of b) since a e some_crank leads in
      let small : IsPlace (crank_total b) a =
      subst (IsPlace (crank_total b)) (sym start) (starts_are_small b since e image (a, leads)) in
      same_place _ _ _ _ _ _ refl (same_number a.n1 small.1) (same_number a.n2 small.2)

  pub same_verdict : (since : List Instant) (v : Verdict) → IsVerdict (wheel_parts_of b) since v → cut_verdict v ≡ v
  same_verdict since Lost is = refl
  same_verdict since (At j slot) is = refl
  same_verdict since (Open x y) is = same_open _ _ _ _ (same_start since x is.0 is.4) (same_start since y is.1 is.5)

pub sound_lines_are_whole : SoundLinesAreWhole
sound_lines_are_whole b past i known rising =
    let w = wheel_parts_of b in
    let rise = rises i past rising in
    let wheel = is_wheel b known.0 in
    let all = known_verdicts b wheel known.1 (i ∷ past) rise in
    let vs : List Verdict = verdicts_of b past in
    let v : Verdict = verdict_at b past i in
    let before = known_verdicts b wheel known.1 past rise.1 in
    let same = verdicts_determined w past vs vs all.0 (window_after b past) (some_crank b known.0) all.1 before in
    let is : IsVerdict w (i ∷ window_after b past) v = subst (λ since. IsVerdict w (i ∷ since) v) same.1 all.2 in
    let whole = same_verdict b known.0 (i ∷ window_after b past) v is in
    record { whole = whole; verdict = subst (IsVerdict w (i ∷ window_after b past)) (sym whole) is }
