-- A place taken back by the edges of a window's instants is taken back by the instants.
use Rattle.std.proofs.Common.{◌≡◌, ℕ, List, [], ◌∷◌, ℤ, pos, ◌-ℤ◌, refl, sym, ◌∙◌, ap, arith}
use Rattle.std.proofs.lemmas.Int.{ints}
use Rattle.std.specs.Prelude.{Option, Some, None}
use Rattle.wheel_types.specs.declared.channel.Pol.{Pol}
use Rattle.wheel_types.specs.declared.instant.Instant.{Instant}
use Rattle.wheel_types.specs.declared.parts.WheelParts.{WheelParts}
use Rattle.wheel_types.specs.declared.place.Place.{Place}
use Rattle.wheel_types.specs.declared.verdict.Verdict.{Verdict}
use Rattle.wheel_types.specs.declared.verdict.Verdict.TheVariants as verdict
use Rattle.wheel_types.specs.Motions.{Indices}
use Rattle.wheel_types.specs.Starts.{edge_if, taken_back, start_of}
use Rattle.wheel_types.specs.Steps.{indices_of}
use Rattle.wheel_types.specs.Verdicts.{place_of}
use Rattle.image_layout.specs.declared.kind.Kind.{Kind}
use Rattle.image_layout.specs.declared.kind.Kind.TheVariants.{Dead, At, Open}
use Rattle.image_layout.specs.Fields.{place_at, wheel_parts_of}
use Rattle.sync_machine.specs.Machine.{verdict_of}
use Rattle.sound_walk.specs.Windows.{reported}
use Rattle.replay_core.specs.Counts.{more_if, counts_of, before_edges, cut_place, place_back}
use Rattle.replay_core.specs.Lines.{cut_verdict}
use Rattle.replay_core.specs.Told.{told_verdict}

same_indices : (a b c d e f : ℤ) → a ≡ d → b ≡ e → c ≡ f
    → ◌≡◌ {A = Indices} (record { crank = a; cam1 = b; cam2 = c }) (record { crank = d; cam1 = e; cam2 = f })
same_indices a b c d e f p q r = rw (p, q, r)

none_back : (z : ℤ) → z ≡ z -ℤ pos 0
none_back z = omega (arith, ints)

one_back : (o : Option Pol) (z : ℤ) (n : ℕ) → edge_if o z -ℤ pos n ≡ z -ℤ pos (more_if o n)
one_back None z n = refl
one_back (Some p) z n = omega (arith, ints)

counted_back : (since : List Instant) (ix : Indices) → taken_back since ix ≡ before_edges (counts_of since) ix
counted_back [] ix = same_indices _ _ _ _ _ _ (none_back ix.crank) (none_back ix.cam1) (none_back ix.cam2)
counted_back (i ∷ since) ix =
    let c = counts_of since in
    counted_back since (record { crank = edge_if i.crank ix.crank; cam1 = edge_if i.cam1 ix.cam1; cam2 = edge_if i.cam2 ix.cam2 })
    ∙ same_indices _ _ _ _ _ _ (one_back i.crank ix.crank c.crank) (one_back i.cam1 ix.cam1 c.cam1) (one_back i.cam2 ix.cam2 c.cam2)

pub start_back : (w : WheelParts) (since : List Instant) (p : Place) → place_back w (counts_of since) p ≡ cut_place (start_of w since p)
start_back w since p = ap (λ ix. cut_place (place_of w ix)) (sym (counted_back since (indices_of p)))

pub same_open : (a b c d : Place) → a ≡ c → b ≡ d → ◌≡◌ {A = Verdict} (verdict.Open a b) (verdict.Open c d)
same_open a b c d p q = rw (p, q) refl

-- a line's verdict is that of the walk's report, cut down
pub told_of_kind : (b : List ℕ) (since : List Instant) (k : Kind)
    → told_verdict b (counts_of since) (verdict_of k) ≡ cut_verdict (reported b since k)
told_of_kind b since Dead = refl
told_of_kind b since (At j) = refl
told_of_kind b since (Open e f) =
    let w = wheel_parts_of b in
    same_open _ _ _ _ (start_back w since (place_at b e)) (start_back w since (place_at b f))
