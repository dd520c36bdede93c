-- Instants: the same one, however it is shown that it has an edge, and that of a stamp.
use Rattle.std.proofs.Common.{◌≡◌, refl, ap, true, ◌||◌, Option, Some, None, ℤ, List, arith}
use Rattle.std.specs.Prelude.{IsTrue, is_some}
use Rattle.std.proofs.lemmas.Int.{to_z-of_z}
use mathlib.Core.Bool.{Bool-set}
use mir.Syntax.{w128}
use mir.Val.{SFits, of_z, to_z}
use Rattle.wheel_types.specs.declared.channel.Pol.{Pol}
use Rattle.wheel_types.specs.declared.instant.Instant.{Instant}
use Rattle.capture_core.specs.declared.capture.Stamp.{Stamp}
use Rattle.capture_core.specs.declared.levels.Levels.{Levels}
use Rattle.capture_core.specs.LevelsOf.{StandsOpen}
use Rattle.capture_core.specs.Stamps.{edge_of, instant_at, instant_if, known_after}

-- a time of the code is the number that it stands for
pub same_time : (t : ℤ) → SFits w128 t → to_z w128 (of_z w128 t) ≡ t
same_time t fits = grind (arith, to_z-of_z, fits)

pub instant_if-some : (t : ℤ) (a b c : Option Pol) (h : IsTrue (is_some a || (is_some b || is_some c)))
    → ◌≡◌ {A = Option Instant} (Some (record { time = t; crank = a; cam1 = b; cam2 = c; some_edge = h })) (instant_if t a b c)
instant_if-some t (Some a) b c h = ap (λ (e : true ≡ true). Some (record { time = t; crank = Some a; cam1 = b; cam2 = c; some_edge = e })) (Bool-set true true h refl)
instant_if-some t None (Some b) c h = ap (λ (e : true ≡ true). Some (record { time = t; crank = None; cam1 = Some b; cam2 = c; some_edge = e })) (Bool-set true true h refl)
instant_if-some t None None (Some c) h = ap (λ (e : true ≡ true). Some (record { time = t; crank = None; cam1 = None; cam2 = Some c; some_edge = e })) (Bool-set true true h refl)
instant_if-some t None None None h = cc h

-- the instant of the edges between the levels known before a stamp and those given there
pub instant_at-is : (l : Levels) (s : Stamp) (closed : List Stamp) → StandsOpen l s closed
    → (time : ℤ) (crank cam1 cam2 : Option Pol) (result : Option Instant)
    → l.last ≡ Some time → crank ≡ edge_of (Some l.watch.crank) l.known.crank l.given.crank → cam1 ≡ edge_of l.watch.cam1 l.known.cam1 l.given.cam1
    → cam2 ≡ edge_of l.watch.cam2 l.known.cam2 l.given.cam2 → result ≡ instant_if time crank cam1 cam2 → result ≡ instant_at l.watch (known_after closed) s
instant_at-is l s closed h time crank cam1 cam2 result is_time is_crank is_cam1 is_cam2 is_result =
    let same : time ≡ s.time = cc (h.last, is_time) in
    rw (is_result, is_crank, is_cam1, is_cam2, same, h.known, h.given) refl
