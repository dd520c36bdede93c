-- Places and verdicts of worked captures of wheels with a cam, by computing.
use Rattle.std.proofs.Common.{◌≡◌, ℕ, List, [], ◌∷◌, ℤ, pos, negsuc, refl}
use Rattle.std.specs.Prelude.{Option, Some, None}
use Rattle.wheel_types.specs.declared.channel.Keep.TheVariants.{Rising}
use Rattle.wheel_types.specs.declared.channel.Pol.{Pol}
use Rattle.wheel_types.specs.declared.channel.Pol.TheVariants.{Rise}
use Rattle.wheel_types.specs.declared.place.Place.{Place}
use Rattle.wheel_types.specs.declared.instant.Instant.{Instant}
use Rattle.wheel_types.specs.declared.verdict.Verdict.TheVariants.{At, Open}
use Rattle.wheel_types.specs.declared.parts.WheelParts.{WheelParts}
use Rattle.wheel_types.specs.Plain.{windows_of, all_places}
use Rattle.wheel_types.proofs.CrankCaptures.{ms}

-- a wheel of two turns with a first cam whose edges may be late by so many millidegrees
abbrev pub one_cam : List ℕ → ℕ → WheelParts
one_cam slots late = record { degrees = 720; slots = slots; crank = Rising; cam1 = Rising; cam2 = Rising; cam1_early = 0; cam1_late = late; cam2_early = 0; cam2_late = 0; rpm_low = 60; rpm_high = 6000; rn = 3; rd = 2 }

-- the place after crank edge j, before edge n of the first cam
abbrev pub at : ℕ → ℤ → Place
at j n = record { j = j; n1 = n; n2 = pos 0 }

-- a rising crank edge, with this edge of the first cam, so many milliseconds on
abbrev pub seen_crank : ℕ → Option Pol → Instant
seen_crank t b = record { time = pos (ms t); crank = Some Rise; cam1 = b; cam2 = None; some_edge = refl }

-- a rising edge of the first cam alone
abbrev pub seen_cam : ℕ → Instant
seen_cam t = record { time = pos (ms t); crank = None; cam1 = Some Rise; cam2 = None; some_edge = refl }

-- a cam edge between two teeth
abbrev pub between : WheelParts
between = one_cam (1 ∷ 0 ∷ 1 ∷ 2 ∷ 1 ∷ 0 ∷ 1 ∷ 0 ∷ []) 0

pub places_between : all_places between ≡ at 0 (pos 0) ∷ at 1 (pos 0) ∷ at 1 (pos 1) ∷ at 2 (pos 1) ∷ at 3 (pos 1) ∷ []
places_between = refl

pub cam_edge_between_teeth_tells_the_turn : (windows_of between (seen_crank 60 None ∷ seen_cam 45 ∷ seen_crank 30 None ∷ seen_crank 0 None ∷ [])).0 ≡ At 2 4 ∷ At 1 2 ∷ Open (at 2 (pos 1)) (at 3 (pos 1)) ∷ Open (at 3 (pos 1)) (at 0 (pos 0)) ∷ []
cam_edge_between_teeth_tells_the_turn = refl

-- a cam edge that may come a whole quarter of a turn before its slot
abbrev pub early_cam : WheelParts
early_cam = record { degrees = 360; slots = 2 ∷ 0 ∷ 0 ∷ 1 ∷ []; crank = Rising; cam1 = Rising; cam2 = Rising; cam1_early = 90000; cam1_late = 0; cam2_early = 0; cam2_late = 0; rpm_low = 60; rpm_high = 6000; rn = 3; rd = 2 }

pub places_of_an_early_cam : all_places early_cam ≡ at 0 (pos 1) ∷ at 0 (pos 2) ∷ at 0 (pos 3) ∷ []
places_of_an_early_cam = refl

-- a cam edge with a tooth
abbrev pub together : WheelParts
together = one_cam (1 ∷ 0 ∷ 1 ∷ 0 ∷ 3 ∷ 0 ∷ 1 ∷ 0 ∷ []) 0

pub cam_edge_with_a_tooth_in_either_order : (windows_of together (seen_crank 30 (Some Rise) ∷ seen_crank 0 None ∷ [])).0 ≡ Open (at 3 (pos 1)) (at 0 (pos 0)) ∷ Open (at 3 (pos 1)) (at 0 (pos 0)) ∷ []
cam_edge_with_a_tooth_in_either_order = refl

-- a cam edge that may be as late as the tooth after it
abbrev pub late_cam : WheelParts
late_cam = one_cam (1 ∷ 0 ∷ 1 ∷ 0 ∷ 1 ∷ 0 ∷ 1 ∷ 2 ∷ []) 135000

pub late_cam_edge_leaves_open : (windows_of late_cam (seen_crank 40 None ∷ seen_crank 10 None ∷ seen_cam 5 ∷ [])).0 ≡ Open (at 3 (pos 0)) (at 0 (negsuc 0)) ∷ Open (at 3 (pos 0)) (at 0 (negsuc 0)) ∷ Open (at 0 (negsuc 0)) (at 3 (pos 0)) ∷ []
late_cam_edge_leaves_open = refl
