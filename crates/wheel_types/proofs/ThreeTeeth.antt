-- Edges and a place of a wheel of 8 slots whose crank rises at slots 0, 2 and 4, by computing.
use Rattle.std.proofs.Common.{◌≡◌, [], ◌∷◌, pos, negsuc, refl}
use Rattle.wheel_types.specs.declared.channel.Keep.TheVariants.{Rising}
use Rattle.wheel_types.specs.declared.channel.Pol.TheVariants.{Rise}
use Rattle.wheel_types.specs.declared.channel.Channel.TheVariants.{Crank, Cam1}
use Rattle.wheel_types.specs.declared.parts.WheelParts.{WheelParts}
use Rattle.wheel_types.specs.Edges.{edge_slots, slot_of, angle_of, pol_of, edge_count}
use Rattle.wheel_types.specs.Verdicts.{place_of}

-- three teeth and a gap, on a wheel of one turn
abbrev pub three_teeth : WheelParts
three_teeth = record { degrees = 360; slots = 1 ∷ 0 ∷ 1 ∷ 0 ∷ 1 ∷ 0 ∷ 0 ∷ 0 ∷ []; crank = Rising; cam1 = Rising; cam2 = Rising; cam1_early = 0; cam1_late = 0; cam2_early = 0; cam2_late = 0; rpm_low = 60; rpm_high = 6000; rn = 3; rd = 2 }

pub rising_slots : edge_slots three_teeth Crank ≡ 0 ∷ 2 ∷ 4 ∷ []
rising_slots = refl

pub absent_cam : edge_count three_teeth Cam1 ≡ 0
absent_cam = refl

pub slot_before_first_cycle : slot_of three_teeth Crank (negsuc 0) ≡ negsuc 3
slot_before_first_cycle = refl

pub slot_two_cycles_on : slot_of three_teeth Crank (pos 7) ≡ pos 18
slot_two_cycles_on = refl

pub angle_before_first_cycle : angle_of three_teeth Crank (negsuc 6) ≡ negsuc 7199999
angle_before_first_cycle = refl

pub rises_before_first_cycle : pol_of three_teeth Crank (negsuc 1) ≡ Rise
rises_before_first_cycle = refl

pub place_carried_back : place_of three_teeth (record { crank = pos 6; cam1 = pos 0; cam2 = pos 0 }) ≡ record { j = 2; n1 = pos 0; n2 = pos 0 }
place_carried_back = refl
