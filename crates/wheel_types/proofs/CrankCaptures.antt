-- Verdicts and report lines of worked captures of three teeth, by computing.
use Rattle.std.proofs.Common.{◌≡◌, ℕ, ◌*◌, [], ◌∷◌, pos, refl}
use Rattle.std.specs.Prelude.{Some, None, codes, reverse}
use Rattle.std.specs.Fmt.{digits}
use Rattle.wheel_types.specs.Texts.{report_text}
use Rattle.wheel_types.specs.declared.channel.Pol.TheVariants.{Rise}
use Rattle.wheel_types.specs.declared.place.Place.{Place}
use Rattle.wheel_types.specs.declared.instant.Instant.{Instant}
use Rattle.wheel_types.specs.declared.verdict.Verdict.TheVariants.{At, Open, Lost}
use Rattle.wheel_types.specs.Plain.{windows_of}
use Rattle.wheel_types.proofs.ThreeTeeth.{three_teeth}

-- a rising crank edge at the time
abbrev pub at_time : ℕ → Instant
at_time t = record { time = pos t; crank = Some Rise; cam1 = None; cam2 = None; some_edge = refl }

-- milliseconds in femtoseconds
abbrev pub ms : ℕ → ℕ
ms n = n * 1000000000000

-- the place after crank edge j
abbrev pub edge : ℕ → Place
edge j = record { j = j; n1 = pos 0; n2 = pos 0 }

pub long_gap_tells_the_tooth : (windows_of three_teeth (at_time (ms 60) ∷ at_time (ms 30) ∷ at_time (ms 15) ∷ at_time 0 ∷ [])).0 ≡ At 0 0 ∷ At 2 4 ∷ Open (edge 1) (edge 2) ∷ Open (edge 2) (edge 0) ∷ []
long_gap_tells_the_tooth = refl

pub ratio_on_its_limit_stays_open : (windows_of three_teeth (at_time 37500000000000 ∷ at_time (ms 15) ∷ at_time 0 ∷ [])).0 ≡ Open (edge 0) (edge 2) ∷ Open (edge 1) (edge 2) ∷ Open (edge 2) (edge 0) ∷ []
ratio_on_its_limit_stays_open = refl

pub ratio_past_its_limit_tells_the_tooth : (windows_of three_teeth (at_time 37500000000001 ∷ at_time (ms 15) ∷ at_time 0 ∷ [])).0 ≡ At 0 0 ∷ Open (edge 1) (edge 2) ∷ Open (edge 2) (edge 0) ∷ []
ratio_past_its_limit_tells_the_tooth = refl

pub lost_instant_begins_the_next_window : (windows_of three_teeth (at_time (ms 60) ∷ at_time (ms 45) ∷ at_time (ms 30) ∷ at_time (ms 15) ∷ at_time 0 ∷ [])).0 ≡ Open (edge 1) (edge 2) ∷ Lost ∷ At 2 4 ∷ Open (edge 1) (edge 2) ∷ Open (edge 2) (edge 0) ∷ []
lost_instant_begins_the_next_window = refl

pub two_report_lines : report_text 1 (at_time 0 ∷ at_time (ms 15) ∷ []) (reverse (windows_of three_teeth (at_time (ms 15) ∷ at_time 0 ∷ [])).0) ≡ codes "1 0 C+ open 2:0:0 0:0:0\n2 15000000000000 C+ open 1:0:0 2:0:0\n"
unfolding digits
two_report_lines = refl
