-- The members of a state's set as places, and the certificate's line of an instant. Lists of instants have the last one first.
use Rattle.std.specs.Prelude.{◌≡◌, ℕ, zero, suc, ◌+◌, ◌/◌, ◌%◌, ◌==◌, count_ones, Bool, true, false, List, [], ◌∷◌, ◌++◌, length}
use Rattle.std.specs.Prelude.{Option, Some, None, if◌then◌else◌}
use Rattle.std.specs.Int.{bit_at}
use Rattle.wheel_types.specs.declared.instant.Instant.{Instant}
use Rattle.wheel_types.specs.declared.parts.WheelParts.{WheelParts}
use Rattle.wheel_types.specs.declared.place.Place.{Place}
use Rattle.wheel_types.specs.declared.verdict.Verdict.{Verdict}
use Rattle.wheel_types.specs.declared.verdict.Verdict.TheVariants as verdict
use Rattle.image_layout.specs.Fields.{member_at, place_at, wheel_parts_of}
use Rattle.cam_ranges.specs.Gathered.{AreExactly}
use Rattle.sound_walk.specs.Holding.{HasMember}
use Rattle.sound_walk.specs.Windows.{window_after, verdict_at}
use Rattle.pair_certificate.specs.declared.line.CertKind.{CertKind}
use Rattle.pair_certificate.specs.declared.line.CertKind.TheVariants.{At, Open, Lost}
use Rattle.pair_certificate.specs.declared.line.CertLine.{CertLine}
use Rattle.certificate_checker.specs.Exact.{IsExactLine}
use Rattle.replay_core.specs.declared.counts.EdgeCounts.{EdgeCounts}
use Rattle.replay_core.specs.Counts.{place_back}

-- how many members the first words of state q's set have
unfoldable pub members_in : List ℕ → ℕ → ℕ → ℕ
members_in b q zero = 0
members_in b q (suc words) = members_in b q words + count_ones (member_at b q words)

-- place n is a member of state q's set
abbrev pub has_place : List ℕ → ℕ → ℕ → Bool
has_place b q n = bit_at (member_at b q (n / 64)) (n % 64) == 1

-- the members of state q's set whose numbers are below n, by their numbers
unfoldable pub members_below : List ℕ → ℕ → ℕ → List Place
members_below b q zero = []
members_below b q (suc n) = members_below b q n ++ (if has_place b q n then place_at b n ∷ [] else [])

-- these are, ascending, the members of state q's set where a window has an instant, and none where it has not
abbrev pub AreMembersBy : Bool → List ℕ → ℕ → List Place → Type 0
AreMembersBy true b q places = AreExactly (HasMember b q) places
AreMembersBy false b q places = places ≡ []

-- what a line names for the verdict, in a window with so many edges whose motions end at these places: the start of those that end at
-- the first place, the verdict's two places, or none
abbrev pub kind_for : WheelParts → EdgeCounts → Option Verdict → List Place → CertKind
kind_for w passed (Some (verdict.At j slot)) (least ∷ ends) = At (place_back w passed least)
kind_for w passed (Some (verdict.At j slot)) [] = Lost
kind_for w passed (Some (verdict.Open a b)) ends = Open a b
kind_for w passed (Some verdict.Lost) ends = Lost
kind_for w passed None ends = Lost

-- the line is the exact certificate's of the instant i, after those of the past, over the wheel that the image holds
abbrev pub IsExactAt : List ℕ → List Instant → Instant → CertLine → Type 0
IsExactAt b past i line =
    IsExactLine (wheel_parts_of b) (length past + 1) (i ∷ window_after b past) (verdict_at b past i) (window_after b (i ∷ past)) line
