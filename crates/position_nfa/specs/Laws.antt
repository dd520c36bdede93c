-- The letters of an instant are its legal steps.
use Rattle.std.specs.Prelude.{◌≡◌, ℕ, ◌<◌, ◌≤◌, ◌↔◌, IsTrue, List, [], ◌∷◌, reverse, Option, Some, None, ℤ}
use Rattle.wheel_types.specs.declared.channel.Pol.{Pol}
use Rattle.wheel_types.specs.declared.place.Place.{Place}
use Rattle.wheel_types.specs.declared.instant.Instant.{Instant}
use Rattle.wheel_types.specs.declared.parts.WheelParts.{WheelParts}
use Rattle.wheel_types.specs.Shapes.{shape_number}
use Rattle.wheel_types.specs.Motions.{KeepsSpeed, KeepsRatio, time_between}
use Rattle.wheel_types.specs.Steps.{IsLegalStep, crank_times}
use Rattle.wheel_types.specs.Verdicts.{IsRising}
use Rattle.gap_thresholds.specs.Classes.{times_of, ratios_of, time_class_of, ratio_class_of}
use Rattle.place_words.specs.Words.{Has, IsSet}
use Rattle.position_nfa.specs.Alphabets.{Alphabet, IsAlphabetOf, count, place, time_classes, ratio_classes}
use Rattle.position_nfa.specs.Sets.{next_gap, last_gap, keeps_time, keeps_ratio, time_kept, ratio_kept, shape_ends, no_places}

-- the set has the place
abbrev pub HasPlace : Alphabet → List ℕ → Place → Type 0
HasPlace a set p = (i : ℕ) × ((i < count a) × (Has set i × (place a i ≡ p)))

-- the set after the filters of the gap that ends at the time t, where the crank edges before were at these times
abbrev pub gaps_kept : Alphabet → ℤ → List ℤ → List ℕ → List ℕ
gaps_kept a t [] set = set
gaps_kept a t (u ∷ []) set = time_kept a (time_class_of (times_of a.cuts) (time_between u t)) set
gaps_kept a t (u ∷ v ∷ ts) set =
    ratio_kept a (ratio_class_of (ratios_of a.cuts) (time_between v u) (time_between u t))
    (time_kept a (time_class_of (times_of a.cuts) (time_between u t)) set)

-- the same where a crank edge is seen
abbrev pub gaps_kept_if : Option Pol → Alphabet → ℤ → List ℤ → List ℕ → List ℕ
gaps_kept_if None a t ts set = set
gaps_kept_if (Some p) a t ts set = gaps_kept a t ts set

-- the set after the letters of an instant, in a window that has the instants of the past
abbrev pub instant_set : Alphabet → List Instant → Instant → List ℕ → List ℕ
instant_set a past i set = shape_ends a (shape_number i.crank i.cam1 i.cam2) (gaps_kept_if i.crank a i.time (crank_times past) set)

-- the letters of an instant, whose time is past those of the window's, lead from a set to the legal steps of its places, and to no
-- other places
abbrev pub LettersAreSteps : Type 0
LettersAreSteps =
    (w : WheelParts) (a : Alphabet) (past : List Instant) (i : Instant) (set : List ℕ)
    → IsAlphabetOf w a → IsSet (count a) set → IsRising (reverse (i ∷ past))
    → (q : Place) → HasPlace a (instant_set a past i set) q ↔ ((p : Place) × (HasPlace a set p × IsLegalStep w past p i q))

-- a time class keeps a place exactly where each time of the class lets the place's next gap keep the limits of speed
abbrev pub TimeClassesAreLimits : Type 0
TimeClassesAreLimits =
    (w : WheelParts) (a : Alphabet) (i t : ℕ) → IsAlphabetOf w a
    → IsTrue (keeps_time a (time_class_of (times_of a.cuts) t) i) ↔ KeepsSpeed w (next_gap w (place a i)) t

-- and a ratio class where each two times of the class let the last gap and the next one keep the limit on the ratio of two speeds
abbrev pub RatioClassesAreLimits : Type 0
RatioClassesAreLimits =
    (w : WheelParts) (a : Alphabet) (i t0 t1 : ℕ) → IsAlphabetOf w a → 1 ≤ t0
    → IsTrue (keeps_ratio a (ratio_class_of (ratios_of a.cuts) t0 t1) i)
    ↔ KeepsRatio w (last_gap w (place a i)) t0 (next_gap w (place a i)) t1

-- it is a time of the class, and at it a place's next gap keeps the limits of speed exactly where the class keeps the place
pub record IsTimeOfClass (w : WheelParts) (a : Alphabet) (class t : ℕ) : Type 0 where
  pub some : 1 ≤ t
  pub of_class : time_class_of (times_of a.cuts) t ≡ class
  pub keeps : (i : ℕ) → IsTrue (keeps_time a class i) ↔ KeepsSpeed w (next_gap w (place a i)) t

-- each time class has such a time
abbrev pub TimeClassesHaveTimes : Type 0
TimeClassesHaveTimes =
    (w : WheelParts) (a : Alphabet) (class : ℕ) → IsAlphabetOf w a → class < time_classes a → (t : ℕ) × IsTimeOfClass w a class t

-- the ratio of the two times is of the class, and at them a place's last gap and next gap keep the limit on the ratio of two speeds
-- exactly where the class keeps the place
pub record AreTimesOfClass (w : WheelParts) (a : Alphabet) (class t0 t1 : ℕ) : Type 0 where
  pub some_first : 1 ≤ t0
  pub some_second : 1 ≤ t1
  pub of_class : ratio_class_of (ratios_of a.cuts) t0 t1 ≡ class
  pub keeps : (i : ℕ) → IsTrue (keeps_ratio a class i) ↔ KeepsRatio w (last_gap w (place a i)) t0 (next_gap w (place a i)) t1

-- each ratio class has two such times
abbrev pub RatioClassesHaveTimes : Type 0
RatioClassesHaveTimes =
    (w : WheelParts) (a : Alphabet) (class : ℕ) → IsAlphabetOf w a → class < ratio_classes a
    → (t0 : ℕ) × ((t1 : ℕ) × AreTimesOfClass w a class t0 t1)

-- time class 0 keeps no place, so some word of letters reaches the empty set
abbrev pub TimeClassZeroKeepsNone : Type 0
TimeClassZeroKeepsNone = (w : WheelParts) (a : Alphabet) (set : List ℕ) → IsAlphabetOf w a → time_kept a 0 set ≡ no_places a
