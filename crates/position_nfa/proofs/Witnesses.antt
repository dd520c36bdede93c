-- Each class has times at which it keeps what the limits do.
use Rattle.std.proofs.Common.{◌↔◌, subst, arith}
use Rattle.std.specs.Prelude.{IsTrue}
use Rattle.wheel_types.specs.declared.parts.WheelParts.{WheelParts}
use Rattle.wheel_types.specs.Wheels.{IsWheel}
use Rattle.wheel_types.specs.Motions.{KeepsSpeed, KeepsRatio}
use Rattle.gap_thresholds.proofs.EachClass.{class_time, class_ratio}
use Rattle.position_nfa.specs.Alphabets.{Alphabet, IsAlphabetOf, place}
use Rattle.position_nfa.specs.Sets.{next_gap, last_gap, keeps_time, keeps_ratio}
use Rattle.position_nfa.specs.Laws.{TimeClassesHaveTimes, RatioClassesHaveTimes}
use Rattle.position_nfa.proofs.Legal.{time_classes_are_limits, ratio_classes_are_limits}

pub wheel_is : (w : WheelParts) (a : Alphabet) → IsAlphabetOf w a → IsWheel w
wheel_is w a is = subst IsWheel is.cuts.wheel a.cuts.wheel.valid

pub time_classes_have_times : TimeClassesHaveTimes
time_classes_have_times w a class is within =
    let t = class_time w (wheel_is w a is) a.cuts class is.cuts (omega (arith, within)) in (
      t.0,
      record {
        some = t.1.0;
        of_class = t.1.1;
        keeps = λ i. subst (λ k. IsTrue (keeps_time a k i) ↔ KeepsSpeed w (next_gap w (place a i)) t.0) t.1.1 (time_classes_are_limits w a i t.0 is);
      },
    )

pub ratio_classes_have_times : RatioClassesHaveTimes
ratio_classes_have_times w a class is within =
    let t = class_ratio w (wheel_is w a is) a.cuts class is.cuts (omega (arith, within)) in (
      t.0,
      (
        t.1.0,
        record {
          some_first = t.1.1.0;
          some_second = t.1.1.1.0;
          of_class = t.1.1.1.1;
          keeps = λ i. subst (λ k. IsTrue (keeps_ratio a k i) ↔ KeepsRatio w (last_gap w (place a i)) t.0 (next_gap w (place a i)) t.1.0) t.1.1.1.1 (ratio_classes_are_limits w a i t.0 t.1.0 is t.1.1.0);
        },
      ),
    )
