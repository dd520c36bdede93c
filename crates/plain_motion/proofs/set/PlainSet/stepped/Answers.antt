use Rattle.std.proofs.Common.{List, ◌∷◌, sym, subst}
use Rattle.std.specs.Prelude.{Some}
use Rattle.wheel_types.specs.declared.instant.Instant.{Instant}
use Rattle.wheel_types.specs.declared.verdict.Verdict.{Verdict}
use Rattle.wheel_types.specs.declared.verdict.Verdict.TheVariants.{Lost}
use Rattle.wheel_types.specs.Verdicts.{IsVerdict}
use Rattle.plain_motion.specs.Ends.{Keeps}
use Rattle.plain_motion.specs.Memories.{Remembers}
use Rattle.plain_motion.proofs.Remembered.{found, lost}
use Rattle.plain_motion.proofs.set.PlainSet.stepped.Goals as goal

pub returns-in_default-clause-stands : goal.returns-in_default-clause-stands
returns-in_default-clause-stands c = λ past verdicts r.
    let me = c.args.self.now in
    found me.motions.wheel.parts me.window c.in_ok-next.next me.last past verdicts c.args.instant.now c.verdict-verdict.result c.in_default.not-Lost (record { keeps = c.in_ok-next.ensures.keeps; judged = c.verdict-verdict.ensures }) c.requires.later r.kept

pub returns-in_ok-window_from-in-Lost-clause-stands : goal.returns-in_ok-window_from-in-Lost-clause-stands
returns-in_ok-window_from-in-Lost-clause-stands c = λ past verdicts r.
    let me = c.args.self.now in
    let w = me.motions.wheel.parts in
    let judged : (is : List Instant) → Keeps w c.in_ok-next.next is → IsVerdict w is Lost = λ is k. c.in-Lost.ensures is k in
    let fresh = c.in_ok-window_from-in-Lost.field-0 in
    subst (λ (v : Verdict). Remembers w fresh (Some c.args.instant.now.time) (c.args.instant.now ∷ past) (v ∷ verdicts)) (sym c.in-Lost.is) (lost w me.window c.in_ok-next.next fresh me.last past verdicts c.args.instant.now (record { keeps = c.in_ok-next.ensures.keeps; judged = judged }) (c.in_ok-window_from-in-Lost.ensures.begins r.places) c.requires.later r.kept)
