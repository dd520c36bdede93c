use Rattle.std.proofs.Common.{◌≡◌, List, subst}
use Rattle.std.specs.Prelude.{Contains}
use Rattle.plain_motion.specs.declared.window.Walk.{Walk}
use Rattle.plain_motion.proofs.EndLists.{some_to}
use Rattle.plain_motion.proofs.set.PlainSet.start_of.Goals as goal

pub returns-in-None : goal.returns-in-None
returns-in-None c = λ past verdicts set.
    let me = c.args.self.now in
    let none = subst (λ (walks : List Walk). (v : Walk) → Contains walks v → v.end ≡ c.args.end → ⊥) c.as_slice.ensures c.in-None.ensures in
    absurd (some_to me.motions.wheel.parts set.kept.window me.window.walks me.ends c.args.end set.kept.kept.walks set.ends c.requires none)
