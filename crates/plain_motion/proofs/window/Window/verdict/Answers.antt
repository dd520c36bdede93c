use Rattle.std.proofs.Common.{List, subst}
use Rattle.std.specs.Prelude.{Some, None}
use Rattle.plain_motion.specs.declared.window.Walk.{Walk}
use Rattle.plain_motion.specs.Ends.{IsLeastBut}
use Rattle.plain_motion.proofs.Judged.{judged_lost, judged_at, judged_open}
use Rattle.plain_motion.proofs.window.Window.verdict.Goals as goal

pub returns-in_default : goal.returns-in_default
returns-in_default c = λ past k. judged_lost c.args.motions.now.wheel.parts c.args.self.now past (subst (λ (vs : List Walk). IsLeastBut vs None None) c.as_slice-walks.ensures c.in_default.ensures) k

pub returns-in-None : goal.returns-in-None
returns-in-None c = λ past k.
    let me = c.args.motions.now in
    let v = c.in-Some.first in
    let first = subst (λ (vs : List Walk). IsLeastBut vs None (Some v)) c.as_slice-walks.ensures c.in-Some.ensures in
    let none = subst (λ (vs : List Walk). IsLeastBut vs (Some v.end.j) None) c.as_slice-walks.ensures c.in-None.ensures in
    judged_at me.wheel.parts c.args.self.now past v c.crank_slot.result first none (c.crank_slot.ensures.of_wheel me.wheel.parts me.table) k

pub returns-in-Some-least : goal.returns-in-Some-least
returns-in-Some-least c = λ past k.
    let v = c.in-Some.first in
    let u = c.in-Some-least.second in
    let first = subst (λ (vs : List Walk). IsLeastBut vs None (Some v)) c.as_slice-walks.ensures c.in-Some.ensures in
    let second = subst (λ (vs : List Walk). IsLeastBut vs (Some v.end.j) (Some u)) c.as_slice-walks.ensures c.in-Some-least.ensures in
    judged_open c.args.motions.now.wheel.parts c.args.self.now past v u first second k
