use Rattle.std.proofs.Common.{rules, ◌≡◌, Some, sym, ◌∙◌, ap, to_z, of_z}
use Rattle.std.proofs.lemmas.Int.{to_z-of_z}
use mir.Syntax.{w128}
use mir.Val.{SFits}
use Rattle.capture_core.specs.declared.capture.Given.{Given}
use Rattle.stimulus_files.specs.declared.merge.Merge.{Merge}
use Rattle.stimulus_files.proofs.Merging.{advanced, each_taken, fewer, next_time, told}
use Rattle.stimulus_files.proofs.merge.Merge.advance.Goals as goal

time_is : (c : goal.After-take_at-3) → next_time c.args.instants.now c.args.self.now ≡ Some (to_z w128 (of_z w128 c.in_ok-time.time))
time_is c =
    let is = c.args.instants.now in
    let t = c.in_ok-time.time in
    let f : SFits w128 t = search rules in
    sym (told _ _ _ _ _ _ _ _ (c.time-crank.ensures is) (c.time-cam1.ensures is) (c.time-cam2.ensures is) c.earlier.ensures
    c.earlier-2.ensures)
    ∙ c.in_ok-time.was ∙ ap (λ x. Some x) (sym (to_z-of_z w128 t f))

pub returns-clause-fewer : goal.returns-clause-fewer
returns-clause-fewer c =
    let is = c.args.instants.now in
    let m : Merge = c.args.self.now in
    let n : Merge = record { crank = c.take_at.new.self; cam1 = c.take_at-2.new.self; cam2 = c.take_at-3.new.self } in
    let given : Given = record { crank = c.take_at.result; cam1 = c.take_at-2.result; cam2 = c.take_at-3.result } in
    fewer is m n _ given (time_is c)
    (each_taken is m n _ given c.take_at.ensures.taken c.take_at-2.ensures.taken c.take_at-3.ensures.taken)

pub returns-clause-stands : goal.returns-clause-stands
returns-clause-stands c = λ watch s past h.
    let is = c.args.instants.now in
    let m : Merge = c.args.self.now in
    let n : Merge = record { crank = c.take_at.new.self; cam1 = c.take_at-2.new.self; cam2 = c.take_at-3.new.self } in
    let given : Given = record { crank = c.take_at.result; cam1 = c.take_at-2.result; cam2 = c.take_at-3.result } in
    advanced watch is s past m n _ given h (time_is c)
    (each_taken is m n _ given c.take_at.ensures.taken c.take_at-2.ensures.taken c.take_at-3.ensures.taken)
