use Rattle.std.proofs.Common.{◌∙◌, ap, subst}
use Rattle.vcd_reader.specs.declared.stage.Stage.{Stage}
use Rattle.vcd_reader.specs.declared.stage.Stage.TheVariants.{Past}
use Rattle.vcd_reader.specs.Reads.{ReadsAt}
use Rattle.vcd_reader.proofs.Ends.{ends_clean}
use Rattle.vcd_reader.proofs.stream.Stream.end_here.Goals as goal

pub returns-in-Ok-clause-ends : goal.returns-in-Ok-clause-ends
returns-in-Ok-clause-ends c = λ watch handed r h sound.
    let P : Stage → Type 0 = λ st. ReadsAt c.args.self.now.machine.wanted watch handed c.args.self.now.waiting st c.args.self.now.machine.header c.args.self.now.machine.words c.args.self.now.machine.changes r in
    ends_clean watch handed c.args.self.now.waiting c.push_if.new.self c.args.self.now.machine.changes r c.last_instant.result _
    (subst P (c.in-Past.is ∙ ap Past c.in-Between.is) h) (λ b k. c.last_instant.ensures c.args.self.now.waiting watch handed b k) c.in-Ok.ensures.ok
