use Rattle.std.proofs.Common.{◌≡◌, ◌≤◌, ◌++◌, ◌∷◌, [], List, length, ap, sym, ◌∙◌, subst, None, refl, rules}
use Rattle.wheel_types.specs.declared.instant.Instant.{Instant}
use Rattle.vcd_header.specs.declared.signals.Signals.{Signals}
use Rattle.vcd_reader.specs.Dumps.{Outcome, after_token, fault_of, reading_of}
use Rattle.vcd_reader.specs.Streams.{Ends}
use Rattle.vcd_reader.specs.Tokens.{begun}
use Rattle.vcd_reader.proofs.Ends.{begun-some, first_at_end, first_before, whole-last}
use Rattle.vcd_reader.proofs.Taken.{all_taken}
use Rattle.vcd_reader.proofs.stream.Stream.finish.Goals as goal

pub returns-then-is_empty-clause-memory : goal.returns-then-is_empty-clause-memory
returns-then-is_empty-clause-memory c = λ memory wanted watch handed bytes s.
    let same : c.end_here.new.self.waiting ≡ c.args.self.now.waiting = c.end_here.ensures.memory memory in
    first_before wanted watch bytes (handed ++ c.end_here.new.self.waiting)
    (all_taken wanted watch handed c.args.self.now bytes s ∙ ap (λ (x : List Instant). handed ++ x) (sym same))

pub returns-clause-ends : goal.returns-clause-ends
returns-clause-ends c = λ wanted watch handed bytes s.
    let some : 1 ≤ length c.args.self.now.run.text = search rules in
    let one : begun c.args.self.now.run ≡ c.args.self.now.run ∷ [] = begun-some c.args.self.now.run some in
    let sound : fault_of (reading_of wanted bytes) ≡ None = sym (c.fault.ensures watch handed (reading_of wanted bytes) s.tokens) ∙ c.in_default.is in
    let P : Outcome → Type 0 = λ o. Ends watch handed c.end_last.new.self.waiting c.end_last.result o in
    let named = ap (λ (n : Signals). after_token n (reading_of wanted bytes) c.args.self.now.run) s.names in
    subst P (whole-last wanted bytes c.args.self.now _ (s.sound sound) one sound named)
    (c.end_last.ensures.ends watch handed (reading_of wanted bytes) s.tokens _ refl)

pub returns-clause-memory : goal.returns-clause-memory
returns-clause-memory c = λ memory wanted watch handed bytes s.
    let some : 1 ≤ length c.args.self.now.run.text = search rules in
    let one : begun c.args.self.now.run ≡ c.args.self.now.run ∷ [] = begun-some c.args.self.now.run some in
    let sound : fault_of (reading_of wanted bytes) ≡ None = sym (c.fault.ensures watch handed (reading_of wanted bytes) s.tokens) ∙ c.in_default.is in
    let named = ap (λ (n : Signals). after_token n (reading_of wanted bytes) c.args.self.now.run) s.names in
    first_at_end wanted watch handed c.end_last.new.self.waiting bytes c.args.self.now _ (s.sound sound) one sound named
    (c.end_last.ensures.memory memory watch handed (reading_of wanted bytes) s.tokens _ refl)
