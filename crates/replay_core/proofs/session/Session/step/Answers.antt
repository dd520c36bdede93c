use Rattle.std.proofs.Common.{◌≡◌, ℕ, ◌+◌, List, ◌∷◌, length, ℤ, sym, subst, ◌∙◌, ap, arith}
use Rattle.std.proofs.lemmas.Int.{ints}
use Rattle.std.specs.Prelude.{Bool, Some}
use mir.Syntax.{w128}
use mir.Val.{to_z, of_z}
use Rattle.wheel_types.specs.declared.instant.Instant.{Instant as Declared}
use Rattle.wheel_types.specs.declared.verdict.Report.{Report}
use Rattle.wheel_types.specs.declared.verdict.Verdict.{Verdict}
use Rattle.wheel_types.specs.Verdicts.{IsVerdict}
use Rattle.image_layout.specs.Fields.{wheel_parts_of}
use Rattle.image_format.specs.Walk.{Stand}
use Rattle.image_format.specs.declared.view.View.{View}
use Rattle.sync_machine.specs.Machine.{stand_of}
use Rattle.sound_walk.specs.Windows.{window_after, verdict_at}
use Rattle.replay_core.specs.Counts.{counts_of, AreEdgesIn}
use Rattle.replay_core.specs.Lines.{cut_verdict}
use Rattle.replay_core.specs.Sessions.{StandsFor}
use Rattle.replay_core.specs.Told.{IsIn, next_counts}
use Rattle.replay_core.proofs.Steps.{in_image, line_by, counts_by, stands_by, next_time, few_by}
use Rattle.replay_core.proofs.Whole.{sound_lines_are_whole}
use Rattle.replay_core.proofs.session.Session.step.Goals as goal

same_report : (k n x y : ℕ) (t u : ℤ) (v w : Verdict) → k ≡ n → t ≡ u → x ≡ y → v ≡ w
    → ◌≡◌ {A = Report} (record { index = k; time = t; shape = x; verdict = v }) (record { index = n; time = u; shape = y; verdict = w })
same_report k n x y t u v w a b c d = rw (a, b, c, d)

one_more : (n : ℕ) (i : Declared) (past : List Declared) → n ≡ length past → n + 1 ≡ length (i ∷ past)
one_more n i past e = omega (arith, e)

pub verdict-verdict-requires-clause-inside : goal.verdict-verdict-requires-clause-inside
verdict-verdict-requires-clause-inside c =
    let old = c.args.self.now.machine in
    let new = c.walked-told.new.machine in
    let shown : c.view.result.now.bytes.now ≡ new.view.bytes.now = ap (λ (v : View). v.bytes.now) c.view.ensures in
    subst (λ b. IsIn b c.walked-told.result) (sym shown)
    (in_image old.view.bytes.now new.view.bytes.now (stand_of old) (stand_of new) c.args.instant.now c.walked-told.result old.view.keeps
    c.walked-told.ensures.view c.walked-told.ensures.stand new.in_table c.walked-told.ensures.verdict)

pub invariant_of-self : goal.invariant_of-self
invariant_of-self c =
    let self = c.args.self.now in
    record {
      edges = subst (λ b. AreEdgesIn (wheel_parts_of b) self.cycle) (sym c.walked-told.ensures.view) self.edges;
      some = self.some;
      few = few_by self.stepped c.started.result c.walked-told.result c.args.instant.now self.passed c.with-seen.result c.next_counts-self.result
          self.few c.with-seen.ensures c.next_counts-self.ensures;
    }

line : (c : goal.After-shape) (past : List Declared) → StandsFor c.args.self.now past
    → c.verdict-verdict.result ≡ cut_verdict (verdict_at c.args.self.now.machine.view.bytes.now past c.args.instant.now)
line c past stands =
    let old = c.args.self.now.machine in
    let new = c.walked-told.new.machine in
    let shown : c.view.result.now.bytes.now ≡ new.view.bytes.now = ap (λ (v : View). v.bytes.now) c.view.ensures in
    line_by old.view.bytes.now c.view.result.now.bytes.now past c.args.instant.now (stand_of old) c.walked-told.result c.args.self.now.passed
    c.with-seen.result c.verdict-verdict.result (shown ∙ c.walked-told.ensures.view) stands.machine c.walked-told.ensures.verdict
    stands.passed c.with-seen.ensures c.verdict-verdict.ensures

pub returns-clause-line : goal.returns-clause-line
returns-clause-line c = λ past stands.
    let time : to_z w128 (of_z w128 c.args.instant.now.time) ≡ c.args.instant.now.time = omega (arith, ints) in
    same_report _ _ _ _ _ _ _ _ (one_more c.args.self.now.stepped c.args.instant.now past stands.number) time c.shape.ensures
    (line c past stands)

pub returns-clause-stands : goal.returns-clause-stands
returns-clause-stands c = λ past stands.
    let old = c.args.self.now.machine in
    let new = c.walked-told.new.machine in
    let i = c.args.instant.now in
    let a = old.view.bytes.now in
    let after = c.next_counts-self.ensures
    ∙ ap (λ (v : Bool). next_counts v c.walked-told.result i c.with-seen.result) c.started.ensures in
    let passed = counts_by a new.view.bytes.now past i (stand_of old) (stand_of new) c.walked-told.result c.args.self.now.passed
    c.with-seen.result c.next_counts-self.result old.view.keeps c.walked-told.ensures.view stands.machine c.walked-told.ensures.stand
    new.in_table c.walked-told.ensures.verdict stands.passed c.with-seen.ensures after in
    record {
      machine = stands_by a new.view.bytes.now past i (stand_of old) (stand_of new) c.walked-told.ensures.view stands.machine
          c.walked-told.ensures.stand;
      passed = passed ∙ ap (λ b. counts_of (window_after b (i ∷ past))) (sym c.walked-told.ensures.view);
      number = one_more c.args.self.now.stepped i past stands.number;
      said = ap Some (line c past stands ∙ ap (λ b. cut_verdict (verdict_at b past i)) (sym c.walked-told.ensures.view));
    }

pub returns-clause-sound : goal.returns-clause-sound
returns-clause-sound c = λ past stands known rising.
    let b = c.args.self.now.machine.view.bytes.now in
    subst (IsVerdict (wheel_parts_of b) (c.args.instant.now ∷ window_after b past)) (sym (line c past stands))
    (sound_lines_are_whole b past c.args.instant.now known rising).verdict

pub returns-clause-last : goal.returns-clause-last
returns-clause-last c =
    let old = c.args.self.now.machine in
    ap (λ (t : Stand). t.time) c.walked-told.ensures.stand ∙ next_time old.view.bytes.now (stand_of old) c.args.instant.now
