use Rattle.std.proofs.Common.{◌≡◌, ℕ, ◌*◌, ◌<◌, ◌↔◌, ℤ, pos, ◌+ℤ◌, ◌-ℤ◌, ◌≤ℤ◌, ◌<ℤ◌, w32, w64, to_z, of_z, sym, ◌∙◌, subst, arith}
use Rattle.std.proofs.lemmas.Int.{ints}
use Rattle.wheel_types.specs.Edges.{edge_count, slot_count, angle_of, early_of, late_of}
use Rattle.cam_ranges.proofs.StandingSpans.{StandsBetween, absent_candidates, present_candidates}
use Rattle.cam_ranges.proofs.standing.candidates.Goals as goal

pub returns-then-cam_count-eq0-clause-exact : goal.returns-then-cam_count-eq0-clause-exact
returns-then-cam_count-eq0-clause-exact c = λ n.
    let none : edge_count c.args.wheel.now.parts c.args.cam ≡ 0 = sym (c.cam_count.ensures.of_wheel c.args.wheel.now.parts c.requires.table) ∙ c.if-cam_count-eq0.true in
    absent_candidates c.args.wheel.now.parts c.args.cam c.args.span.low c.args.span.high n none c.args.span.some

-- a channel that has not no edges has some
some_by : (k n : ℕ) → (k ≡ 0 → ⊥) → k ≡ n → 0 < n
some_by k n h e = grind arith

pub returns-clause-exact : goal.returns-clause-exact
returns-clause-exact c =
    let w = c.args.wheel.now.parts in
    let cam = c.args.cam in
    let low = c.args.span.low in
    let high = c.args.span.high in
    let late = late_of w cam * slot_count w in
    let early = early_of w cam * slot_count w in
    let some : 0 < edge_count w cam = some_by c.cam_count.result (edge_count w cam) c.if-cam_count-eq0.false (c.cam_count.ensures.of_wheel w c.requires.table) in
    let first : to_z w32 (of_z w32 c.first_from-first.result) ≡ c.first_from-first.result = omega (arith, ints) in
    let end : to_z w32 (of_z w32 (to_z w32 (of_z w32 c.first_from-past.result) +ℤ pos 1)) ≡ c.first_from-past.result +ℤ pos 1 = omega (arith, ints) in
    let from : to_z w64 (of_z w64 (to_z w64 (of_z w64 low) -ℤ to_z w64 (of_z w64 c.late.result))) ≡ low -ℤ pos late = omega (arith, ints) in
    let until : to_z w64 (of_z w64 (to_z w64 (of_z w64 (to_z w64 (of_z w64 high) +ℤ to_z w64 (of_z w64 c.early.result))) +ℤ pos 1)) ≡ (high +ℤ pos early) +ℤ pos 1 = omega (arith, ints) in
    let firsts = subst (λ a. (n : ℤ) → a ≤ℤ angle_of w cam n ↔ c.first_from-first.result ≤ℤ n) from c.first_from-first.ensures.edge in
    let lasts = subst (λ a. (n : ℤ) → a ≤ℤ angle_of w cam n ↔ c.first_from-past.result ≤ℤ n) until c.first_from-past.ensures.edge in
    subst (λ a. (n : ℤ) → ((a ≤ℤ n) × (n <ℤ to_z w32 (of_z w32 (to_z w32 (of_z w32 c.first_from-past.result) +ℤ pos 1)))) ↔ StandsBetween w cam n low high) (sym first)
    (subst (λ b. (n : ℤ) → ((c.first_from-first.result ≤ℤ n) × (n <ℤ b)) ↔ StandsBetween w cam n low high) (sym end)
    (present_candidates w cam low high c.first_from-first.result c.first_from-past.result some c.args.span.some firsts lasts))
