use Rattle.std.proofs.Common.{rules, ◌≡◌, ◌≤◌, ◌^◌, IsTrue, true, false, Some, sym, ◌∙◌, ap, subst, arith, to_z, of_z}
use Rattle.std.specs.Prelude.{ℤ, ◌<ℤ◌}
use Rattle.std.proofs.lemmas.Int.{ints, to_z-of_z}
use lib.Signed.{le_z}
use mir.Syntax.{w128}
use mir.Val.{SFits}
use Rattle.stimulus_files.proofs.SmallChanges.{first_fine, next_fine}
use Rattle.stimulus_files.proofs.small.are_small.Goals as goal
use Rattle.stimulus_files.proofs.small.are_small.Goals.{then-time-last-via-then-time-last}
use Rattle.stimulus_files.proofs.small.are_small.Goals.{then-time-last-via-else-time-last+then-unsigned_abs-gt-LAST_TIME}

never : {A : Type 0} → IsTrue false → A
never {A} h = absurd (not_true h)
  where
    not_true : IsTrue false → ⊥
    not_true h = cc

refused : (t u : ℤ) → le_z t u ≡ true → u <ℤ t → ⊥
refused t u e h = absurd (grind (arith, ints))

passed : (t u : ℤ) → le_z t u ≡ false → u <ℤ t
passed t u e = grind (arith, ints)

pub returns-then-time-last : goal.returns-then-time-last
returns-then-time-last c = (
  λ h. never h,
  λ f.
      let t = c.in-Some.time in
      let fits : SFits w128 t = search rules in
      let there = sym (c.time.ensures c.args.instants.now) ∙ c.in-Some.is ∙ ap (λ x. Some x) (sym (to_z-of_z w128 t fits)) in
      let p = first_fine (to_z w128 c.changes.last-bits) (to_z w128 (of_z w128 t)) _ there (c.changes.invariant.fine.0 f) in
      elim c.then-time-last.branch [
        | then-time-last-via-then-time-last w ↦ absurd (refused _ _ w.if-time-last.true p.0)
        | then-time-last-via-else-time-last+then-unsigned_abs-gt-LAST_TIME w ↦
            let size = p.1 in
            let more = w.if-unsigned_abs-gt-LAST_TIME.true in
            let value = w.unsigned_abs.ensures.value in
            absurd (omega (arith, size, more, value))
      ],
)

pub changes-preserved : goal.changes-preserved
changes-preserved c =
    let t = c.in-Some.time in
    let fits : SFits w128 t = search rules in
    let there = sym (c.time.ensures c.args.instants.now) ∙ c.in-Some.is ∙ ap (λ x. Some x) (sym (to_z-of_z w128 t fits)) in
    let small = subst (λ n. n ≤ 10 ^ 24) c.unsigned_abs.ensures.value c.if-unsigned_abs-gt-LAST_TIME.false in
    let next = next_fine (to_z w128 c.changes.last-bits) (to_z w128 (of_z w128 t)) _ _ _ c.take_at.ensures.taken there
    (passed _ _ c.if-time-last.false) small in
    record {
      within = c.take_at.ensures.within;
      fine = (λ f. next.0 (c.changes.invariant.fine.0 f), λ f. c.changes.invariant.fine.1 (next.1 f));
    }
