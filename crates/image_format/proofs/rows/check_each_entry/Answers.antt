use Rattle.std.proofs.Common.{◌≡◌, ℕ, ◌+◌, ◌-◌, ◌*◌, ◌<◌, ◌≤◌, None, Option, refl, ap, ◌∙◌, arith, inl, inr}
use Rattle.std.proofs.Math.Nat.{mul-le-mul_right}
use Rattle.std.proofs.lemmas.Bool.{cases_lt}
use Rattle.std.proofs.lemmas.Result.{err_from_is_err_and}
use Rattle.image_layout.specs.declared.fault.ImageFault.{ImageFault}
use Rattle.image_layout.specs.Layout.{state_total, row_width}
use Rattle.image_layout.specs.StateRules.{entry_fault}
use Rattle.image_layout.proofs.Firsts.{first_from_none, first_from_some}
use Rattle.image_layout.proofs.RowNumbers.{row_below}
use Rattle.image_format.proofs.rows.check_each_entry.Goals as goal

-- none before a place, and none among those from there on
before_more : (F : ℕ → Option ImageFault) (at n : ℕ) → ((k : ℕ) → k < at → F k ≡ None) → ((k : ℕ) → k < n → F (at + k) ≡ None) → (k : ℕ) → k < at + n → F k ≡ None
before_more F at n before more k lt =
    elim (cases_lt k at) [
      | inl early ↦ before k early
      | inr late ↦ ap F (omega (arith, late)) ∙ more (k - at) (omega (arith, late, lt))
    ]

pub returns : goal.returns
returns c =
    let all : state_total c.args.bytes.now * row_width c.args.bytes.now ≤ c.loop-q.q * row_width c.args.bytes.now =
    mul-le-mul_right (row_width c.args.bytes.now) (omega (arith, c.requires.laid.sections.states, c.loop-q-test.false)) in
    first_from_none 0 _ (entry_fault c.args.bytes.now) (λ k from to. c.loop-q.invariant.before k (omega (arith, all, to)))

pub returns-in_err-checked : goal.returns-in_err-checked
returns-in_err-checked c =
    let b = c.args.bytes.now in
    let p = err_from_is_err_and c.from_residual.result c.from_residual.ensures.1 in
    let below = row_below c.loop-q.q c.loop-q.column (row_width b) (row_width b) (state_total b) refl (omega (arith, c.requires.laid.sections.states, c.loop-q-test.true)) c.loop-q.invariant.column in
    rw (p.1, p.2) (first_from_some 0 (state_total b * row_width b) (c.loop-q.q * row_width b + c.loop-q.column) (entry_fault b) c.in_err-checked.field-0.0 (omega arith) (omega (arith, below)) (λ j from to. c.loop-q.invariant.before j to) c.in_err-checked.ensures.fault)

pub loop-q-preserved-then-column-sections : goal.loop-q-preserved-then-column-sections
loop-q-preserved-then-column-sections c =
    let b = c.args.bytes.now in
    let last : c.loop-q.column + c.in_ok-checked.checked ≡ row_width b = c.if-column-sections.true ∙ c.requires.laid.sections.width in
    record {
      column = omega (arith, c.loop-q.invariant.column);
      before = λ k lt. before_more (entry_fault b) (c.loop-q.q * row_width b + c.loop-q.column) c.in_ok-checked.checked c.loop-q.invariant.before c.in_ok-checked.ensures.kept k (omega (arith, last, lt));
    }

pub loop-q-preserved : goal.loop-q-preserved
loop-q-preserved c =
    let b = c.args.bytes.now in
    let width = c.requires.laid.sections.width in
    record {
      column = omega (arith, c.in_ok-checked.ensures.within, width, c.if-column-sections.false);
      before = λ k lt. before_more (entry_fault b) (c.loop-q.q * row_width b + c.loop-q.column) c.in_ok-checked.checked c.loop-q.invariant.before c.in_ok-checked.ensures.kept k (omega (arith, lt));
    }
