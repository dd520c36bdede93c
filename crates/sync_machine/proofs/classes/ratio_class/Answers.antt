use Rattle.std.proofs.Common.{◌≡◌, ◌≤◌, ◌<◌, ◌+◌, ◌-◌, ◌*◌, ◌/◌, ℕ, List, refl, sym, ◌∙◌, arith, inl, inr}
use Rattle.std.specs.Prelude.{nat_lt, ◌==◌}
use Rattle.std.proofs.lemmas.Bool.{lt-ltb, le-ltb, eq-eqb, ne_eqb, cases_lt}
use Rattle.image_layout.specs.Layout.{ratio_total}
use Rattle.image_layout.specs.Fields.{ratio_top_at, ratio_bottom_at}
use Rattle.image_layout.specs.Rules.{IsImage}
use Rattle.image_format.specs.Walk.{ratio_class_of}
use Rattle.image_layout.proofs.Images.{ratio_cut_before, below_then, then_below}
use Rattle.sync_machine.proofs.Halving.{halves_at, count_split, count_one, count_none}
use Rattle.sync_machine.proofs.classes.ratio_class.Goals as goal

module _ (b : List ℕ) (h : IsImage b) (t0 t1 m : ℕ) (some : 1 ≤ t0) (there : m < ratio_total b) where
  -- the cuts before one that is at most the ratio are below it
  below_all : ratio_top_at b m * t0 ≤ t1 * ratio_bottom_at b m → (k : ℕ) → k < m → ratio_top_at b k * t0 < t1 * ratio_bottom_at b k
  below_all here k lt = then_below (ratio_top_at b k) (ratio_bottom_at b k) (ratio_top_at b m) (ratio_bottom_at b m) t1 t0 some (ratio_cut_before b h k m lt there) here

  -- and those past one that is at least the ratio are above it
  above_all : t1 * ratio_bottom_at b m ≤ ratio_top_at b m * t0 → (k : ℕ) → m < k → k < ratio_total b → t1 * ratio_bottom_at b k < ratio_top_at b k * t0
  above_all here k lt within = below_then t1 t0 (ratio_top_at b m) (ratio_bottom_at b m) (ratio_top_at b k) (ratio_bottom_at b k) some here (ratio_cut_before b h m k lt within)

  -- the class where the ratio is a cut
  class_at : ratio_top_at b m * t0 ≡ t1 * ratio_bottom_at b m → 2 * m + 1 ≡ ratio_class_of b t0 t1
  class_at same =
      let below = count_split (ratio_total b) m (λ k. nat_lt (ratio_top_at b k * t0) (t1 * ratio_bottom_at b k)) (omega arith)
      (λ k lt. lt-ltb _ _ (below_all (omega (arith, same)) k lt))
      (λ k from lt. le-ltb _ _ (elim (cases_lt m k) [ inl past ↦ let a = above_all (omega (arith, same)) k past lt in omega (arith, a) | inr upto ↦ let e : k ≡ m = omega arith in rw e (omega (arith, same)) ])) in
      let equal = count_one (ratio_total b) m (λ k. ratio_top_at b k * t0 == t1 * ratio_bottom_at b k) there (eq-eqb _ _ same)
      (λ k lt other. ne_eqb _ _ (λ e. elim (cases_lt m k) [ inl past ↦ let a = above_all (omega (arith, same)) k past lt in omega (arith, a, e) | inr upto ↦ let a = below_all (omega (arith, same)) k (omega (arith, other)) in omega (arith, a, e) ])) in
      rw (below, equal) refl

-- the class where it is none
class_between : (b : List ℕ) (t0 t1 m : ℕ) → m ≤ ratio_total b → ((k : ℕ) → k < m → ratio_top_at b k * t0 < t1 * ratio_bottom_at b k) → ((k : ℕ) → m ≤ k → k < ratio_total b → t1 * ratio_bottom_at b k < ratio_top_at b k * t0) → 2 * m ≡ ratio_class_of b t0 t1
class_between b t0 t1 m there low high =
    let below = count_split (ratio_total b) m (λ k. nat_lt (ratio_top_at b k * t0) (t1 * ratio_bottom_at b k)) there
    (λ k lt. lt-ltb _ _ (low k lt))
    (λ k from lt. le-ltb _ _ (let a = high k from lt in omega (arith, a))) in
    let equal = count_none (ratio_total b) (λ k. ratio_top_at b k * t0 == t1 * ratio_bottom_at b k)
    (λ k lt. ne_eqb _ _ (λ e. elim (cases_lt k m) [ inl before ↦ let a = low k before in omega (arith, a, e) | inr from ↦ let a = high k from lt in omega (arith, a, e) ])) in
    rw (below, equal) (omega arith)

pub returns-then-cut-gaps-clause-class : goal.returns-then-cut-gaps-clause-class
returns-then-cut-gaps-clause-class g c =
    let b = c.args.view.now.bytes.now in
    let middle = c.loop-low.low + (c.loop-low.high - c.loop-low.low) / 2 in
    let same : ratio_top_at b middle * c.args.t0 ≡ c.args.t1 * ratio_bottom_at b middle = cc in
    class_at b c.args.view.now.keeps c.args.t0 c.args.t1 middle c.requires.before (omega arith) same

pub returns-then-cut-gaps-clause-cost : goal.returns-then-cut-gaps-clause-cost
returns-then-cut-gaps-clause-cost g c =
    let inv = c.loop-low.invariant in
    let h = halves_at c.loop-low.steps c.args.steps.now (ratio_total c.args.view.now.bytes.now) (c.loop-low.high - c.loop-low.low) 0 inv.grown inv.halved (omega arith) (omega arith) in
    rw c.tick.ensures h.cost

pub loop-low-preserved-then-cut-gaps-2 : goal.loop-low-preserved-then-cut-gaps-2
loop-low-preserved-then-cut-gaps-2 g c =
    let b = c.args.view.now.bytes.now in
    let low = c.loop-low.low in
    let high = c.loop-low.high in
    let inv = c.loop-low.invariant in
    let middle = low + (high - low) / 2 in
    let h = halves_at c.loop-low.steps c.args.steps.now (ratio_total b) (high - low) (high - (middle + 1)) inv.grown inv.halved (omega arith) (omega arith) in
    let left : c.from.result * c.from-in-loop-low.result ≡ ratio_top_at b middle * c.args.t0 = cc in
    let right : c.from-in-loop-low-2.result * c.from-in-loop-low-3.result ≡ c.args.t1 * ratio_bottom_at b middle = cc in
    let here : ratio_top_at b middle * c.args.t0 < c.args.t1 * ratio_bottom_at b middle = rw (left, right) at c.if-cut-gaps-2.true in
    rw c.tick.ensures (record {
      order = omega arith;
      within = inv.within;
      below = λ k lt. elim (cases_lt k middle) [
        | inl before ↦ below_all b c.args.view.now.keeps c.args.t0 c.args.t1 middle c.requires.before (omega arith) (omega (arith, here)) k before
        | inr last ↦ let e : k ≡ middle = omega arith in rw e here
      ];
      above = inv.above;
      grown = omega arith;
      halved = h.halved;
      cost = h.cost;
    })

pub loop-low-preserved : goal.loop-low-preserved
loop-low-preserved g c =
    let b = c.args.view.now.bytes.now in
    let low = c.loop-low.low in
    let high = c.loop-low.high in
    let inv = c.loop-low.invariant in
    let middle = low + (high - low) / 2 in
    let h = halves_at c.loop-low.steps c.args.steps.now (ratio_total b) (high - low) (middle - low) inv.grown inv.halved (omega arith) (omega arith) in
    let left : c.from.result * c.from-in-loop-low.result ≡ ratio_top_at b middle * c.args.t0 = cc in
    let right : c.from-in-loop-low-2.result * c.from-in-loop-low-3.result ≡ c.args.t1 * ratio_bottom_at b middle = cc in
    let upto : c.args.t1 * ratio_bottom_at b middle ≤ ratio_top_at b middle * c.args.t0 = rw (left, right) at c.if-cut-gaps-2.false in
    let apart : ratio_top_at b middle * c.args.t0 ≡ c.args.t1 * ratio_bottom_at b middle → ⊥ = λ e. c.if-cut-gaps.false (left ∙ e ∙ sym right) in
    let here : c.args.t1 * ratio_bottom_at b middle < ratio_top_at b middle * c.args.t0 = omega (arith, upto, apart) in
    rw c.tick.ensures (record {
      order = omega arith;
      within = omega arith;
      below = inv.below;
      above = λ k from lt. elim (cases_lt middle k) [
        | inl past ↦ above_all b c.args.view.now.keeps c.args.t0 c.args.t1 middle c.requires.before (omega arith) upto k past lt
        | inr same ↦ let e : k ≡ middle = omega arith in rw e here
      ];
      grown = omega arith;
      halved = h.halved;
      cost = h.cost;
    })

pub returns-clause-class : goal.returns-clause-class
returns-clause-class g c =
    let inv = c.loop-low.invariant in
    class_between c.args.view.now.bytes.now c.args.t0 c.args.t1 c.loop-low.low (omega arith) inv.below (λ k from lt. inv.above k (omega arith) lt)
