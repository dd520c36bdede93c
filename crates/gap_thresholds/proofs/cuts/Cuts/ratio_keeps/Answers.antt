use Rattle.std.proofs.Common.{◌≡◌, ◌≤◌, ◌∙◌, ap, arith}
use Rattle.std.proofs.Math.Nat.{mul-pos}
use Rattle.wheel_types.specs.declared.parts.WheelParts.{WheelParts}
use Rattle.gap_thresholds.proofs.GapSizes.{first_sizes}
use Rattle.gap_thresholds.proofs.RatiosKept.{ratio_kept, equal_as}
use Rattle.gap_thresholds.proofs.cuts.Cuts.ratio_keeps.Goals as goal

pub lowest-requires : goal.lowest-requires
lowest-requires c =
    let some : 1 ≤ c.args.s0 = (first_sizes c.args.self.now.wheel.parts c.args.s0 c.args.s1 c.args.self.now.wheel.valid.crank_edge c.requires.gaps).0 in
    let rn : c.from-rn.result ≡ c.args.self.now.wheel.parts.rn = c.from-rn.ensures ∙ ap (λ p. p.rn) c.parts-parts.ensures in
    let ratio = c.args.self.now.wheel.valid.ratio in
    mul-pos (omega (arith, some, c.from-s0.ensures)) (omega (arith, rn, ratio.0, ratio.1))

pub returns : goal.returns
returns c are t0 t1 one other e =
    let w : WheelParts = c.args.self.now.wheel.parts in
    let ratio = c.args.self.now.wheel.valid.ratio in
    let some : 1 ≤ c.args.s0 = (first_sizes w c.args.s0 c.args.s1 c.args.self.now.wheel.valid.crank_edge c.requires.gaps).0 in
    let rn : c.from-rn.result ≡ w.rn = c.from-rn.ensures ∙ ap (λ p. p.rn) c.parts-parts.ensures in
    let rd : c.from-rd.result ≡ w.rd = c.from-rd.ensures ∙ ap (λ p. p.rd) c.parts-parts.ensures in
    let first = equal_as c.lowest.result c.from-s1.result c.from-rd.result c.from-s0.result c.from-rn.result c.args.s1 w.rd c.args.s0 w.rn c.from-s1.ensures rd c.from-s0.ensures rn c.lowest.ensures.equal in
    let last = equal_as c.lowest-2.result c.from-s1.result c.from-rn.result c.from-s0.result c.from-rd.result c.args.s1 w.rn c.args.s0 w.rd c.from-s1.ensures rn c.from-s0.ensures rd c.lowest-2.ensures.equal in
    let kept = ratio_kept c.args.self.now c.args.s0 c.args.s1 c.args.class t0 t1 c.class_of-first.result c.class_of-last.result c.lowest.result c.lowest-2.result c.args.self.now.ratios.lowest are c.requires.gaps
    (mul-pos some (omega (arith, ratio.0, ratio.1))) (mul-pos some ratio.0) c.lowest.ensures.lowest first c.lowest-2.ensures.lowest last c.class_of-first.ensures c.class_of-last.ensures one e in
    (λ r. kept.0 (c.is_from.ensures.0 r), λ k. c.is_from.ensures.1 (kept.1 k))
