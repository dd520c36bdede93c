use Rattle.std.proofs.Common.{◌≡◌, ◌*◌, ◌<◌, ◌≤◌, inl, inr, arith}
use Rattle.std.proofs.Math.Nat.{mul-pos}
use Rattle.std.proofs.lemmas.Result.{on_ok_weaker}
use Rattle.gap_thresholds.specs.Fractions.{IsEqual, IsSmall}
use Rattle.gap_thresholds.specs.Gaps.{IsCutOfGaps}
use Rattle.gap_thresholds.proofs.Listed.{two_more, all_more}
use Rattle.gap_thresholds.proofs.EdgeCuts.{only_ratios}
use Rattle.gap_thresholds.proofs.Sizes.{cut_small}
use Rattle.gap_thresholds.proofs.gaps.add_ratios.Goals as goal

pub returns-clause-ok : goal.returns-clause-ok
returns-clause-ok c =
    let w = c.args.wheel.now.parts in
    let s0 = c.args.s0 in
    let s1 = c.args.s1 in
    let a = c.lowest.result in
    let b = c.lowest-2.result in
    let ratio = c.args.wheel.now.valid.ratio in
    let low : IsEqual a (s1 * w.rd) (s0 * w.rn) = cc in
    let high : IsEqual b (s1 * w.rn) (s0 * w.rd) = cc in
    let first : IsCutOfGaps w s0 s1 a = (c.lowest.ensures.lowest, inl low) in
    let last : IsCutOfGaps w s0 s1 b = (c.lowest-2.ensures.lowest, inr high) in
    let some_low : 0 < s0 * w.rn = mul-pos (omega arith) (omega (arith, ratio.0, ratio.1)) in
    let some_high : 0 < s0 * w.rd = mul-pos (omega arith) (omega (arith, ratio.0)) in
    on_ok_weaker c.insert-2.result
    (λ second. two_more _ _ _ a b (IsCutOfGaps w s0 s1) c.in_ok-insert.ensures.ok second first last (only_ratios w s0 s1 a b some_low some_high first last low high))
    c.insert-2.ensures.ok

pub returns-clause-small : goal.returns-clause-small
returns-clause-small c =
    let w = c.args.wheel.now.parts in
    let wheel = c.args.wheel.now.valid in
    let same_rn : c.from-rn.result ≡ w.rn = cc in
    let same_rd : c.from-rd.result ≡ w.rd = cc in
    let s0 : c.from-s0.result ≤ 4096 = omega (arith, wheel.slots.1) in
    let s1 : c.from-s1.result ≤ 4096 = omega (arith, wheel.slots.1) in
    let rn : c.from-rn.result ≤ 65535 = omega (arith, same_rn, wheel.ratio.2) in
    let rd : c.from-rd.result ≤ 65535 = omega (arith, same_rd, wheel.ratio.1, wheel.ratio.2) in
    let low : IsSmall c.lowest.result = cut_small _ _ _ _ _ s0 s1 rn rd c.lowest.ensures.top c.lowest.ensures.bottom in
    let high : IsSmall c.lowest-2.result = cut_small _ _ _ _ _ s0 s1 rd rn c.lowest-2.ensures.top c.lowest-2.ensures.bottom in
    on_ok_weaker c.insert-2.result (λ second old. all_more _ _ _ IsSmall second high (all_more _ _ _ IsSmall c.in_ok-insert.ensures.ok low old)) c.insert-2.ensures.ok
