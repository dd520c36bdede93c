use Rattle.legal_steps.proofs.KeptGaps.{once_kept, twice_kept, twice_lost, both_then, small_once, small_twice, speed_small, ratio_small}
use Rattle.legal_steps.proofs.motions.Motions.keeps_gaps.Goals as goal

pub returns-in-Once : goal.returns-in-Once
returns-in-Once c =
    let small = small_once c.args.times c.in-Once.last c.in-Once.is c.requires.times in
    once_kept c.args.self.now.wheel.parts c.args.j c.args.time c.in-Once.last c.args.times c.keeps_speed.result c.in-Once.is (speed_small _ _ _ c.in-Once.last c.args.time small c.requires.time c.keeps_speed.ensures)

pub returns-then-keeps_speed : goal.returns-then-keeps_speed
returns-then-keeps_speed c =
    let small = small_twice c.args.times c.in-Twice.last c.in-Twice.before c.in-Twice.is c.requires.times in
    let speed = speed_small _ _ _ c.in-Twice.last c.args.time small.0 c.requires.time c.keeps_speed-in-Twice.ensures in
    let ratio = ratio_small _ _ _ _ c.in-Twice.before c.in-Twice.last c.args.time small.1 small.0 c.requires.time c.keeps_ratio.ensures in
    both_then c.keeps_speed-in-Twice.result c.keeps_ratio.result _ c.if-keeps_speed.true (twice_kept c.args.self.now.wheel.parts c.args.j c.args.time c.in-Twice.last c.in-Twice.before c.args.times c.keeps_speed-in-Twice.result c.keeps_ratio.result c.in-Twice.is speed ratio)

pub returns-else-keeps_speed : goal.returns-else-keeps_speed
returns-else-keeps_speed c =
    let small = small_twice c.args.times c.in-Twice.last c.in-Twice.before c.in-Twice.is c.requires.times in
    let speed = speed_small _ _ _ c.in-Twice.last c.args.time small.0 c.requires.time c.keeps_speed-in-Twice.ensures in
    twice_lost c.args.self.now.wheel.parts c.args.j c.args.time c.in-Twice.last c.in-Twice.before c.args.times c.keeps_speed-in-Twice.result c.in-Twice.is c.if-keeps_speed.false speed
