use Rattle.std.proofs.Common.{◌∷◌}
use Rattle.plain_motion.specs.Sets.{wheel_of}
use Rattle.certificate_checker.proofs.InstantRules.{walk_found, none_walks}
use Rattle.certificate_checker.proofs.walks.end_of.Goals as goal

pub returns-in-Lost : goal.returns-in-Lost
returns-in-Lost c = λ past verdicts s i before t e k. none_walks (wheel_of c.args.set.now) (i ∷ before) s.kept.window c.args.verdict c.args.start e c.in-Lost.is t k

pub returns-in_default : goal.returns-in_default
returns-in_default c = λ past verdicts s i before t.
    walk_found (wheel_of c.args.set.now) (i ∷ before) s.kept.window c.args.verdict c.args.start c.end_of.result c.in_default.not-Lost t (c.end_of.ensures past verdicts s)
