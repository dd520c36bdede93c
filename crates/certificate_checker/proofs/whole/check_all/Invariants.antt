use Rattle.std.proofs.Common.{List, Bor}
use Rattle.std.specs.Option.{option_map}
use Rattle.wheel_types.specs.declared.place.Place.{Place}
use Rattle.certificate_checker.proofs.Checked.{HasChecked}
use Rattle.certificate_checker.proofs.whole.check_all.Given as goal

abbrev pub invariant-loop-k : goal.invariant-loop-k
invariant-loop-k l = HasChecked l.wheel.parts l.set (option_map (λ (b : Bor (List Place)). b.now) l.kept) l.k l.instants l.reports l.lines
