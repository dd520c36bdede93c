use Rattle.std.proofs.Common.{◌≡◌, ℕ, List}
use Rattle.wheel_types.specs.declared.place.Place.{Place}
use Rattle.wheel_types.specs.declared.verdict.Verdict.{Verdict}
use Rattle.wheel_types.specs.declared.verdict.Verdict.TheVariants as verdict
use Rattle.image_layout.specs.Fields.{place_at, wheel_parts_of}
use Rattle.sync_machine.specs.declared.verdict.MachineVerdict.{MachineVerdict}
use Rattle.sync_machine.specs.declared.verdict.MachineVerdict.TheVariants.{Open}
use Rattle.replay_core.specs.declared.counts.EdgeCounts.{EdgeCounts}
use Rattle.replay_core.specs.Counts.{place_back}
use Rattle.replay_core.specs.Told.{told_verdict}
use Rattle.replay_core.proofs.session.verdict.Goals as goal

open_by : (b : List ℕ) (seen : EdgeCounts) (told : MachineVerdict) (e f : ℕ) (x y p q : Place) → told ≡ Open e f
    → x ≡ place_back (wheel_parts_of b) seen p → y ≡ place_back (wheel_parts_of b) seen q → p ≡ place_at b e → q ≡ place_at b f
    → ◌≡◌ {A = Verdict} (verdict.Open x y) (told_verdict b seen told)
open_by b seen told e f x y p q is one two first second = rw (is, one, two, first, second)

pub returns-in-Open : goal.returns-in-Open
returns-in-Open c =
    let b = c.args.view.now.bytes.now in
    open_by b c.args.seen c.args.told c.in-Open.e c.in-Open.f _ _ _ _ c.in-Open.is (c.start.ensures (wheel_parts_of b) c.requires.edges)
    (c.start-in-Open.ensures (wheel_parts_of b) c.requires.edges) c.place.ensures c.place-in-Open.ensures
