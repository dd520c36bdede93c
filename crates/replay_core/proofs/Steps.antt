-- One step of a session: its line, and the edges of the window that comes next.
use Rattle.std.proofs.Common.{◌≡◌, ℕ, ◌+◌, ◌<◌, ◌≤◌, Bool, true, false, List, ◌∷◌, refl, sym, ◌∙◌, ap, arith}
use Rattle.std.specs.Prelude.{◌==◌, Option, Some, None, if◌then◌else◌}
use Rattle.wheel_types.specs.declared.channel.Pol.{Pol}
use Rattle.wheel_types.specs.declared.instant.Instant.{Instant}
use Rattle.wheel_types.specs.declared.verdict.Verdict.{Verdict}
use Rattle.image_layout.specs.Layout.{state_total}
use Rattle.image_layout.specs.Fields.{entry_at}
use Rattle.image_layout.specs.Rules.{IsImage}
use Rattle.image_layout.proofs.Images.{no_fault}
use Rattle.image_format.specs.Walk.{Stand, fresh, joined, begun, next, answer, end_state, shape_letter, stand_after}
use Rattle.image_format.proofs.Tables.{layout_tells}
use Rattle.sync_machine.specs.Machine.{verdict_of}
use Rattle.sync_machine.specs.declared.verdict.MachineVerdict.{MachineVerdict}
use Rattle.sync_machine.specs.declared.verdict.MachineVerdict.TheVariants as verdict
use Rattle.sound_walk.specs.Windows.{window_after, verdict_at}
use Rattle.replay_core.specs.declared.counts.EdgeCounts.{EdgeCounts}
use Rattle.replay_core.specs.Counts.{more_if, with_edges, no_edges, counts_of, AreAtMost}
use Rattle.replay_core.specs.Lines.{cut_verdict}
use Rattle.replay_core.specs.Told.{IsIn, told_verdict, next_counts}
use Rattle.replay_core.proofs.Backs.{told_of_kind}
use Rattle.replay_core.proofs.Windows.{told_in, counts_next}

-- what the machine says is in the image
pub in_image : (a b : List ℕ) (s t : Stand) (i : Instant) (told : MachineVerdict) → IsImage a → b ≡ a → t ≡ next a s i
    → t.state < state_total b → told ≡ verdict_of (answer a s i) → IsIn b told
in_image a b s t i told image same stand lt says =
    rw (says, same) (told_in a (layout_tells a (no_fault _ image)) s i (rw (stand, same) at lt))

-- the verdict is that of the walk's report
pub line_by : (a b : List ℕ) (past : List Instant) (i : Instant) (s : Stand) (told : MachineVerdict) (passed seen : EdgeCounts) (v : Verdict)
    → b ≡ a → s ≡ stand_after a past → told ≡ verdict_of (answer a s i) → passed ≡ counts_of (window_after a past)
    → seen ≡ with_edges i passed → v ≡ told_verdict b seen told → v ≡ cut_verdict (verdict_at a past i)
line_by a b past i s told passed seen v same stand says edges counted made =
    rw (made, same, counted, edges, says, stand) (told_of_kind a (i ∷ window_after a past) (answer a (stand_after a past) i))

-- the edges are those of the next window
pub counts_by : (a b : List ℕ) (past : List Instant) (i : Instant) (s t : Stand) (told : MachineVerdict) (passed seen after : EdgeCounts)
    → IsImage a → b ≡ a → s ≡ stand_after a past → t ≡ next a s i → t.state < state_total b → told ≡ verdict_of (answer a s i)
    → passed ≡ counts_of (window_after a past) → seen ≡ with_edges i passed → after ≡ next_counts t.started told i seen
    → after ≡ counts_of (window_after a (i ∷ past))
counts_by a b past i s t told passed seen after image same stand moved lt says edges counted made =
    rw (made, counted, edges, says, moved, stand)
    (counts_next a (layout_tells a (no_fault _ image)) (stand_after a past) i (window_after a past) (rw (moved, stand, same) at lt))

-- the machine stands for one instant more
pub stands_by : (a b : List ℕ) (past : List Instant) (i : Instant) (s t : Stand) → b ≡ a → s ≡ stand_after a past → t ≡ next a s i
    → t ≡ stand_after b (i ∷ past)
stands_by a b past i s t same stand moved =
    moved ∙ ap (λ v. next a v i) stand ∙ ap (λ v. stand_after v (i ∷ past)) (sym same)

-- every step leaves the instant's time
pub next_time : (b : List ℕ) (s : Stand) (i : Instant) → (next b s i).time ≡ Some i.time
next_time b s i = by (end_state b s i == 0)
  where
    begins : (v : Bool) → (if v then fresh (Some i.time) else joined None None i (entry_at b 1 (shape_letter b i))).time ≡ Some i.time
    begins true = refl
    begins false = refl

    loses : (v : Bool) → (if v then begun b i else fresh (Some i.time)).time ≡ Some i.time
    loses true = begins (entry_at b 1 (shape_letter b i) == 0)
    loses false = refl

    by : (v : Bool) → (if v then (if s.started then begun b i else fresh (Some i.time))
        else joined s.crank s.crank_before i (end_state b s i)).time ≡ Some i.time
    by true = loses s.started
    by false = refl

-- no channel has more edges than instants were stepped
more_most : (o : Option Pol) (k n : ℕ) → k ≤ n → more_if o k ≤ n + 1
more_most None k n le = omega (arith, le)
more_most (Some p) k n le = omega (arith, le)

with_most : (i : Instant) (c : EdgeCounts) (n : ℕ) → AreAtMost n c → AreAtMost (n + 1) (with_edges i c)
with_most i c n most = record {
  crank = more_most i.crank c.crank n most.crank;
  cam1 = more_most i.cam1 c.cam1 n most.cam1;
  cam2 = more_most i.cam2 c.cam2 n most.cam2;
}

none_most : (n : ℕ) → AreAtMost n no_edges
none_most n = record { crank = omega arith; cam1 = omega arith; cam2 = omega arith }

next_most : (n : ℕ) (v : Bool) (told : MachineVerdict) (i : Instant) (c : EdgeCounts) → AreAtMost n c
    → AreAtMost (n + 1) (next_counts v told i (with_edges i c))
next_most n true verdict.Lost i c most = with_most i no_edges n (none_most n)
next_most n false verdict.Lost i c most = none_most (n + 1)
next_most n v (verdict.At j) i c most = with_most i c n most
next_most n v (verdict.Open e f) i c most = with_most i c n most

pub few_by : (n : ℕ) (v : Bool) (told : MachineVerdict) (i : Instant) (passed seen after : EdgeCounts) → AreAtMost n passed
    → seen ≡ with_edges i passed → after ≡ next_counts v told i seen → AreAtMost (n + 1) after
few_by n v told i passed seen after most counted made = rw (made, counted) (next_most n v told i passed most)
