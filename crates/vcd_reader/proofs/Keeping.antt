-- Instants that wait, and levels that a change gives.
use Rattle.std.proofs.Common.{◌≡◌, List, ◌++◌, ◌∷◌, [], Some, None, refl, append_assoc, sym, ◌∙◌, ap, Bool, ℕ}
use Rattle.std.specs.declared.option.Option.{Option}
use Rattle.wheel_types.specs.declared.instant.Instant.{Instant}
use Rattle.wheel_types.specs.declared.channel.Channel.TheVariants.{Crank, Cam1, Cam2}
use Rattle.capture_core.specs.declared.capture.Watch.{Watch}
use Rattle.capture_core.specs.declared.capture.Stamp.{Stamp}
use Rattle.capture_core.specs.Stamps.{with_last, instant_at, known_after}
use Rattle.vcd_header.specs.declared.signals.Signals.{Signals}
use Rattle.vcd_header.specs.Texts.{same}
use Rattle.vcd_header.specs.Values.{given_if, given_by, is_code}
use Rattle.vcd_reader.specs.Readings.{Body}
use Rattle.vcd_reader.specs.Standing.{Waits}

-- the newest instant joins those that wait
pub with_last-append : (xs ys : List Instant) (o : Option Instant) → with_last (xs ++ ys) o ≡ xs ++ with_last ys o
with_last-append xs ys None = refl
with_last-append xs ys (Some i) = append_assoc xs ys (i ∷ [])

pub waits_more : (watch used : Watch) (handed waiting later : List Instant) (closed : List Stamp) (s : Stamp) (o : Option Instant)
    → Waits watch handed waiting closed → used ≡ watch → o ≡ instant_at used (known_after closed) s → later ≡ with_last waiting o → Waits watch handed later (s ∷ closed)
waits_more watch used handed waiting later closed s o w same_watch is_instant is_later =
    let now : o ≡ instant_at watch (known_after closed) s = is_instant ∙ ap (λ (x : Watch). instant_at x (known_after closed) s) same_watch in
    record { all = rw w.all (ap (with_last (handed ++ waiting)) (sym now) ∙ with_last-append handed waiting o ∙ ap (λ (x : List Instant). handed ++ x) (sym is_later)) }

-- the three channels are given what the change says
pub given_three : (b : Body) (signals : Signals) (level : Bool) (given : Option Bool) (code : List ℕ) (crank cam1 cam2 : Bool)
    → given ≡ Some level → signals ≡ b.signals → crank ≡ same signals.crank code → cam1 ≡ is_code signals.cam1 code → cam2 ≡ is_code signals.cam2 code
    → given_if cam2 Cam2 level (given_if cam1 Cam1 level (given_if crank Crank level b.now.given)) ≡ given_by b.signals given code b.now.given
given_three b signals level given code crank cam1 cam2 is_level is_signals is_crank is_cam1 is_cam2 =
    rw (is_level, ← is_signals, is_crank, is_cam1, is_cam2) refl
