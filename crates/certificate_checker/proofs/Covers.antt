-- Covers that have every place where motions end.
use Rattle.std.proofs.Common.{◌<◌, List, [], ◌∷◌}
use Rattle.wheel_types.specs.declared.channel.Channel.TheVariants.{Crank}
use Rattle.wheel_types.specs.declared.place.Place.{Place}
use Rattle.wheel_types.specs.declared.instant.Instant.{Instant}
use Rattle.wheel_types.specs.declared.parts.WheelParts.{WheelParts}
use Rattle.wheel_types.specs.Edges.{edge_count}
use Rattle.wheel_types.specs.Verdicts.{EndsAt}
use Rattle.wheel_types.proofs.Places.{ends_after_step}
use Rattle.wheel_types.proofs.BothWays.{step_ends}
use Rattle.certificate_checker.specs.Situations.{Situation, ComesFrom, ComesTo, BeginsAt}
use Rattle.certificate_checker.proofs.LegalWalks.{place_ends, ends_place}

-- wherever motions end that give the window's instants, the engine can be by the cover
abbrev pub Covers : WheelParts → List Instant → List Place → Type 0
Covers w before reached = (p : Place) → EndsAt w before p → ComesFrom w before reached p

pub none_covers : (w : WheelParts) (reached : List Place) → 0 < edge_count w Crank → Covers w [] reached
none_covers w reached some p e = ends_place w p some e

-- where they end after one more instant, a legal step comes to
pub ends_come : (w : WheelParts) (t : Situation) (q : Place) → 0 < edge_count w Crank → Covers w t.before t.reached → EndsAt w (t.instant ∷ t.before) q → ComesTo w t.before t.reached t.instant q
ends_come w t q some covers e =
    let s = ends_after_step w t.instant t.before q some e in
    (s.0, (covers s.0 s.1, s.2))

-- an instant alone: motions end at exactly the legal steps of the wheel's places
pub ends_begin : (w : WheelParts) (i : Instant) (q : Place) → 0 < edge_count w Crank → EndsAt w (i ∷ []) q → BeginsAt w i q
ends_begin w i q some e =
    let s = ends_after_step w i [] q some e in
    (s.0, (ends_place w s.0 some s.1, s.2))

pub begin_ends : (w : WheelParts) (i : Instant) (q : Place) → 0 < edge_count w Crank → BeginsAt w i q → EndsAt w (i ∷ []) q
begin_ends w i q some b = step_ends w i [] b.0 q some tt (place_ends w b.0 some b.1.0) b.1.1
