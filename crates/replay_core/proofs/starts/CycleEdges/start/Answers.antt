use Rattle.std.proofs.Common.{◌≡◌, ℕ, ◌+◌, ℤ, pos, ◌-ℤ◌, ◌*ℤ◌, w32, to_z, of_z, ◌∙◌, ap, arith}
use Rattle.std.proofs.lemmas.Int.{ints}
use Rattle.std.specs.Prelude.{unsigned_abs}
use Rattle.std.specs.Int.{saturate_signed, int_div_euclid, int_rem_euclid}
use mir.Syntax.{w128}
use Rattle.wheel_types.specs.declared.channel.Channel.TheVariants.{Crank, Cam1, Cam2}
use Rattle.wheel_types.specs.declared.parts.WheelParts.{WheelParts}
use Rattle.wheel_types.specs.declared.place.Place.{Place}
use Rattle.wheel_types.specs.Edges.{edge_count}
use Rattle.replay_core.specs.declared.counts.EdgeCounts.{EdgeCounts}
use Rattle.replay_core.specs.Counts.{place_back}
use Rattle.replay_core.proofs.starts.CycleEdges.start.Goals as goal

-- a place taken back, by the numbers that the code has
start_by : (w : WheelParts) (p : Place) (c : EdgeCounts) (i k cycle turn number part m1 m2 r1 r2 s1 s2 : ℤ) (cam1 cam2 : ℕ)
    → i ≡ (pos (p.j + 1) -ℤ pos c.crank) -ℤ pos 1 → k ≡ pos (edge_count w Crank) → cycle ≡ int_div_euclid i k → turn ≡ cycle
    → number ≡ int_rem_euclid i k → part ≡ number → m1 ≡ p.n1 → m2 ≡ p.n2 → cam1 ≡ edge_count w Cam1 → cam2 ≡ edge_count w Cam2
    → r1 ≡ saturate_signed w32 ((m1 -ℤ pos c.cam1) -ℤ turn *ℤ pos cam1)
    → r2 ≡ saturate_signed w32 ((m2 -ℤ pos c.cam2) -ℤ turn *ℤ pos cam2) → s1 ≡ r1 → s2 ≡ r2
    → ◌≡◌ {A = Place} (record { j = unsigned_abs part; n1 = s1; n2 = s2 }) (place_back w c p)
start_by w p c i k cycle turn number part m1 m2 r1 r2 s1 s2 cam1 cam2 at count div same rem is a b one two x y u v =
    rw (u, v, x, y, one, two, a, b, is, rem, same, div, count, at)

pub returns : goal.returns
returns c = λ w edges.
    let at : to_z w128 (of_z w128 (to_z w128 (of_z w128 c.from.result) -ℤ to_z w128 (of_z w128 c.from-2.result)))
    ≡ (pos (c.args.end.j + 1) -ℤ pos c.args.passed.crank) -ℤ pos 1 = omega (arith, ints) in
    let many : to_z w128 (of_z w128 c.from-edges.result) ≡ pos c.args.self.crank = omega (arith, ints) in
    let turn : to_z w128 (of_z w128 c.div_euclid-cycle.result) ≡ c.div_euclid-cycle.result = omega (arith, ints) in
    let part : to_z w128 (of_z w128 c.rem_euclid.result) ≡ c.rem_euclid.result = omega (arith, ints) in
    let first : to_z w32 (of_z w32 c.args.end.n1) ≡ c.args.end.n1 = omega (arith, ints) in
    let second : to_z w32 (of_z w32 c.args.end.n2) ≡ c.args.end.n2 = omega (arith, ints) in
    let one : to_z w32 (of_z w32 c.index_back.result) ≡ c.index_back.result = omega (arith, ints) in
    let two : to_z w32 (of_z w32 c.index_back-2.result) ≡ c.index_back-2.result = omega (arith, ints) in
    start_by w c.args.end c.args.passed _ _ _ _ _ _ _ _ _ _ _ _ _ _ at (many ∙ ap pos edges.crank) c.div_euclid-cycle.ensures turn
    c.rem_euclid.ensures.value part first second edges.cam1 edges.cam2 c.index_back.ensures c.index_back-2.ensures one two
