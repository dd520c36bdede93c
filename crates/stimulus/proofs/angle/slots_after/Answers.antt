use Rattle.std.proofs.Common.{◌≡◌, ℕ, ◌+◌, ◌%◌, ◌<◌, pos, ◌+ℤ◌, sym, ◌∙◌, ap, arith}
use Rattle.std.proofs.lemmas.Int.{ints}
use Rattle.wheel_types.specs.declared.channel.Channel.TheVariants.{Crank}
use Rattle.wheel_types.specs.Edges.{edge_count}
use Rattle.wheel_types.specs.Speeds.{slots_between}
use Rattle.wheel_types.proofs.Gaps.{gap_by_number}
use Rattle.stimulus.proofs.angle.slots_after.Goals as goal

next : (n : ℕ) → pos n +ℤ pos 1 ≡ pos (n + 1)
next n = omega (arith, ints)

pub returns-clause-value : goal.returns-clause-value
returns-clause-value c =
    let w = c.args.wheel.now.parts in
    let e = c.args.edge in
    let some : 0 < edge_count w Crank = omega (arith, c.args.wheel.now.valid.crank_edge) in
    let count : c.from-count.result ≡ edge_count w Crank = c.from-count.ensures ∙ c.crank_count.ensures.of_wheel w c.requires.table in
    c.crank_gap.ensures.of_wheel w c.requires.table ∙ ap (λ n. slots_between w (pos (e % n)) (pos (e % n + 1))) count
    ∙ sym (gap_by_number w (pos e) some) ∙ ap (slots_between w (pos e)) (next e)
