use Rattle.std.proofs.Common.{◌≡◌, ℤ, pos, ◌*ℤ◌, w32, to_z, of_z, ◌∙◌, ap, arith}
use Rattle.std.proofs.lemmas.Int.{ints}
use Rattle.std.specs.Int.{saturate_signed}
use mir.Syntax.{w128}
use Rattle.replay_core.proofs.starts.index_back.Goals as goal

cut_by : (r n z : ℤ) → r ≡ saturate_signed w32 n → n ≡ z → r ≡ saturate_signed w32 z
cut_by r n z e f = e ∙ ap (saturate_signed w32) f

pub returns : goal.returns
returns c =
    let whole : to_z w32 (of_z w32 c.cut.result) ≡ c.cut.result = omega (arith, ints) in
    let same : to_z w128 (of_z w128 c.args.cycle) ≡ c.args.cycle = omega (arith, ints) in
    let turns : c.edges_of-turns.result ≡ c.args.cycle *ℤ pos c.args.edges =
    c.edges_of-turns.ensures.value ∙ ap (λ z. z *ℤ pos c.args.edges) same in
    cut_by _ _ _ (whole ∙ c.cut.ensures) (omega (arith, ints, turns))
