use Rattle.std.proofs.Common.{◌≡◌, ◌∙◌, ap, ℕ, List, ◌∷◌, subst, arith, length, ◌+◌}
use Rattle.std.specs.Io.KnownBytes.{Appends}
use Rattle.std.proofs.KnownBytes.{Appends-nil}
use Rattle.std.proofs.lemmas.Result.{on_ok_weaker, on_err_weaker}
use Rattle.wheel_types.specs.declared.instant.Instant.{Instant}
use Rattle.image_format.specs.Walk.{stand_after}
use Rattle.run_ends.specs.Prefixes.{AppendsPrefix}
use Rattle.image_commands.specs.Trace.{state_line, trace_line}
use Rattle.image_commands.proofs.put.put_instant.Goals as goal

is_line : (b : List ℕ) (past : List Instant) (i : Instant) (index state : ℕ) (text : List ℕ) → text ≡ state_line index i state → index ≡ length past + 1 → state ≡ (stand_after b (i ∷ past)).state
    → text ≡ trace_line b past i
is_line b past i index state text is number at = is ∙ ap (λ n. state_line n i state) number ∙ ap (state_line (length past + 1) i) at

pub returns-in-Err-clause-err : goal.returns-in-Err-clause-err
returns-in-Err-clause-err g c = λ past stands number. (0, (omega arith, Appends-nil _))

pub returns-clause-ok : goal.returns-clause-ok
returns-clause-ok g c =
    on_ok_weaker c.put.result
    (λ grown past stands number. subst (Appends (g.O.Sink.taken c.args.out.now) (g.O.Sink.taken c.put.new.out))
    (is_line _ past c.args.instant.now c.args.index c.walked-state.result c.as_bytes.result.now (c.as_bytes.ensures.value ∙ c.in-Ok.ensures) number (c.walked-state.ensures.state past stands)) grown)
    c.put.ensures.ok

pub returns-clause-err : goal.returns-clause-err
returns-clause-err g c =
    on_err_weaker c.put.result
    (λ front past stands number. subst (AppendsPrefix (g.O.Sink.taken c.args.out.now) (g.O.Sink.taken c.put.new.out))
    (is_line _ past c.args.instant.now c.args.index c.walked-state.result c.as_bytes.result.now (c.as_bytes.ensures.value ∙ c.in-Ok.ensures) number (c.walked-state.ensures.state past stands)) front)
    c.put.ensures.err
