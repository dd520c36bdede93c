-- A self counts no loss.
use Rattle.std.proofs.Common.{◌≡◌, ◌+◌, false, cond, Bool, List, [], ◌∷◌, reverse, refl, ap, ◌∙◌, arith}
use Rattle.std.specs.Prelude.{◌≢◌, count_by}
use Rattle.std.specs.List.{AllByRecursion}
use Rattle.std.proofs.lemmas.List.{reverse-append}
use Rattle.std.proofs.lemmas.List.Sums.{sum_by_push}
use Rattle.wheel_types.specs.declared.verdict.Verdict.{Verdict}
use Rattle.wheel_types.specs.declared.verdict.Verdict.TheVariants.{At, Open, Lost}
use Rattle.stimulus.proofs.Unlost.{unlost, are_given}
use Rattle.stimulus_commands.specs.declared.counts.Counts.{Counts}
use Rattle.stimulus_commands.specs.CountsOf.{is_lost}
use Rattle.stimulus_commands.specs.Laws.{NoSelfIsLost}

not_lost : (v : Verdict) → v ≢ Lost → is_lost v ≡ false
not_lost (At j slot) n = refl
not_lost (Open a b) n = refl
not_lost Lost n = absurd (n refl)

-- no loss is counted where there is none
none_lost : (vs : List Verdict) → AllByRecursion (λ (v : Verdict). v ≢ Lost) vs → count_by is_lost (reverse vs) ≡ 0
none_lost [] a = refl
none_lost (v ∷ vs) a =
    let rest : count_by is_lost (reverse vs) ≡ 0 = none_lost vs a.1 in
    ap (count_by is_lost) (reverse-append (v ∷ []) vs) ∙ sum_by_push (λ x. cond (is_lost x) 1 0) (reverse vs) v
    ∙ ap (λ (b : Bool). count_by is_lost (reverse vs) + cond b 1 0) (not_lost v a.0) ∙ omega (arith, rest)

pub no_self_is_lost : NoSelfIsLost
no_self_is_lost w seed gaps text end wheel (counts, (t, (is, done))) =
    let c = t.counted in
    let s = t.stimulus in
    let u = unlost w (reverse t.instants) c.0 c.1.0 (are_given w s.motion (reverse t.instants) s.permitted s.gives) c.1.1.0 in
    (counts, (ap (λ (k : Counts). k.lost) c.1.1.1 ∙ none_lost c.0 u.0, is))
