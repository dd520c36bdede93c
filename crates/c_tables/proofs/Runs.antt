-- The token that begins at a place fills a span of the source.
use Rattle.std.proofs.Common.{◌≡◌, ℕ, ◌+◌, ◌-◌, ◌<◌, suc, true, false, not, cond, List, [], ◌∷◌, ◌++◌, take, drop, get_or, length, refl, ap, sym, ◌∙◌, arith}
use Rattle.std.proofs.lemmas.List.{drop_more, at_drop_more}
use Rattle.c_tables.specs.Tokens.{Mode, outside, begins_gap, opened, goes_on, mode_after, run, token_from, tokens_from}
use Rattle.c_tables.specs.Spans.{token_at, left, Ends}

-- the bytes with which a token goes on stand at the front of the rest
pub run_front : (mode : Mode) (rest : List ℕ) → run mode rest ≡ take (length (run mode rest)) rest
run_front mode [] = refl
run_front mode (b ∷ rest) =
    elim (goes_on mode b rest) as (λ on. cond on (b ∷ run (mode_after mode b rest) rest) [] ≡ take (length (cond on (b ∷ run (mode_after mode b rest) rest) [])) (b ∷ rest)) [
      | true ↦ ap (λ r. b ∷ r) (run_front (mode_after mode b rest) rest)
      | false ↦ refl
    ]

-- the token that begins at a place, as a span
filled : (source : List ℕ) (at end : ℕ) (mode : Mode) → at < length source → Ends source mode (at + 1) end
    → (get_or source at 0 ∷ run mode (drop (at + 1) source)) ≡ take (end - at) (drop at source)
filled source at end mode h ends =
    let n : suc (length (run mode (drop (at + 1) source))) ≡ end - at = omega (arith, ends.text) in
    ap (λ r. get_or source at 0 ∷ r) (run_front mode (drop (at + 1) source))
    ∙ ap (λ k. take k (get_or source at 0 ∷ drop (at + 1) source)) n
    ∙ ap (take (end - at)) (sym (drop_more source at 0 h))

-- where a token begins, it stands first among those that are left, and what follows it is left behind it
pub token_begun : (source : List ℕ) (at end : ℕ) → at < length source → begins_gap (get_or source at 0) (drop (at + 1) source) ≡ false
    → Ends source (opened (get_or source at 0) (drop (at + 1) source)) (at + 1) end
    → left source at ≡ token_at source (record { at = at; end = end }) ∷ left source end
token_begun source at end h begun ends =
    at_drop_more (tokens_from outside at) source at 0 h
    ∙ ap (λ gap. cond (not gap) (token_from at (get_or source at 0) (drop (at + 1) source) ∷ []) [] ++ tokens_from (opened (get_or source at 0) (drop (at + 1) source)) (at + 1) (drop (at + 1) source)) begun
    ∙ ap (λ ts. token_from at (get_or source at 0) (drop (at + 1) source) ∷ ts) ends.closes.left
    ∙ ap (λ text. record { text = text; at = at } ∷ left source end) (filled source at end (opened (get_or source at 0) (drop (at + 1) source)) h ends)
