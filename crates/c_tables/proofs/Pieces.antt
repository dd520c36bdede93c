-- The tokens of a source are pieces of it, apart from each other.
use Rattle.std.proofs.Common.{◌≡◌, ℕ, ◌+◌, ◌≤◌, true, false, not, ◌&&◌, ◌++◌, List, [], ◌∷◌, take, drop, length, inl, inr, refl, ap, sym, ◌∙◌, subst, arith}
use Rattle.std.specs.Prelude.{All, if◌then◌else◌}
use Rattle.std.proofs.lemmas.Bool.{cases_Bool, and_parts, not-true, false≢true}
use Rattle.std.proofs.lemmas.List.{drop-drop}
use Rattle.std.proofs.lemmas.List.Elements.{All-nil, All-cons, All-same, All-weaker}
use Rattle.c_tables.specs.Tokens.{Mode, outside, in_word, in_text, in_line_comment, opening, in_block_comment, closing, is_word, begins_gap, begins_token, opened, goes_on, mode_after, run, token_from, tokens_from}
use Rattle.c_tables.specs.TokenLaws.{StandsIn, AreApart, TokensArePieces}
use Rattle.c_tables.proofs.Passing.{byte_passed}
use Rattle.c_tables.proofs.Runs.{run_front}

-- a byte that begins a token opens what it opens outside
after_begun : (mode : Mode) (b : ℕ) (rest : List ℕ) → begins_token mode b rest ≡ true → mode_after mode b rest ≡ opened b rest
after_begun outside b rest h = refl
after_begun in_word b rest h =
    let dark = not-true (is_word b) (and_parts (not (is_word b)) (not (begins_gap b rest)) h).0 in
    ap (λ word. if word then in_word else opened b rest) dark
after_begun (in_text mark escaped) b rest h = absurd (false≢true h)
after_begun in_line_comment b rest h = absurd (false≢true h)
after_begun opening b rest h = absurd (false≢true h)
after_begun in_block_comment b rest h = absurd (false≢true h)
after_begun closing b rest h = absurd (false≢true h)

-- a byte with which a token goes on begins none
pub none_begun : (mode : Mode) (b : ℕ) (rest : List ℕ) → goes_on mode b rest ≡ true → begins_token mode b rest ≡ false
none_begun outside b rest h = absurd (false≢true h)
none_begun in_word b rest h = ap (λ word. not word && not (begins_gap b rest)) h
none_begun (in_text mark escaped) b rest h = refl
none_begun in_line_comment b rest h = refl
none_begun opening b rest h = refl
none_begun in_block_comment b rest h = refl
none_begun closing b rest h = refl

-- where a token begins it stands in front of the tokens from the next byte on
pub byte_begun : (mode : Mode) (at b : ℕ) (rest : List ℕ) → begins_token mode b rest ≡ true
    → tokens_from mode at (b ∷ rest) ≡ token_from at b rest ∷ tokens_from (opened b rest) (at + 1) rest
byte_begun mode at b rest h =
    ap (λ begins. (if begins then token_from at b rest ∷ [] else []) ++ tokens_from (mode_after mode b rest) (at + 1) rest) h
    ∙ ap (λ next. token_from at b rest ∷ tokens_from next (at + 1) rest) (after_begun mode b rest h)

-- no token begins before the one that stands open has its end
all_later : (mode : Mode) (at : ℕ) (rest : List ℕ) → All (λ t. at + length (run mode rest) ≤ t.at) (tokens_from mode at rest)
all_later mode at [] = All-nil (λ t. at + 0 ≤ t.at)
all_later mode at (b ∷ rest) = elim (cases_Bool (goes_on mode b rest)) [
  | inl on ↦
      let long : length (run mode (b ∷ rest)) ≡ length (b ∷ run (mode_after mode b rest) rest) = ap (λ g. length (if g then b ∷ run (mode_after mode b rest) rest else [])) on in
      All-same (λ t. at + length (run mode (b ∷ rest)) ≤ t.at) (tokens_from mode at (b ∷ rest)) (tokens_from (mode_after mode b rest) (at + 1) rest)
      (byte_passed mode (mode_after mode b rest) at b rest (none_begun mode b rest on) refl)
      (All-weaker (λ t. at + 1 + length (run (mode_after mode b rest) rest) ≤ t.at) (λ t. at + length (run mode (b ∷ rest)) ≤ t.at) (λ t h. omega arith)
      (tokens_from (mode_after mode b rest) (at + 1) rest) (all_later (mode_after mode b rest) (at + 1) rest))
  | inr ends ↦
      let short : length (run mode (b ∷ rest)) ≡ 0 = ap (λ g. length (if g then b ∷ run (mode_after mode b rest) rest else [])) ends in
      let behind = All-weaker (λ t. at + 1 + length (run (mode_after mode b rest) rest) ≤ t.at) (λ t. at + length (run mode (b ∷ rest)) ≤ t.at) (λ t h. omega arith)
      (tokens_from (mode_after mode b rest) (at + 1) rest) (all_later (mode_after mode b rest) (at + 1) rest) in
      elim (cases_Bool (begins_token mode b rest)) [
        | inl begins ↦
            All-same (λ t. at + length (run mode (b ∷ rest)) ≤ t.at) (tokens_from mode at (b ∷ rest)) (token_from at b rest ∷ tokens_from (mode_after mode b rest) (at + 1) rest)
            (ap (λ begins. (if begins then token_from at b rest ∷ [] else []) ++ tokens_from (mode_after mode b rest) (at + 1) rest) begins)
            (All-cons (λ t. at + length (run mode (b ∷ rest)) ≤ t.at) (token_from at b rest) (tokens_from (mode_after mode b rest) (at + 1) rest) (omega arith) behind)
        | inr none ↦
            All-same (λ t. at + length (run mode (b ∷ rest)) ≤ t.at) (tokens_from mode at (b ∷ rest)) (tokens_from (mode_after mode b rest) (at + 1) rest)
            (byte_passed mode (mode_after mode b rest) at b rest none refl) behind
      ]
]

-- the tokens are apart
apart : (mode : Mode) (at : ℕ) (rest : List ℕ) → AreApart (tokens_from mode at rest)
apart mode at [] = tt
apart mode at (b ∷ rest) = elim (cases_Bool (begins_token mode b rest)) [
  | inl begins ↦ subst AreApart (sym (byte_begun mode at b rest begins)) (
    All-weaker (λ t. at + 1 + length (run (opened b rest) rest) ≤ t.at) (λ t. at + length (b ∷ run (opened b rest) rest) ≤ t.at) (λ t h. omega arith)
        (tokens_from (opened b rest) (at + 1) rest) (all_later (opened b rest) (at + 1) rest),
    apart (opened b rest) (at + 1) rest,
  )
  | inr none ↦ subst AreApart (sym (byte_passed mode (mode_after mode b rest) at b rest none refl)) (apart (mode_after mode b rest) (at + 1) rest)
]

-- a token that begins at a place stands there
stands : (bytes : List ℕ) (at b : ℕ) (rest : List ℕ) → drop at bytes ≡ b ∷ rest → StandsIn bytes (token_from at b rest)
stands bytes at b rest h =
    ap (take (length (b ∷ run (opened b rest) rest))) h ∙ ap (λ r. b ∷ r) (sym (run_front (opened b rest) rest))

-- each token stands at its place
stand : (bytes : List ℕ) (mode : Mode) (at : ℕ) (rest : List ℕ) → drop at bytes ≡ rest → All (StandsIn bytes) (tokens_from mode at rest)
stand bytes mode at [] h = All-nil (StandsIn bytes)
stand bytes mode at (b ∷ rest) h =
    let next : drop (at + 1) bytes ≡ rest = sym (drop-drop 1 at bytes) ∙ ap (drop 1) h in
    elim (cases_Bool (begins_token mode b rest)) [
      | inl begins ↦ All-same (StandsIn bytes) (tokens_from mode at (b ∷ rest)) (token_from at b rest ∷ tokens_from (opened b rest) (at + 1) rest) (byte_begun mode at b rest begins)
          (All-cons (StandsIn bytes) (token_from at b rest) (tokens_from (opened b rest) (at + 1) rest) (stands bytes at b rest h) (stand bytes (opened b rest) (at + 1) rest next))
      | inr none ↦ All-same (StandsIn bytes) (tokens_from mode at (b ∷ rest)) (tokens_from (mode_after mode b rest) (at + 1) rest)
          (byte_passed mode (mode_after mode b rest) at b rest none refl) (stand bytes (mode_after mode b rest) (at + 1) rest next)
    ]

-- the tokens of every source are pieces of it
pub tokens-are_pieces : TokensArePieces
tokens-are_pieces = record {
  stand = λ bytes. stand bytes outside 0 bytes refl;
  apart = λ bytes. apart outside 0 bytes;
}
