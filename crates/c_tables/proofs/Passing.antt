-- How the tokens of a rest are those of what is left of it, a byte further on.
use Rattle.std.proofs.Common.{◌≡◌, ℕ, ◌+◌, ◌<◌, true, false, inl, inr, List, ◌∷◌, drop, get_or, length, refl, ap, sym, ◌∙◌, arith}
use Rattle.std.specs.Prelude.{codes}
use Rattle.c_tables.specs.Tokens.{begins, ends_line, begins_token, mode_after, tokens_from, Mode, outside, in_line_comment, in_block_comment}
use Rattle.std.proofs.lemmas.List.{at_drop_more, drop-drop}
use Rattle.c_tables.proofs.Fronts.{begins-is, line_bytes}

-- where no token begins, the tokens are those from the next byte on
pub byte_passed : (mode next : Mode) (at b : ℕ) (rest : List ℕ) → begins_token mode b rest ≡ false → mode_after mode b rest ≡ next
    → tokens_from mode at (b ∷ rest) ≡ tokens_from next (at + 1) rest
byte_passed mode next at b rest none after = rw (none, after) refl

-- at a line end nothing but white space is passed, whatever stood open before it
pub line_ended : (mode : Mode) (at : ℕ) (rest : List ℕ) → ((b : ℕ) (more : List ℕ) → ends_line (b ∷ more) ≡ true → (begins_token mode b more ≡ false) × (mode_after mode b more ≡ outside))
    → ends_line rest ≡ true → tokens_from mode at rest ≡ tokens_from outside at rest
line_ended mode at rest closed h = elim (line_bytes rest h) [
  | inl feed ↦
      let e = closed 10 (drop 1 rest) (ap ends_line (sym feed) ∙ h) in
      ap (tokens_from mode at) feed ∙ byte_passed mode outside at 10 (drop 1 rest) e.0 e.1 ∙ sym (ap (tokens_from outside at) feed)
  | inr both ↦
      let e = closed 13 (10 ∷ drop 2 rest) (ap ends_line (sym both) ∙ h) in
      ap (tokens_from mode at) both ∙ byte_passed mode outside at 13 (10 ∷ drop 2 rest) e.0 e.1 ∙ sym (ap (tokens_from outside at) both)
]

-- a `//` comment ends at its line's end
pub line_comment_ended : (at : ℕ) (rest : List ℕ) → ends_line rest ≡ true → tokens_from in_line_comment at rest ≡ tokens_from outside at rest
line_comment_ended at rest = line_ended in_line_comment at rest (λ b more h. (refl, rw h refl))

-- a `//` comment goes on where its line does
pub line_comment_on : (source : List ℕ) (at : ℕ) → at < length source → ends_line (drop at source) ≡ false
    → tokens_from in_line_comment at (drop at source) ≡ tokens_from in_line_comment (at + 1) (drop (at + 1) source)
line_comment_on source at h f =
    let same = sym (at_drop_more ends_line source at 0 h) ∙ f in
    at_drop_more (tokens_from in_line_comment at) source at 0 h
    ∙ byte_passed in_line_comment in_line_comment at (get_or source at 0) (drop (at + 1) source) refl (rw same refl)

two_on : (at : ℕ) → at + 1 + 1 ≡ at + 2
two_on at = omega arith

-- a block comment ends behind its last two bytes
pub block_comment_ended : (source : List ℕ) (at : ℕ) → begins (codes "*/") (drop at source) ≡ true
    → tokens_from in_block_comment at (drop at source) ≡ tokens_from outside (at + 2) (drop (at + 2) source)
block_comment_ended source at h =
    ap (tokens_from in_block_comment at) (begins-is (codes "*/") (drop at source) h)
    ∙ ap (λ k. tokens_from outside k (drop 2 (drop at source))) (two_on at)
    ∙ ap (tokens_from outside (at + 2)) (drop-drop 2 at source)

-- a block comment goes on elsewhere
pub block_comment_on : (source : List ℕ) (at : ℕ) → at < length source → begins (codes "*/") (drop at source) ≡ false
    → tokens_from in_block_comment at (drop at source) ≡ tokens_from in_block_comment (at + 1) (drop (at + 1) source)
block_comment_on source at h f =
    let same = sym (at_drop_more (begins (codes "*/")) source at 0 h) ∙ f in
    at_drop_more (tokens_from in_block_comment at) source at 0 h
    ∙ byte_passed in_block_comment in_block_comment at (get_or source at 0) (drop (at + 1) source) refl (rw same refl)

-- a block comment begins with two bytes
pub block_comment_begun : (source : List ℕ) (at : ℕ) → begins (codes "/*") (drop at source) ≡ true
    → tokens_from outside at (drop at source) ≡ tokens_from in_block_comment (at + 2) (drop (at + 2) source)
block_comment_begun source at h =
    ap (tokens_from outside at) (begins-is (codes "/*") (drop at source) h)
    ∙ ap (λ k. tokens_from in_block_comment k (drop 2 (drop at source))) (two_on at)
    ∙ ap (tokens_from in_block_comment (at + 2)) (drop-drop 2 at source)

-- a `//` comment begins with two bytes, of which the second ends no line
pub line_comment_begun : (source : List ℕ) (at : ℕ) → begins (codes "//") (drop at source) ≡ true
    → tokens_from outside at (drop at source) ≡ tokens_from in_line_comment (at + 1) (drop (at + 1) source)
line_comment_begun source at h =
    let e = begins-is (codes "//") (drop at source) h in
    ap (tokens_from outside at) e
    ∙ sym (ap (λ r. tokens_from in_line_comment (at + 1) (drop 1 r)) e)
    ∙ ap (tokens_from in_line_comment (at + 1)) (drop-drop 1 at source)
