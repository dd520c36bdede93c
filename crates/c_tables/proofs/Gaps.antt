-- A source is its tokens, with white space and comments alone between them.
use Rattle.std.proofs.Common.{◌≡◌, ℕ, ◌+◌, suc, Bool, true, false, not, ◌||◌, ◌&&◌, ◌==◌, List, [], ◌∷◌, ◌++◌, drop, length, inl, inr, refl, ap, sym, ◌∙◌, subst, append_assoc, arith}
use Rattle.std.specs.Prelude.{if◌then◌else◌, codes}
use Rattle.std.specs.List.{list_all}
use Rattle.std.proofs.lemmas.Bool.{cases_Bool, and_parts, eqb-true, false≢true}
use Rattle.std.proofs.lemmas.List.{length-append, take-append-drop}
use Rattle.c_tables.specs.Tokens.{Mode, Token, outside, in_word, in_text, in_line_comment, opening, in_block_comment, closing, is_white, is_word, is_mark, is_joint, begins, ends_line, begins_gap, opened, goes_on, mode_after, run, token_from, tokens_from}
use Rattle.c_tables.specs.Gaps.{Inside, IsGap, code, line, block, none, white, joint, line_begins, line_goes_on, line_ends, block_begins, block_goes_on, block_ends, source_ends, starts_word, IsLongest, StandsBehind, AreLaid, SourcesAreLaid}
use Rattle.c_tables.proofs.Fronts.{begins-is}
use Rattle.c_tables.proofs.Passing.{byte_passed, line_ended}
use Rattle.c_tables.proofs.Pieces.{byte_begun, none_begun}
use Rattle.c_tables.proofs.Runs.{run_front}

-- what is laid out at one place, as one list, is so at another that is the same
moved : {at next : ℕ} {bytes more : List ℕ} {ts us : List Token} (inside : Inside) → at ≡ next → bytes ≡ more → ts ≡ us → AreLaid at inside bytes ts → AreLaid next inside more us
moved {at} {next} {bytes} {more} {ts} {us} inside a b t h =
    subst (λ k. AreLaid k inside more us) a (subst (λ r. AreLaid at inside r us) b (subst (AreLaid at inside bytes) t h))

nothing_more : (xs : List ℕ) → xs ++ [] ≡ xs
nothing_more [] = refl
nothing_more (x ∷ xs) = ap (λ r. x ∷ r) (nothing_more xs)

-- bytes that belong to the gap are put before it
in_gap : (at : ℕ) (front : List ℕ) (inside next : Inside) (bytes : List ℕ) (ts : List Token)
    → ((gap after : List ℕ) → gap ++ after ≡ bytes → IsGap after next gap → IsGap after inside (front ++ gap))
    → AreLaid (at + length front) next bytes ts → AreLaid at inside (front ++ bytes) ts
in_gap at front inside next bytes [] more laid = more bytes [] (nothing_more bytes) laid
in_gap at front inside next bytes (t ∷ ts) more laid =
    let h : StandsBehind (at + length front) next bytes t laid.0 laid.1 = laid.2 in
    let n : length (front ++ laid.0) ≡ length front + length laid.0 = length-append front laid.0 in (
      front ++ laid.0,
      laid.1,
      record {
        all = ap (λ r. front ++ r) h.all ∙ sym (append_assoc front laid.0 (t.text ++ laid.1));
        place = omega (arith, h.place, n);
        behind = more laid.0 (t.text ++ laid.1) (sym h.all) h.behind;
        longest = h.longest;
      },
      laid.3,
    )

-- ---- tokens

-- what is left behind a token that stands open is laid out
LeavesLaid : Mode → ℕ → List ℕ → Type 0
LeavesLaid mode at rest = AreLaid (at + length (run mode rest)) code (drop (length (run mode rest)) rest) (tokens_from mode at rest)

-- nothing goes on where nothing stands open
none_runs : (rest : List ℕ) → run outside rest ≡ []
none_runs [] = refl
none_runs (b ∷ rest) = refl

no_further : (at : ℕ) → at ≡ at + 0
no_further at = omega arith

further : (at n : ℕ) → at + 1 + n ≡ at + suc n
further at n = omega arith

-- where a token ends, all that comes is left behind it
left_here : (mode : Mode) (at : ℕ) (rest : List ℕ) → run mode rest ≡ [] → AreLaid at code rest (tokens_from mode at rest) → LeavesLaid mode at rest
unfolding LeavesLaid
left_here mode at rest empty h = subst (λ r. AreLaid (at + length r) code (drop (length r) rest) (tokens_from mode at rest)) (sym empty)
    (moved code (no_further at) refl refl h)

-- where it goes on, what is left behind it is the same
left_later : (mode next : Mode) (at b : ℕ) (rest : List ℕ) → goes_on mode b rest ≡ true → mode_after mode b rest ≡ next → LeavesLaid next (at + 1) rest → LeavesLaid mode at (b ∷ rest)
unfolding LeavesLaid
left_later mode next at b rest on after h =
    let long : b ∷ run next rest ≡ run mode (b ∷ rest) = sym (ap (λ g. if g then b ∷ run (mode_after mode b rest) rest else []) on ∙ ap (λ m. b ∷ run m rest) after) in
    subst (λ r. AreLaid (at + length r) code (drop (length r) (b ∷ rest)) (tokens_from mode at (b ∷ rest))) long
    (moved code (further at (length (run next rest))) refl (sym (byte_passed mode next at b rest (none_begun mode b rest on) after)) h)

-- the run of a word has only bytes of words, and none comes after it
word-runs : (rest : List ℕ) → list_all is_word (run in_word rest) ≡ true
word-runs [] = refl
word-runs (b ∷ rest) = by (is_word b) refl (word-runs rest) where
  by : (g : Bool) → is_word b ≡ g → list_all is_word (run in_word rest) ≡ true → list_all is_word (if g then b ∷ run (if g then in_word else opened b rest) rest else []) ≡ true
  by true on later = ap (λ w. w && list_all is_word (run in_word rest)) on ∙ later
  by false off later = refl

word-ends : (rest : List ℕ) → starts_word (drop (length (run in_word rest)) rest) ≡ false
word-ends [] = refl
word-ends (b ∷ rest) = by (is_word b) refl (word-ends rest) where
  by : (g : Bool) → is_word b ≡ g → starts_word (drop (length (run in_word rest)) rest) ≡ false → starts_word (drop (length (if g then b ∷ run (if g then in_word else opened b rest) rest else [])) (b ∷ rest)) ≡ false
  by true on later = later
  by false off later = off

-- the mode of a token that begins
begun_mode : ℕ → Mode
begun_mode b = if is_word b then in_word else if is_mark b then in_text b false else outside

longest : (b : ℕ) (rest : List ℕ) → IsLongest (b ∷ run (begun_mode b) rest) (drop (length (run (begun_mode b) rest)) rest)
unfolding begun_mode
longest b rest = by (is_word b) refl where
  mode : Bool → Mode
  mode g = if g then in_word else if is_mark b then in_text b false else outside

  by : (g : Bool) → is_word b ≡ g → IsLongest (b ∷ run (mode g) rest) (drop (length (run (mode g) rest)) rest)
  by true on = record {
    word = λ is. ap (λ w. w && list_all is_word (run in_word rest)) on ∙ word-runs rest;
    ends = λ is. word-ends rest;
  }
  by false off = record { word = λ is. absurd (false≢true (sym off ∙ is)); ends = λ is. absurd (false≢true (sym off ∙ is)) }

-- where a token begins, it stands behind an empty gap
token-laid : (mode : Mode) (at b : ℕ) (rest : List ℕ) → opened b rest ≡ mode → mode ≡ begun_mode b → begins_gap b rest ≡ false → LeavesLaid mode (at + 1) rest
    → AreLaid at code (b ∷ rest) (tokens_from outside at (b ∷ rest))
unfolding LeavesLaid
token-laid mode at b rest opens is no_gap h =
    subst (AreLaid at code (b ∷ rest)) (sym (byte_begun outside at b rest (ap not no_gap)))
    (subst (λ m. AreLaid at code (b ∷ rest) (record { text = b ∷ run m rest; at = at } ∷ tokens_from m (at + 1) rest)) (sym opens) (
      [],
      drop (length (run mode rest)) rest,
      record {
        all = ap (λ r. b ∷ r) (sym (ap (λ r. r ++ drop (length (run mode rest)) rest) (run_front mode rest) ∙ take-append-drop (length (run mode rest)) rest));
        place = no_further at;
        behind = none;
        longest = subst (λ m. IsLongest (b ∷ run m rest) (drop (length (run m rest)) rest)) (sym is) (longest b rest);
      },
      moved code (further at (length (run mode rest))) refl refl h,
    ))

-- ---- every mode

-- from a place on all is laid out, by what stands open there
IsLaidFrom : Mode → ℕ → List ℕ → Type 0
IsLaidFrom outside at rest = AreLaid at code rest (tokens_from outside at rest)
IsLaidFrom in_word at rest = LeavesLaid in_word at rest
IsLaidFrom (in_text mark escaped) at rest = LeavesLaid (in_text mark escaped) at rest
IsLaidFrom in_line_comment at rest = AreLaid at line rest (tokens_from in_line_comment at rest)
IsLaidFrom opening at rest = (more : List ℕ) → rest ≡ 42 ∷ more → AreLaid (at + 1) block more (tokens_from opening at rest)
IsLaidFrom in_block_comment at rest = AreLaid at block rest (tokens_from in_block_comment at rest)
IsLaidFrom closing at rest = (more : List ℕ) → rest ≡ 47 ∷ more → AreLaid (at + 1) code more (tokens_from closing at rest)

-- none of four tests passes
none_of : (p q r s : Bool) → p ≡ false → q ≡ false → r ≡ false → s ≡ false → (p || q || r || s) ≡ false
none_of p q r s a b c d = rw (a, b, c, d) refl

-- white space opens nothing
white-opens : (b : ℕ) (rest : List ℕ) → is_white b ≡ true → opened b rest ≡ outside
white-opens b rest h = elim (cases_Bool (b == 32)) [
  | inl e ↦ subst (λ k. opened k rest ≡ outside) (sym (eqb-true b 32 e)) refl
  | inr space ↦ elim (cases_Bool (b == 9)) [
    | inl e ↦ subst (λ k. opened k rest ≡ outside) (sym (eqb-true b 9 e)) refl
    | inr tab ↦ elim (cases_Bool (b == 10)) [
      | inl e ↦ subst (λ k. opened k rest ≡ outside) (sym (eqb-true b 10 e)) refl
      | inr feed ↦ elim (cases_Bool (b == 13)) [
        | inl e ↦ subst (λ k. opened k rest ≡ outside) (sym (eqb-true b 13 e)) refl
        | inr return ↦ absurd (false≢true (sym (none_of (b == 32) (b == 9) (b == 10) (b == 13) space tab feed return) ∙ h))
      ]
    ]
  ]
]

-- a byte of the gap behind which nothing stands open
gap_byte : (at b : ℕ) (rest : List ℕ) (next : Mode) (inside : Inside) → begins_gap b rest ≡ true → opened b rest ≡ next
    → ((gap after : List ℕ) → gap ++ after ≡ rest → IsGap after inside gap → IsGap after code (b ∷ gap))
    → AreLaid (at + 1) inside rest (tokens_from next (at + 1) rest) → AreLaid at code (b ∷ rest) (tokens_from outside at (b ∷ rest))
gap_byte at b rest next inside gap opens more h =
    in_gap at (b ∷ []) code inside rest (tokens_from outside at (b ∷ rest)) more
    (subst (AreLaid (at + 1) inside rest) (sym (byte_passed outside next at b rest (ap not gap) opens)) h)

-- what a byte opens that begins no comment
no_comment : (b : ℕ) (rest : List ℕ) → begins (codes "/*") (b ∷ rest) ≡ false → begins (codes "//") (b ∷ rest) ≡ false → opened b rest ≡ begun_mode b
unfolding begun_mode
no_comment b rest star slash =
    ap (λ g. if g then opening else if begins (codes "//") (b ∷ rest) then in_line_comment else if is_word b then in_word else if is_mark b then in_text b false else outside) star
    ∙ ap (λ g. if g then in_line_comment else if is_word b then in_word else if is_mark b then in_text b false else outside) slash

-- behind the first byte of a token all is laid out
begun-laid : (b at : ℕ) (rest : List ℕ) → ((mode : Mode) (at : ℕ) → IsLaidFrom mode at rest) → LeavesLaid (begun_mode b) at rest
unfolding begun_mode IsLaidFrom
begun-laid b at rest more = by (is_word b) (is_mark b) where
  by : (word mark : Bool) → LeavesLaid (if word then in_word else if mark then in_text b false else outside) at rest
  by true mark = more in_word at
  by false true = more (in_text b false) at
  by false false = left_here outside at rest (none_runs rest) (more outside at)

-- ---- one byte more

-- one of four tests passes
first_of : (p q r s : Bool) → p ≡ true → (p || q || r || s) ≡ true
first_of p q r s h = rw h refl

second_of : (p q r s : Bool) → q ≡ true → (p || q || r || s) ≡ true
second_of p q r s h = elim p as (λ p. (p || q || r || s) ≡ true) [ true ↦ refl | false ↦ rw h refl ]

third_of : (p q r s : Bool) → r ≡ true → (p || q || r || s) ≡ true
third_of p q r s h = elim p as (λ p. (p || q || r || s) ≡ true) [ true ↦ refl | false ↦ elim q as (λ q. (false || q || r || s) ≡ true) [ true ↦ refl | false ↦ rw h refl ] ]

fourth_of : (p q r s : Bool) → p ≡ false → q ≡ false → r ≡ false → s ≡ true → (p || q || r || s) ≡ true
fourth_of p q r s a b c h = rw (a, b, c, h) refl

-- a backslash that joins two lines
joint-laid : (b at : ℕ) (rest : List ℕ) → is_joint (b ∷ rest) ≡ true → AreLaid (at + 1) code rest (tokens_from outside (at + 1) rest)
    → AreLaid at code (b ∷ rest) (tokens_from outside at (b ∷ rest))
joint-laid b at rest joins h =
    let both = and_parts (b == 92) (ends_line rest) joins in
    let is : b ≡ 92 = eqb-true b 92 both.0 in
    gap_byte at b rest outside code (second_of (is_white b) (is_joint (b ∷ rest)) (begins (codes "/*") (b ∷ rest)) (begins (codes "//") (b ∷ rest)) joins)
    (subst (λ k. opened k rest ≡ outside) (sym is) refl)
    (λ gap after e g. subst (λ k. IsGap after code (k ∷ gap)) (sym is) (joint gap (ap ends_line e ∙ both.1) g)) h

-- two bytes that begin a comment
block-begun : (b at : ℕ) (rest more : List ℕ) → begins (codes "/*") (b ∷ rest) ≡ true → b ∷ rest ≡ 47 ∷ 42 ∷ more → AreLaid (at + 1 + 1) block more (tokens_from opening (at + 1) rest)
    → AreLaid at code (b ∷ rest) (tokens_from outside at (b ∷ rest))
block-begun b at rest more star is h =
    let gap : begins_gap b rest ≡ true = third_of (is_white b) (is_joint (b ∷ rest)) (begins (codes "/*") (b ∷ rest)) (begins (codes "//") (b ∷ rest)) star in
    let opens : opened b rest ≡ opening = ap (λ g. if g then opening else if begins (codes "//") (b ∷ rest) then in_line_comment else if is_word b then in_word else if is_mark b then in_text b false else outside) star in
    let two : at + 1 + 1 ≡ at + 2 = omega arith in
    moved code refl (sym is) (sym (byte_passed outside opening at b rest (ap not gap) opens))
    (in_gap at (47 ∷ 42 ∷ []) code block more (tokens_from opening (at + 1) rest) (λ gap after e g. block_begins gap g) (moved block two refl refl h))

-- in code
code-laid : (b : ℕ) (rest : List ℕ) → ((mode : Mode) (at : ℕ) → IsLaidFrom mode at rest) → (at : ℕ) → AreLaid at code (b ∷ rest) (tokens_from outside at (b ∷ rest))
unfolding IsLaidFrom
code-laid b rest more at = elim (cases_Bool (is_white b)) [
  | inl blank ↦ gap_byte at b rest outside code (first_of (is_white b) (is_joint (b ∷ rest)) (begins (codes "/*") (b ∷ rest)) (begins (codes "//") (b ∷ rest)) blank)
      (white-opens b rest blank) (λ gap after e g. white b gap blank g) (more outside (at + 1))
  | inr dark ↦ elim (cases_Bool (is_joint (b ∷ rest))) [
    | inl joins ↦ joint-laid b at rest joins (more outside (at + 1))
    | inr apart ↦ elim (cases_Bool (begins (codes "/*") (b ∷ rest))) [
      | inl star ↦ let is = begins-is (codes "/*") (b ∷ rest) star in
          block-begun b at rest (drop 1 rest) star is (more opening (at + 1) (drop 1 rest) (ap (drop 1) is))
      | inr no_star ↦ elim (cases_Bool (begins (codes "//") (b ∷ rest))) [
        | inl slash ↦ gap_byte at b rest in_line_comment line
            (fourth_of (is_white b) (is_joint (b ∷ rest)) (begins (codes "/*") (b ∷ rest)) (begins (codes "//") (b ∷ rest)) dark apart no_star slash)
            (ap (λ g. if g then opening else if begins (codes "//") (b ∷ rest) then in_line_comment else if is_word b then in_word else if is_mark b then in_text b false else outside) no_star
            ∙ ap (λ g. if g then in_line_comment else if is_word b then in_word else if is_mark b then in_text b false else outside) slash)
            (λ gap after e g. line_begins b gap (ap (λ r. begins (codes "//") (b ∷ r)) e ∙ slash) g) (more in_line_comment (at + 1))
        | inr no_slash ↦ token-laid (begun_mode b) at b rest (no_comment b rest no_star no_slash) refl
            (none_of (is_white b) (is_joint (b ∷ rest)) (begins (codes "/*") (b ∷ rest)) (begins (codes "//") (b ∷ rest)) dark apart no_star no_slash)
            (begun-laid b (at + 1) rest more)
      ]
    ]
  ]
]

-- in a word
word-laid : (b : ℕ) (rest : List ℕ) → ((mode : Mode) (at : ℕ) → IsLaidFrom mode at rest) → (at : ℕ) → LeavesLaid in_word at (b ∷ rest)
unfolding IsLaidFrom
word-laid b rest more at = elim (cases_Bool (is_word b)) [
  | inl on ↦ left_later in_word in_word at b rest on (ap (λ w. if w then in_word else opened b rest) on) (more in_word (at + 1))
  | inr off ↦ left_here in_word at (b ∷ rest) (ap (λ g. if g then b ∷ run (mode_after in_word b rest) rest else []) off)
      (subst (AreLaid at code (b ∷ rest)) (sym (ap (λ w. (if not w && not (begins_gap b rest) then token_from at b rest ∷ [] else []) ++ tokens_from (if w then in_word else opened b rest) (at + 1) rest) off))
      (code-laid b rest more at))
]

-- in a text
text-laid : (mark : ℕ) (escaped : Bool) (b : ℕ) (rest : List ℕ) → ((mode : Mode) (at : ℕ) → IsLaidFrom mode at rest) → (at : ℕ) → LeavesLaid (in_text mark escaped) at (b ∷ rest)
unfolding IsLaidFrom
text-laid mark escaped b rest more at = elim (cases_Bool (ends_line (b ∷ rest))) [
  | inl ends ↦ left_here (in_text mark escaped) at (b ∷ rest) (ap (λ g. if not g then b ∷ run (mode_after (in_text mark escaped) b rest) rest else []) ends)
      (subst (AreLaid at code (b ∷ rest)) (sym (line_ended (in_text mark escaped) at (b ∷ rest) (λ c tail h. (refl, rw h refl)) ends)) (code-laid b rest more at))
  | inr on ↦ elim (cases_Bool ((b == mark) && not escaped)) [
    | inl closes ↦ left_later (in_text mark escaped) outside at b rest (ap not on)
        (ap (λ e. if e || ((b == mark) && not escaped) then outside else in_text mark ((b == 92) && not escaped)) on
        ∙ ap (λ c. if c then outside else in_text mark ((b == 92) && not escaped)) closes)
        (left_here outside (at + 1) rest (none_runs rest) (more outside (at + 1)))
    | inr stays ↦ left_later (in_text mark escaped) (in_text mark ((b == 92) && not escaped)) at b rest (ap not on)
        (ap (λ e. if e || ((b == mark) && not escaped) then outside else in_text mark ((b == 92) && not escaped)) on
        ∙ ap (λ c. if c then outside else in_text mark ((b == 92) && not escaped)) stays)
        (more (in_text mark ((b == 92) && not escaped)) (at + 1))
  ]
]

-- in a comment of a line
line-laid : (b : ℕ) (rest : List ℕ) → ((mode : Mode) (at : ℕ) → IsLaidFrom mode at rest) → (at : ℕ) → AreLaid at line (b ∷ rest) (tokens_from in_line_comment at (b ∷ rest))
unfolding IsLaidFrom
line-laid b rest more at = elim (cases_Bool (ends_line (b ∷ rest))) [
  | inl ends ↦ in_gap at [] line code (b ∷ rest) (tokens_from in_line_comment at (b ∷ rest)) (λ gap after e g. line_ends gap (ap ends_line e ∙ ends) g)
      (moved code (no_further at) refl (sym (line_ended in_line_comment at (b ∷ rest) (λ c tail h. (refl, rw h refl)) ends)) (code-laid b rest more at))
  | inr on ↦ in_gap at (b ∷ []) line line rest (tokens_from in_line_comment at (b ∷ rest)) (λ gap after e g. line_goes_on b gap (ap (λ r. ends_line (b ∷ r)) e ∙ on) g)
      (subst (AreLaid (at + 1) line rest) (sym (byte_passed in_line_comment in_line_comment at b rest refl (ap (λ e. if e then outside else in_line_comment) on))) (more in_line_comment (at + 1)))
]

-- two bytes that end a comment
block-ended : (b at : ℕ) (rest more : List ℕ) → begins (codes "*/") (b ∷ rest) ≡ true → b ∷ rest ≡ 42 ∷ 47 ∷ more → AreLaid (at + 1 + 1) code more (tokens_from closing (at + 1) rest)
    → AreLaid at block (b ∷ rest) (tokens_from in_block_comment at (b ∷ rest))
block-ended b at rest more ends is h =
    let two : at + 1 + 1 ≡ at + 2 = omega arith in
    moved block refl (sym is) (sym (byte_passed in_block_comment closing at b rest refl (ap (λ e. if e then closing else in_block_comment) ends)))
    (in_gap at (42 ∷ 47 ∷ []) block code more (tokens_from closing (at + 1) rest) (λ gap after e g. block_ends gap g) (moved code two refl refl h))

-- in a comment that two bytes end
block-laid : (b : ℕ) (rest : List ℕ) → ((mode : Mode) (at : ℕ) → IsLaidFrom mode at rest) → (at : ℕ) → AreLaid at block (b ∷ rest) (tokens_from in_block_comment at (b ∷ rest))
unfolding IsLaidFrom
block-laid b rest more at = elim (cases_Bool (begins (codes "*/") (b ∷ rest))) [
  | inl ends ↦ let is = begins-is (codes "*/") (b ∷ rest) ends in
      block-ended b at rest (drop 1 rest) ends is (more closing (at + 1) (drop 1 rest) (ap (drop 1) is))
  | inr on ↦ in_gap at (b ∷ []) block block rest (tokens_from in_block_comment at (b ∷ rest)) (λ gap after e g. block_goes_on b gap (ap (λ r. begins (codes "*/") (b ∷ r)) e ∙ on) g)
      (subst (AreLaid (at + 1) block rest) (sym (byte_passed in_block_comment in_block_comment at b rest refl (ap (λ e. if e then closing else in_block_comment) on))) (more in_block_comment (at + 1)))
]

byte-laid : (b : ℕ) (rest : List ℕ) → ((mode : Mode) (at : ℕ) → IsLaidFrom mode at rest) → (mode : Mode) (at : ℕ) → IsLaidFrom mode at (b ∷ rest)
unfolding IsLaidFrom
byte-laid b rest more outside at = code-laid b rest more at
byte-laid b rest more in_word at = word-laid b rest more at
byte-laid b rest more (in_text mark escaped) at = text-laid mark escaped b rest more at
byte-laid b rest more in_line_comment at = line-laid b rest more at
byte-laid b rest more opening at = λ tail is. moved block refl (ap (drop 1) is) refl (more in_block_comment (at + 1))
byte-laid b rest more in_block_comment at = block-laid b rest more at
byte-laid b rest more closing at = λ tail is. moved code refl (ap (drop 1) is) refl (more outside (at + 1))

end-laid : (mode : Mode) (at : ℕ) → IsLaidFrom mode at []
unfolding IsLaidFrom LeavesLaid
end-laid outside at = none
end-laid in_word at = none
end-laid (in_text mark escaped) at = none
end-laid in_line_comment at = source_ends line refl
end-laid opening at = λ more is. absurd (cc)
end-laid in_block_comment at = source_ends block refl
end-laid closing at = λ more is. absurd (cc)

all-laid : (rest : List ℕ) (mode : Mode) (at : ℕ) → IsLaidFrom mode at rest
all-laid [] mode at = end-laid mode at
all-laid (b ∷ rest) mode at = byte-laid b rest (all-laid rest) mode at

-- every source is its tokens and gaps alone
pub sources-are_laid : SourcesAreLaid
unfolding IsLaidFrom
sources-are_laid bytes = all-laid bytes outside 0
