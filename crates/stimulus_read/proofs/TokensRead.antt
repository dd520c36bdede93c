-- Lines of one token read as that token.
use Rattle.std.proofs.Common.{◌≡◌, ℕ, ◌+◌, ◌*◌, ◌^◌, ◌<◌, ◌≤◌, ◌&&◌, Bool, true, false, cond, not, List, [], ◌∷◌, ◌++◌, length, refl, sym, ◌∙◌, ap, subst, arith, rules, append_assoc, append-nil, pos}
use Rattle.std.specs.List.{list_all}
use Rattle.std.specs.Prelude.{decimal, fold, nat_lt, int_lt}
use Rattle.std.proofs.lemmas.Bool.Decides.{nat_tests}
use Rattle.capture_core.specs.Numerals.{is_digit, number}
use Rattle.capture_core.proofs.Numerals.{both}
use Rattle.vcd_header.specs.declared.signals.Signals.{Signals}
use Rattle.vcd_reader.specs.declared.token.Token.{Token}
use Rattle.vcd_reader.specs.Dumps.{after_text, after_token, reading_of}
use Rattle.vcd_reader.specs.Readings.{Reading, Body, changes}
use Rattle.vcd_reader.specs.Changes.{time_token, at_time, at_later}
use Rattle.vcd_reader.specs.Tokens.{none_at, with_byte, open_after, ended_by, ended_from, open_from, begun, last_open}
use Rattle.vcd_reader.specs.White.{is_white}
use Rattle.vcd_reader.specs.Laws.{is_dark}
use Rattle.vcd_reader.proofs.Pieces.{reading_of-append, open_from-append}
use Rattle.vcd_reader.proofs.Ends.{begun-some}
use Rattle.stimulus_files.proofs.Digits.{AreDigits, IsNumeralOf, of_decimal}

undark : (t : Bool) → not t ≡ true → t ≡ false
undark false h = refl
undark true h = absurd (search rules)

-- dark bytes go on with the open token
opened : (run : Token) (text : List ℕ) → list_all is_dark text ≡ true → (ended_from run text ≡ []) × (open_from run text ≡ record { text = run.text ++ text; at = run.at })
opened run [] h = (refl, ap (λ l. record { text = l; at = run.at }) (sym (append-nil run.text)))
opened run (x ∷ text) h =
    let b = both (is_dark x) (list_all is_dark text) h in
    let white : is_white x ≡ false = undark (is_white x) b.0 in
    let next : open_after run x ≡ with_byte run x = ap (λ t. cond t (Rattle.vcd_reader.specs.Tokens.after_white run) (with_byte run x)) white in
    let none : ended_by run x ≡ [] = ap (λ t. cond t (begun run) []) white in
    let r = opened (with_byte run x) text b.1 in (
      ap (λ l. l ++ ended_from (open_after run x) text) none ∙ ap (λ t. ended_from t text) next ∙ r.0,
      ap (λ t. open_from t text) next ∙ r.1 ∙ ap (λ l. record { text = l; at = run.at }) (append_assoc run.text (x ∷ []) text),
    )

-- a stream has led to a reading, and no token is open
pub record Reads (wanted : Signals) (bytes : List ℕ) (r : Reading) : Type 0 where
  pub reading : reading_of wanted bytes ≡ r
  pub at : ℕ
  pub fresh : last_open bytes ≡ none_at at

-- one token with white space after it
pub token_reads : (wanted : Signals) (bytes text : List ℕ) (b : ℕ) (r : Reading) → Reads wanted bytes r → 0 < length text → list_all is_dark text ≡ true → is_white b ≡ true
    → (at : ℕ) × Reads wanted (bytes ++ (text ++ b ∷ [])) (after_text wanted r text at)
token_reads wanted bytes text b r s some dark white =
    let run = none_at s.at in
    let o = opened run text dark in
    let whole : Token = record { text = text; at = s.at } in
    let tokens : ended_from run (text ++ b ∷ []) ≡ whole ∷ [] =
    Rattle.vcd_reader.proofs.Pieces.ended_from-append run text (b ∷ []) ∙ ap (λ l. l ++ ended_from (open_from run text) (b ∷ [])) o.0 ∙ ap (λ t. ended_from t (b ∷ [])) o.1
    ∙ ap (λ t. cond t (begun whole) [] ++ []) white ∙ append-nil (begun whole) ∙ begun-some whole (omega (arith, some)) in
    let fresh : open_from run (text ++ b ∷ []) ≡ none_at (s.at + length text + 1) =
    open_from-append run text (b ∷ []) ∙ ap (λ t. open_from t (b ∷ [])) o.1 ∙ ap (λ t. cond t (Rattle.vcd_reader.specs.Tokens.after_white whole) (with_byte whole b)) white in (
      s.at,
      record {
        reading = reading_of-append wanted bytes (text ++ b ∷ []) ∙ ap (λ t. fold (after_token wanted) (reading_of wanted bytes) (ended_from t (text ++ b ∷ []))) s.fresh ∙ ap (fold (after_token wanted) (reading_of wanted bytes)) tokens ∙ ap (λ k. after_token wanted k whole) s.reading;
        at = s.at + length text + 1;
        fresh = open_from-append (none_at 0) bytes (text ++ b ∷ []) ∙ ap (λ t. open_from t (text ++ b ∷ [])) s.fresh ∙ fresh;
      },
    )

-- ---- a line of a time

digit_is_dark : (c : ℕ) → is_digit c ≡ true → is_dark c ≡ true
digit_is_dark c h = let w : is_white c ≡ false = grind (arith, nat_tests) in ap not w

digits_are_dark : (xs : List ℕ) → AreDigits xs → list_all is_dark xs ≡ true
digits_are_dark [] h = refl
digits_are_dark (x ∷ xs) h = let b = both (is_digit x) (list_all is_digit xs) h in ap (λ t. t && list_all is_dark xs) (digit_is_dark x b.0) ∙ digits_are_dark xs b.1

time_is : (b : Body) (ds : List ℕ) (at n : ℕ) → IsNumeralOf n ds → b.scale ≡ 1 → time_token b ds at ≡ at_time b n at
time_is b [] at n d s = absurd (let k = d.some in omega (arith, k))
time_is b (x ∷ ds) at n d s =
    let value : number (x ∷ ds) * b.scale ≡ n = ap (λ k. number (x ∷ ds) * k) s ∙ (let e : number (x ∷ ds) * 1 ≡ number (x ∷ ds) = omega arith in e) ∙ d.value in
    ap (λ t. cond t (at_time b (number (x ∷ ds) * b.scale) at) (Rattle.vcd_reader.specs.Readings.bad b.closed at)) d.digits ∙ ap (λ k. at_time b k at) value

later_is : (b : Body) (n at : ℕ) → n ≤ 10 ^ 24 → int_lt b.now.time (pos n) ≡ true → int_lt (pos n) b.now.time ≡ false → at_time b n at ≡ changes (at_later b n)
later_is b n at h later not_before =
    let small : nat_lt (10 ^ 24) n ≡ false = Rattle.std.proofs.lemmas.Bool.le-ltb (10 ^ 24) n h in
    rw (small, not_before, later) refl

-- a later time opens a stamp
pub time_reads : (wanted : Signals) (bytes : List ℕ) (b : Body) (n : ℕ) → Reads wanted bytes (changes b) → b.scale ≡ 1 → n ≤ 10 ^ 24 → int_lt b.now.time (pos n) ≡ true → int_lt (pos n) b.now.time ≡ false
    → Reads wanted (bytes ++ (35 ∷ decimal n ++ 10 ∷ [])) (changes (at_later b n))
time_reads wanted bytes b n s scale h later not_before =
    let d = of_decimal n (omega (arith, h)) in
    let t = token_reads wanted bytes (35 ∷ decimal n) 10 (changes b) s (omega arith) (digits_are_dark (decimal n) d.digits) refl in
    subst (Reads wanted (bytes ++ (35 ∷ decimal n ++ 10 ∷ []))) (time_is b (decimal n) t.0 n d scale ∙ later_is b n t.0 h later not_before) t.1
