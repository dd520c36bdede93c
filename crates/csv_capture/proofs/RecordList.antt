-- The records that were reached are the front of all the records of a text.
use Rattle.std.proofs.Common.{◌≡◌, ◌≤◌, ℕ, zero, suc, ◌+◌, ◌-◌, List, [], ◌∷◌, ◌++◌, length, Some, None, Bool, true, false, cond, ◌==◌, ◌&&◌, refl, ap, ◌∙◌, arith}
use Rattle.std.proofs.lemmas.List.{append-nil}
use Rattle.csv.specs.Machine.{Read, ends_at_end, fields_after, field_after, is_end, next_record, step, start_record, start_field, in_field, after_end, ends_with, is_byte, carriage_return, line_feed}
use Rattle.csv.specs.Reading.{Reached, records_from, records}
use Rattle.csv.specs.declared.parser.Config.{Config}
use Rattle.csv.specs.declared.parser.Terminator.{Terminator}
use Rattle.csv.specs.declared.parser.Terminator.TheVariants as term
use Rattle.csv.specs.declared.parser.State.{State}
use Rattle.csv.specs.declared.parser.State.TheVariants as st
use Rattle.csv.specs.declared.parser.Action.{Action}

-- a step that ends a record goes to a state in which the end of the text ends nothing
abbrev Fine : State × Action → Type 0
Fine q = is_end q.1 ≡ true → ends_at_end q.0 ≡ false

either : (b : Bool) (x y : State × Action) → Fine x → Fine y → Fine (cond b x y)
either true x y f g = f
either false x y f g = g

after_end-fine : (t : Terminator) (c : ℕ) → ends_at_end (after_end t c) ≡ false
after_end-fine term.CRLF c = by (c == carriage_return)
  where
    by : (b : Bool) → ends_at_end (cond b st.AfterCr st.StartRecord) ≡ false
    by true = refl
    by false = refl
after_end-fine (term.Any t) c = refl

in_field-fine : (cfg : Config) (c : ℕ) → Fine (in_field cfg c)
in_field-fine cfg c =
    either (c == cfg.delimiter) _ _ (λ e. cc e)
    (either (ends_with cfg.terminator c) _ _ (λ e. after_end-fine cfg.terminator c) (λ e. cc e))

start_field-fine : (cfg : Config) (c : ℕ) → Fine (start_field cfg c)
start_field-fine cfg c = either (cfg.quoting && (c == cfg.quote)) _ _ (λ e. cc e) (in_field-fine cfg c)

start_record-fine : (cfg : Config) (c : ℕ) → Fine (start_record cfg c)
start_record-fine cfg c =
    either (ends_with cfg.terminator c) _ _ (λ e. cc e)
    (either (is_byte cfg.comment c) _ _ (λ e. cc e) (start_field-fine cfg c))

step-fine : (cfg : Config) (s : State) (c : ℕ) → Fine (step cfg s c)
step-fine cfg st.StartRecord c = start_record-fine cfg c
step-fine cfg st.StartField c = start_field-fine cfg c
step-fine cfg st.InField c = in_field-fine cfg c
step-fine cfg st.InQuoted c =
    either (cfg.quoting && (c == cfg.quote)) _ _ (λ e. cc e)
    (either (cfg.quoting && is_byte cfg.escape c) _ _ (λ e. cc e) (λ e. cc e))
step-fine cfg st.InEscape c = λ e. cc e
step-fine cfg st.AfterQuote c =
    either (cfg.quoting && cfg.double_quote && (c == cfg.quote)) _ _ (λ e. cc e) (in_field-fine cfg c)
step-fine cfg st.InComment c = either (c == line_feed) _ _ (λ e. cc e) (λ e. cc e)
step-fine cfg st.AfterCr c = either (c == line_feed) _ _ (λ e. cc e) (start_record-fine cfg c)

-- one where the end of the text would end a record
abbrev due : State → ℕ
due s = cond (ends_at_end s) 1 0

due-one : (s : State) → due s ≤ 1
due-one s = by (ends_at_end s)
  where
    by : (b : Bool) → cond b 1 0 ≤ 1
    by true = omega arith
    by false = omega arith

-- A record takes a byte of the text, or the end that it was due.
record Takes (s : State) (xs : List ℕ) (p : Read) : Type 0 where
  between : ends_at_end p.1 ≡ false
  shorter : length p.2 + 1 ≤ length xs + due s

taken : (cfg : Config) (s : State) (fields : List (List ℕ)) (field xs : List ℕ) (p : Read) → next_record cfg s fields field xs ≡ Some p → Takes s xs p
unfolding next_record
taken cfg s fields field [] p e = by (ends_at_end s) refl
  where
    by : (b : Bool) → ends_at_end s ≡ b → Takes s [] p
    by true h =
        let same : (fields ++ field ∷ [], st.StartRecord, []) ≡ p = cc (rw h at e) in
        rw (← same) (record { between = refl; shorter = rw h (omega arith) })
    by false h = cc (rw h at e)
taken cfg s fields field (c ∷ rest) p e = by (is_end (step cfg s c).1) refl (λ h. taken cfg (step cfg s c).0 _ _ rest p h)
  where
    by : (b : Bool) → is_end (step cfg s c).1 ≡ b
        → (next_record cfg (step cfg s c).0 (fields_after (step cfg s c).1 fields field) (field_after (step cfg s c).1 c field) rest ≡ Some p → Takes (step cfg s c).0 rest p)
        → Takes s (c ∷ rest) p
    by true h more =
        let same : (fields_after (step cfg s c).1 fields field, (step cfg s c).0, rest) ≡ p = cc (rw h at e) in
        rw (← same) (record { between = step-fine cfg s c h; shorter = omega arith })
    by false h more =
        let t = more (rw h at e) in
        record { between = t.between; shorter = omega (arith, t.shorter, due-one (step cfg s c).0) }

-- There are no more records than bytes.
pub reached-few : (cfg : Config) (s s2 : State) (xs ys : List ℕ) (rows : List (List (List ℕ))) → Reached cfg s xs rows s2 ys → ends_at_end s ≡ false → length rows + length ys ≤ length xs
unfolding Reached
reached-few cfg s s2 xs ys [] h e = omega (arith, ap length h.1)
reached-few cfg s s2 xs ys (r ∷ rows) h e =
    let t = taken cfg s [] [] xs h.0 h.1 in
    let more = reached-few cfg h.0.1 s2 h.0.2 ys rows h.3 t.between in
    let none : due s ≡ 0 = rw e refl in
    omega (arith, t.shorter, more, none)

-- with room for n more records, the records are those that were reached and n more at most
records-reached : (cfg : Config) (n : ℕ) (s s2 : State) (xs ys : List ℕ) (rows : List (List (List ℕ))) → Reached cfg s xs rows s2 ys
    → records_from cfg (length rows + n) s xs ≡ rows ++ records_from cfg n s2 ys
unfolding Reached records_from
records-reached cfg n s s2 xs ys [] h = let e : 0 + n ≡ n = omega arith in rw (e, h.0, h.1) refl
records-reached cfg n s s2 xs ys (r ∷ rows) h =
    let e : suc (length rows) + n ≡ suc (length rows + n) = omega arith in
    rw (e, h.1) (rw (← h.2) (ap (λ more. r ∷ more) (records-reached cfg n h.0.1 s2 h.0.2 ys rows h.3)))

records_from-none : (cfg : Config) (n : ℕ) (s : State) (xs : List ℕ) → next_record cfg s [] [] xs ≡ None → records_from cfg n s xs ≡ []
unfolding records_from
records_from-none cfg zero s xs h = refl
records_from-none cfg (suc n) s xs h = rw h refl

-- what was read so far is the front of all the records of a text
pub record ReadSoFar (cfg : Config) (xs : List ℕ) (s : State) (ys : List ℕ) (rows : List (List (List ℕ))) : Type 0 where
  pub rest : List (List (List ℕ))
  pub all : records cfg xs ≡ rows ++ rest
  pub ended : next_record cfg s [] [] ys ≡ None → records cfg xs ≡ rows

pub read_so_far : (cfg : Config) (xs ys : List ℕ) (s : State) (rows : List (List (List ℕ))) → Reached cfg st.StartRecord xs rows s ys → ReadSoFar cfg xs s ys rows
read_so_far cfg xs ys s rows h =
    let n : ℕ = length xs + 1 - length rows in
    let few = reached-few cfg st.StartRecord s xs ys rows h refl in
    let e : length xs + 1 ≡ length rows + n = omega arith in
    let all : records cfg xs ≡ rows ++ records_from cfg n s ys = ap (λ m. records_from cfg m st.StartRecord xs) e ∙ records-reached cfg n st.StartRecord s xs ys rows h in
    record {
      rest = records_from cfg n s ys;
      all = all;
      ended = λ none. all ∙ ap (λ more. rows ++ more) (records_from-none cfg n s ys none) ∙ append-nil rows;
    }
