-- The tokens of bytes are exactly the longest runs without white space.
use Rattle.std.proofs.Common.{◌≡◌, ◌∙◌, ℕ, ◌+◌, ◌≤◌, Bool, true, false, ◌&&◌, cond, List, [], ◌∷◌, ◌++◌, length, get_or, drop, refl, sym, ap, subst, ◌⊎◌, inl, inr, append_assoc, append-nil, length-append, arith, rules}
use Rattle.std.specs.Prelude.{Contains, not}
use Rattle.std.specs.List.{list_all}
use Rattle.std.proofs.lemmas.List.Elements.{Contains-append_cases, Contains-append_left, Contains-append_right, Contains-push, Contains-push_cases}
use Rattle.std.proofs.lemmas.List.Folds.{list_all-append}
use Rattle.vcd_reader.specs.declared.token.Token.{Token}
use Rattle.vcd_reader.specs.Laws.{LastIsOpen, TokensAreRuns, is_dark, last_white}
use Rattle.vcd_reader.specs.Tokens.{begun, ended_from, none_at, open_from}
use Rattle.vcd_reader.specs.White.{is_white}

abbrev run_of : List ℕ → ℕ → Token
run_of text at = record { text = text; at = at }

both : (a b : Bool) → (a && b) ≡ true → (a ≡ true) × (b ≡ true)
both true b h = (refl, h)
both false b h = absurd (search rules)

undark : (t : Bool) → not t ≡ true → t ≡ false
undark false h = refl
undark true h = absurd (search rules)

dark_first : (x : ℕ) (xs : List ℕ) → list_all is_dark (x ∷ xs) ≡ true → is_white x ≡ false
dark_first x xs h = undark (is_white x) (both (is_dark x) (list_all is_dark xs) h).0

dark_rest : (x : ℕ) (xs : List ℕ) → list_all is_dark (x ∷ xs) ≡ true → list_all is_dark xs ≡ true
dark_rest x xs h = (both (is_dark x) (list_all is_dark xs) h).1

dark_more : (xs : List ℕ) (b : ℕ) → list_all is_dark xs ≡ true → is_white b ≡ false → list_all is_dark (xs ++ b ∷ []) ≡ true
dark_more xs b dark_xs dark_b = list_all-append is_dark xs (b ∷ []) ∙ ap (λ (t : Bool). t && (is_dark b && true)) dark_xs ∙ ap (λ (t : Bool). not t && true) dark_b

white_and_dark : (b : ℕ) → is_white b ≡ true → is_white b ≡ false → ⊥
white_and_dark b white dark = let clash : true ≡ false = sym white ∙ dark in search rules

-- bytes with white space among them are not dark
has_white : (xs : List ℕ) (b : ℕ) (rest : List ℕ) → is_white b ≡ true → list_all is_dark (xs ++ b ∷ rest) ≡ true → ⊥
has_white [] b rest white dark = white_and_dark b white (dark_first b rest dark)
has_white (x ∷ xs) b rest white dark = has_white xs b rest white (dark_rest x (xs ++ b ∷ rest) dark)

last_white-append : (before : Bool) (xs : List ℕ) (b : ℕ) (more : List ℕ) → last_white before (xs ++ b ∷ more) ≡ last_white (is_white b) more
last_white-append before [] b more = refl
last_white-append before (x ∷ xs) b more = last_white-append (is_white x) xs b more

same_first : (x y : ℕ) (xs ys : List ℕ) → x ∷ xs ≡ y ∷ ys → x ≡ y
same_first x y xs ys h = ap (λ (l : List ℕ). get_or l 0 0) h

same_rest : (x y : ℕ) (xs ys : List ℕ) → x ∷ xs ≡ y ∷ ys → xs ≡ ys
same_rest x y xs ys h = ap (λ (l : List ℕ). drop 1 l) h

-- ---- each token is a run

-- the token is a run of these bytes, of which the first are open
record IsRun (begun_with : List ℕ) (at : ℕ) (bytes : List ℕ) (t : Token) : Type 0 where
  front : List ℕ
  white : ℕ
  rest : List ℕ
  all : begun_with ++ bytes ≡ front ++ (t.text ++ white ∷ rest)
  place : t.at ≡ at + length front
  some : 1 ≤ length t.text
  dark : list_all is_dark t.text ≡ true
  before : last_white true front ≡ true
  after : is_white white ≡ true

-- white space ends the open token
ends_open : (xs : List ℕ) (at b : ℕ) (bytes : List ℕ) (t : Token) → list_all is_dark xs ≡ true → is_white b ≡ true → Contains (begun (run_of xs at)) t → IsRun xs at (b ∷ bytes) t
ends_open [] at b bytes t dark white (k, inside, is) = absurd (omega (arith, inside))
ends_open (x ∷ xs) at b bytes t dark white h = by (Contains-push_cases [] (run_of (x ∷ xs) at) t h)
  where
    by : Contains [] t ⊎ (run_of (x ∷ xs) at ≡ t) → IsRun (x ∷ xs) at (b ∷ bytes) t
    by (inl (k, inside, is)) = absurd (omega (arith, inside))
    by (inr same) = subst (λ (u : Token). IsRun (x ∷ xs) at (b ∷ bytes) u) same
        (record { front = []; white = b; rest = bytes; all = refl; place = omega arith; some = omega arith; dark = dark; before = refl; after = white })

-- the run stands behind white space
behind : (xs : List ℕ) (at b : ℕ) (bytes : List ℕ) (t : Token) → is_white b ≡ true → IsRun [] (at + length xs + 1) bytes t → IsRun xs at (b ∷ bytes) t
behind xs at b bytes t white r = record {
  front = xs ++ b ∷ r.front;
  white = r.white;
  rest = r.rest;
  all = ap (λ (l : List ℕ). xs ++ b ∷ l) r.all ∙ sym (append_assoc xs (b ∷ r.front) (t.text ++ r.white ∷ r.rest));
  place = omega (arith, r.place, length-append xs (b ∷ r.front));
  some = r.some;
  dark = r.dark;
  before = last_white-append true xs b r.front ∙ ap (λ (w : Bool). last_white w r.front) white ∙ r.before;
  after = r.after;
}

-- a byte of no white space joins the run
joins : (xs : List ℕ) (at b : ℕ) (bytes : List ℕ) (t : Token) → IsRun (xs ++ b ∷ []) at bytes t → IsRun xs at (b ∷ bytes) t
joins xs at b bytes t r =
    record { front = r.front; white = r.white; rest = r.rest; all = sym (append_assoc xs (b ∷ []) bytes) ∙ r.all; place = r.place; some = r.some; dark = r.dark; before = r.before; after = r.after }

token_run : (xs : List ℕ) (at : ℕ) (bytes : List ℕ) (t : Token) → list_all is_dark xs ≡ true → Contains (ended_from (run_of xs at) bytes) t → IsRun xs at bytes t
token_run xs at [] t dark (k, inside, is) = absurd (omega (arith, inside))
token_run xs at (b ∷ bytes) t dark h =
    by (is_white b) refl h (token_run [] (at + length xs + 1) bytes t refl) (λ dark_b. token_run (xs ++ b ∷ []) at bytes t (dark_more xs b dark dark_b))
  where
    on : is_white b ≡ true → (Contains (ended_from (none_at (at + length xs + 1)) bytes) t → IsRun [] (at + length xs + 1) bytes t)
        → Contains (begun (run_of xs at)) t ⊎ Contains (ended_from (none_at (at + length xs + 1)) bytes) t → IsRun xs at (b ∷ bytes) t
    on white after (inl ended) = ends_open xs at b bytes t dark white ended
    on white after (inr later) = behind xs at b bytes t white (after later)

    by : (w : Bool) → is_white b ≡ w → Contains (cond w (begun (run_of xs at)) [] ++ ended_from (cond w (none_at (at + length xs + 1)) (run_of (xs ++ b ∷ []) at)) bytes) t
        → (Contains (ended_from (none_at (at + length xs + 1)) bytes) t → IsRun [] (at + length xs + 1) bytes t)
        → (is_white b ≡ false → Contains (ended_from (run_of (xs ++ b ∷ []) at) bytes) t → IsRun (xs ++ b ∷ []) at bytes t) → IsRun xs at (b ∷ bytes) t
    by true white h after more = on white after (Contains-append_cases (begun (run_of xs at)) (ended_from (none_at (at + length xs + 1)) bytes) t h)
    by false dark_b h after more = joins xs at b bytes t (more dark_b h)

-- ---- each run is a token

-- two dark runs before white space are one
same_run : (xs ys : List ℕ) (b c : ℕ) (bs cs : List ℕ) → list_all is_dark xs ≡ true → list_all is_dark ys ≡ true → is_white b ≡ true → is_white c ≡ true
    → xs ++ b ∷ bs ≡ ys ++ c ∷ cs → xs ≡ ys
same_run [] [] b c bs cs dark_xs dark_ys white_b white_c h = refl
same_run [] (y ∷ ys) b c bs cs dark_xs dark_ys white_b white_c h =
    absurd (white_and_dark b white_b (ap is_white (same_first b y bs (ys ++ c ∷ cs) h) ∙ dark_first y ys dark_ys))
same_run (x ∷ xs) [] b c bs cs dark_xs dark_ys white_b white_c h =
    absurd (white_and_dark x (ap is_white (same_first x c (xs ++ b ∷ bs) cs h) ∙ white_c) (dark_first x xs dark_xs))
same_run (x ∷ xs) (y ∷ ys) b c bs cs dark_xs dark_ys white_b white_c h =
    let firsts = same_first x y (xs ++ b ∷ bs) (ys ++ c ∷ cs) h in
    let rests = same_run xs ys b c bs cs (dark_rest x xs dark_xs) (dark_rest y ys dark_ys) white_b white_c (same_rest x y (xs ++ b ∷ bs) (ys ++ c ∷ cs) h) in
    ap (λ (z : ℕ). z ∷ xs) firsts ∙ ap (λ (l : List ℕ). y ∷ l) rests

-- a front that ends in white space goes beyond a dark run
record GoesBeyond (xs : List ℕ) (b : ℕ) (bs front after : List ℕ) : Type 0 where
  past : List ℕ
  left : bs ≡ past ++ after
  all : front ≡ xs ++ b ∷ past
  before : last_white true past ≡ true

goes_beyond : (xs : List ℕ) (b : ℕ) (bs : List ℕ) (d : ℕ) (front after : List ℕ) → list_all is_dark xs ≡ true → is_white b ≡ true → last_white (is_white d) front ≡ true
    → xs ++ b ∷ bs ≡ d ∷ front ++ after → GoesBeyond xs b bs (d ∷ front) after
goes_beyond [] b bs d front after dark white before h =
    let first = same_first b d bs (front ++ after) h in
    record {
      past = front;
      left = same_rest b d bs (front ++ after) h;
      all = ap (λ (z : ℕ). z ∷ front) (sym first);
      before = ap (λ (w : Bool). last_white w front) (sym white ∙ ap is_white first) ∙ before;
    }
goes_beyond (x ∷ xs) b bs d [] after dark white before h =
    absurd (white_and_dark d before (ap is_white (sym (same_first x d (xs ++ b ∷ bs) after h)) ∙ dark_first x xs dark))
goes_beyond (x ∷ xs) b bs d (e ∷ front) after dark white before h =
    let first = same_first x d (xs ++ b ∷ bs) (e ∷ front ++ after) h in
    let g = goes_beyond xs b bs e front after (dark_rest x xs dark) white before (same_rest x d (xs ++ b ∷ bs) (e ∷ front ++ after) h) in
    record {
      past = g.past;
      left = g.left;
      all = ap (λ (z : ℕ). z ∷ e ∷ front) (sym first) ∙ ap (λ (l : List ℕ). x ∷ l) g.all;
      before = g.before;
    }

begun_some : (text : List ℕ) (at : ℕ) → 1 ≤ length text → begun (run_of text at) ≡ run_of text at ∷ []
begun_some [] at some = absurd (omega arith)
begun_some (b ∷ bytes) at some = refl

-- the run is among the tokens of these bytes, of which the first are open
abbrev IsFound : List ℕ → ℕ → List ℕ → List ℕ → ℕ → List ℕ → Type 0
IsFound xs at bytes text w rest =
    (front : List ℕ) → xs ++ bytes ≡ front ++ (text ++ w ∷ rest) → last_white true front ≡ true → Contains (ended_from (run_of xs at) bytes) (run_of text (at + length front))

found_here : (xs : List ℕ) (at b : ℕ) (bytes text : List ℕ) (w : ℕ) (rest : List ℕ) → list_all is_dark xs ≡ true → is_white b ≡ true → 1 ≤ length text
    → list_all is_dark text ≡ true → is_white w ≡ true → xs ++ b ∷ bytes ≡ text ++ w ∷ rest
    → Contains (begun (run_of xs at) ++ ended_from (none_at (at + length xs + 1)) bytes) (run_of text (at + 0))
found_here xs at b bytes text w rest dark white_b some dark_text white all =
    let same : xs ≡ text = same_run xs text b w bytes rest dark dark_text white_b white all in
    let place : at ≡ at + 0 = omega arith in
    let one : begun (run_of xs at) ≡ run_of text (at + 0) ∷ [] = ap (λ (l : List ℕ). begun (run_of l at)) same ∙ begun_some text at some ∙ ap (λ (n : ℕ). run_of text n ∷ []) place in
    Contains-append_left (begun (run_of xs at)) (ended_from (none_at (at + length xs + 1)) bytes) (run_of text (at + 0)) (rw one (Contains-push [] (run_of text (at + 0))))

found_later : (xs : List ℕ) (at b : ℕ) (bytes : List ℕ) (d : ℕ) (front text : List ℕ) (w : ℕ) (rest : List ℕ) → list_all is_dark xs ≡ true → is_white b ≡ true
    → last_white true (d ∷ front) ≡ true → xs ++ b ∷ bytes ≡ d ∷ front ++ (text ++ w ∷ rest) → IsFound [] (at + length xs + 1) bytes text w rest
    → Contains (begun (run_of xs at) ++ ended_from (none_at (at + length xs + 1)) bytes) (run_of text (at + length (d ∷ front)))
found_later xs at b bytes d front text w rest dark white_b before all after =
    let g = goes_beyond xs b bytes d front (text ++ w ∷ rest) dark white_b before all in
    let place : at + length xs + 1 + length g.past ≡ at + length (d ∷ front) = omega (arith, ap (λ (l : List ℕ). length l) g.all, length-append xs (b ∷ g.past)) in
    Contains-append_right (begun (run_of xs at)) (ended_from (none_at (at + length xs + 1)) bytes) (run_of text (at + length (d ∷ front)))
    (subst (λ (n : ℕ). Contains (ended_from (none_at (at + length xs + 1)) bytes) (run_of text n)) place (after g.past g.left g.before))

run_token : (xs : List ℕ) (at : ℕ) (bytes text : List ℕ) (w : ℕ) (rest : List ℕ) → list_all is_dark xs ≡ true → 1 ≤ length text → list_all is_dark text ≡ true
    → is_white w ≡ true → IsFound xs at bytes text w rest
run_token xs at [] text w rest dark some dark_text white = λ front all before.
    absurd (has_white (front ++ text) w rest white (ap (list_all is_dark) (append_assoc front text (w ∷ rest) ∙ sym all ∙ append-nil xs) ∙ dark))
run_token xs at (b ∷ bytes) text w rest dark some dark_text white = λ front all before.
    by (is_white b) refl front all before (run_token [] (at + length xs + 1) bytes text w rest refl some dark_text white)
    (λ dark_b. run_token (xs ++ b ∷ []) at bytes text w rest (dark_more xs b dark dark_b) some dark_text white)
  where
    by : (t : Bool) → is_white b ≡ t → (front : List ℕ) → xs ++ b ∷ bytes ≡ front ++ (text ++ w ∷ rest) → last_white true front ≡ true
        → IsFound [] (at + length xs + 1) bytes text w rest → (is_white b ≡ false → IsFound (xs ++ b ∷ []) at bytes text w rest)
        → Contains (cond t (begun (run_of xs at)) [] ++ ended_from (cond t (none_at (at + length xs + 1)) (run_of (xs ++ b ∷ []) at)) bytes) (run_of text (at + length front))
    by false dark_b front all before after more = more dark_b front (append_assoc xs (b ∷ []) bytes ∙ all) before
    by true white_b [] all before after more = found_here xs at b bytes text w rest dark white_b some dark_text white all
    by true white_b (d ∷ front) all before after more = found_later xs at b bytes d front text w rest dark white_b before all after

pub are_runs : TokensAreRuns
are_runs bytes t = (
  λ h. let r = token_run [] 0 bytes t refl h in
      record { front = r.front; white = r.white; rest = r.rest; all = r.all; at = omega (arith, r.place); some = r.some; dark = r.dark; before = r.before; after = r.after },
  λ r. let place : 0 + length r.front ≡ t.at = omega (arith, r.at) in
      subst (λ (n : ℕ). Contains (ended_from (none_at 0) bytes) (run_of t.text n)) place (run_token [] 0 bytes t.text r.white r.rest refl r.some r.dark r.after r.front r.all r.before),
)

-- ---- the open token

record IsLeft (begun_with : List ℕ) (at : ℕ) (bytes : List ℕ) (t : Token) : Type 0 where
  front : List ℕ
  all : begun_with ++ bytes ≡ front ++ t.text
  place : t.at ≡ at + length front
  dark : list_all is_dark t.text ≡ true
  before : last_white true front ≡ true

left_behind : (xs : List ℕ) (at b : ℕ) (bytes : List ℕ) (t : Token) → is_white b ≡ true → IsLeft [] (at + length xs + 1) bytes t → IsLeft xs at (b ∷ bytes) t
left_behind xs at b bytes t white r = record {
  front = xs ++ b ∷ r.front;
  all = ap (λ (l : List ℕ). xs ++ b ∷ l) r.all ∙ sym (append_assoc xs (b ∷ r.front) t.text);
  place = omega (arith, r.place, length-append xs (b ∷ r.front));
  dark = r.dark;
  before = last_white-append true xs b r.front ∙ ap (λ (w : Bool). last_white w r.front) white ∙ r.before;
}

left_joins : (xs : List ℕ) (at b : ℕ) (bytes : List ℕ) (t : Token) → IsLeft (xs ++ b ∷ []) at bytes t → IsLeft xs at (b ∷ bytes) t
left_joins xs at b bytes t r = record { front = r.front; all = sym (append_assoc xs (b ∷ []) bytes) ∙ r.all; place = r.place; dark = r.dark; before = r.before }

left_open : (xs : List ℕ) (at : ℕ) (bytes : List ℕ) → list_all is_dark xs ≡ true → IsLeft xs at bytes (open_from (run_of xs at) bytes)
left_open xs at [] dark = record { front = []; all = append-nil xs; place = omega arith; dark = dark; before = refl }
left_open xs at (b ∷ bytes) dark =
    by (is_white b) refl (left_open [] (at + length xs + 1) bytes refl) (λ dark_b. left_open (xs ++ b ∷ []) at bytes (dark_more xs b dark dark_b))
  where
    by : (w : Bool) → is_white b ≡ w → IsLeft [] (at + length xs + 1) bytes (open_from (none_at (at + length xs + 1)) bytes)
        → (is_white b ≡ false → IsLeft (xs ++ b ∷ []) at bytes (open_from (run_of (xs ++ b ∷ []) at) bytes))
        → IsLeft xs at (b ∷ bytes) (open_from (cond w (none_at (at + length xs + 1)) (run_of (xs ++ b ∷ []) at)) bytes)
    by true white after more = left_behind xs at b bytes _ white after
    by false dark_b after more = left_joins xs at b bytes _ (more dark_b)

pub last_is_open : LastIsOpen
last_is_open bytes =
    let r = left_open [] 0 bytes refl in
    record { front = r.front; all = r.all; at = omega (arith, r.place); dark = r.dark; before = r.before }
