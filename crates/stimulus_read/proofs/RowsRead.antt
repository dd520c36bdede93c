-- A row of a stimulus' CSV file reads as its fields.
use Rattle.std.proofs.Common.{◌≡◌, ℕ, zero, suc, ◌+◌, ◌/◌, ◌%◌, ◌^◌, ◌<◌, ◌≤◌, ◌||◌, ◌&&◌, ◌==◌, Bool, true, false, cond, List, [], ◌∷◌, ◌++◌, length, refl, sym, ◌∙◌, ap, subst, arith, append_assoc, append-nil, ℤ}
use Rattle.std.specs.Prelude.{Option, Some, None, decimal, codes, unsigned_abs}
use Rattle.std.specs.List.{list_all}
use Rattle.std.proofs.lemmas.Bool.Decides.{nat_tests}
use Rattle.csv.specs.Machine.{Read, next_record, step, is_end, fields_after, field_after}
use Rattle.csv.specs.Reading.{default_config}
use Rattle.csv.specs.declared.parser.State.TheVariants as st
use Rattle.csv.specs.declared.parser.State.{State}
use Rattle.csv.specs.declared.parser.Action.TheVariants as act
use Rattle.csv.specs.declared.parser.Action.{Action}
use Rattle.capture_core.specs.declared.capture.Given.{Given}
use Rattle.capture_core.specs.Numerals.{is_digit}
use Rattle.capture_core.proofs.Numerals.{both}
use Rattle.stimulus_files.specs.Files.{field_text, level_digit, row_text, seconds_text, last_digits, with_field}
use Rattle.stimulus_read.specs.ReadBack.{RowsReadBack}
use Rattle.stimulus_files.proofs.Digits.{AreDigits, of_decimal, of_last_digits}

-- a digit or a point
abbrev is_plain : ℕ → Bool
is_plain b = is_digit b || (b == 46)

copied : (b : ℕ) → is_plain b ≡ true → step default_config st.InField b ≡ (st.InField, act.Copy)
copied b h =
    let comma : (b == 44) ≡ false = grind (arith, nat_tests) in
    let return : (b == 13) ≡ false = grind (arith, nat_tests) in
    let feed : (b == 10) ≡ false = grind (arith, nat_tests) in
    rw (comma, return, feed) refl

begun : (b : ℕ) → is_plain b ≡ true → step default_config st.StartRecord b ≡ (st.InField, act.Copy)
begun b h =
    let comma : (b == 44) ≡ false = grind (arith, nat_tests) in
    let return : (b == 13) ≡ false = grind (arith, nat_tests) in
    let feed : (b == 10) ≡ false = grind (arith, nat_tests) in
    let quote : (b == 34) ≡ false = grind (arith, nat_tests) in
    rw (comma, return, feed, quote) refl

-- what the machine does after a step
abbrev after : List (List ℕ) → List ℕ → ℕ → List ℕ → State × Action → Option Read
after fields field c rest p = cond (is_end p.1) (Some (fields_after p.1 fields field, p.0, rest)) (next_record default_config p.0 (fields_after p.1 fields field) (field_after p.1 c field) rest)

one_step : (s : State) (fields : List (List ℕ)) (field : List ℕ) (c : ℕ) (rest : List ℕ) → next_record default_config s fields field (c ∷ rest) ≡ after fields field c rest (step default_config s c)
unfolding next_record
one_step s fields field c rest = refl

plain_run : (fields : List (List ℕ)) (field xs tail : List ℕ) → list_all is_plain xs ≡ true → next_record default_config st.InField fields field (xs ++ tail) ≡ next_record default_config st.InField fields (field ++ xs) tail
plain_run fields field [] tail h = ap (λ l. next_record default_config st.InField fields l tail) (sym (append-nil field))
plain_run fields field (x ∷ xs) tail h =
    let b = both (is_plain x) (list_all is_plain xs) h in
    one_step st.InField fields field x (xs ++ tail) ∙ ap (after fields field x (xs ++ tail)) (copied x b.0) ∙ plain_run fields (field ++ x ∷ []) xs tail b.1
    ∙ ap (λ l. next_record default_config st.InField fields l tail) (append_assoc field (x ∷ []) xs)

first_run : (x : ℕ) (xs tail : List ℕ) → is_plain x ≡ true → list_all is_plain xs ≡ true → next_record default_config st.StartRecord [] [] (x ∷ xs ++ tail) ≡ next_record default_config st.InField [] (x ∷ xs) tail
first_run x xs tail h k = one_step st.StartRecord [] [] x (xs ++ tail) ∙ ap (after [] [] x (xs ++ tail)) (begun x h) ∙ plain_run [] (x ∷ []) xs tail k

-- a field of a level
level_run : (fields : List (List ℕ)) (field : List ℕ) (l : Bool) (tail : List ℕ) → next_record default_config st.InField fields field (44 ∷ level_digit l ∷ tail) ≡ next_record default_config st.InField (fields ++ field ∷ []) (level_digit l ∷ []) tail
unfolding next_record
level_run fields field true tail = refl
level_run fields field false tail = refl

line_end : (fields : List (List ℕ)) (field tail : List ℕ) → next_record default_config st.InField fields field (10 ∷ tail) ≡ Some (fields ++ field ∷ [], st.StartRecord, tail)
unfolding next_record
line_end fields field tail = refl

abbrev begin_fields : List (List ℕ) → List ℕ → List (List ℕ)
begin_fields fs f = fs ++ f ∷ []

-- a field, where there is one: what stands before it is complete
field_run : (o : Option Bool) (fields : List (List ℕ)) (field tail : List ℕ)
    → (fs : List (List ℕ)) × (f : List ℕ) × (next_record default_config st.InField fields field (field_text o ++ tail) ≡ next_record default_config st.InField fs f tail) × (fs ++ f ∷ [] ≡ with_field o (fields ++ field ∷ []))
field_run None fields field tail = (fields, field, refl, refl)
field_run (Some l) fields field tail = (fields ++ field ∷ [], level_digit l ∷ [], level_run fields field l tail, refl)

levels_run : (g : Given) (field tail : List ℕ) → next_record default_config st.InField [] field (field_text g.crank ++ (field_text g.cam1 ++ (field_text g.cam2 ++ 10 ∷ tail)))
    ≡ Some (with_field g.cam2 (with_field g.cam1 (with_field g.crank (field ∷ []))), st.StartRecord, tail)
levels_run g field tail =
    let a = field_run g.crank [] field (field_text g.cam1 ++ (field_text g.cam2 ++ 10 ∷ tail)) in
    let b = field_run g.cam1 a.0 a.1 (field_text g.cam2 ++ 10 ∷ tail) in
    let c = field_run g.cam2 b.0 b.1 (10 ∷ tail) in
    let all : c.0 ++ c.1 ∷ [] ≡ with_field g.cam2 (with_field g.cam1 (with_field g.crank (field ∷ []))) = c.3 ∙ ap (with_field g.cam2) (b.3 ∙ ap (with_field g.cam1) a.3) in
    a.2 ∙ b.2 ∙ c.2 ∙ line_end c.0 c.1 tail ∙ ap (λ l. Some (l, st.StartRecord, tail)) all

-- the text of a time is plain
digit_plain : (b : ℕ) → is_digit b ≡ true → is_plain b ≡ true
digit_plain b h = ap (λ t. t || (b == 46)) h

digits_plain : (xs : List ℕ) → AreDigits xs → list_all is_plain xs ≡ true
digits_plain [] h = refl
digits_plain (x ∷ xs) h = let b = both (is_digit x) (list_all is_digit xs) h in ap (λ t. t && list_all is_plain xs) (digit_plain x b.0) ∙ digits_plain xs b.1

point_plain : (xs ys : List ℕ) → AreDigits xs → AreDigits ys → list_all is_plain (xs ++ 46 ∷ ys) ≡ true
point_plain [] ys h k = digits_plain ys k
point_plain (x ∷ xs) ys h k = let b = both (is_digit x) (list_all is_digit xs) h in ap (λ t. t && list_all is_plain (xs ++ 46 ∷ ys)) (digit_plain x b.0) ∙ point_plain xs ys b.1 k

some_run : (xs tail : List ℕ) → 0 < length xs → list_all is_plain xs ≡ true → next_record default_config st.StartRecord [] [] (xs ++ tail) ≡ next_record default_config st.InField [] xs tail
some_run [] tail s h = absurd (omega (arith, s))
some_run (x ∷ xs) tail s h = let b = both (is_plain x) (list_all is_plain xs) h in first_run x xs tail b.0 b.1

pub seconds_run : (t : ℕ) (tail : List ℕ) → t ≤ 10 ^ 24 → next_record default_config st.StartRecord [] [] (seconds_text t ++ tail) ≡ next_record default_config st.InField [] (seconds_text t) tail
seconds_run t tail h =
    let w = of_decimal (t / 10 ^ 15) (omega (arith, h)) in
    let f = of_last_digits 15 (t % 10 ^ 15) (omega arith) in
    let long : length (seconds_text t) ≡ length (decimal (t / 10 ^ 15)) + length (46 ∷ last_digits 15 (t % 10 ^ 15)) = Rattle.std.proofs.Common.length-append (decimal (t / 10 ^ 15)) (46 ∷ last_digits 15 (t % 10 ^ 15)) in
    let some = w.some in
    some_run (seconds_text t) tail (omega (arith, long, some)) (point_plain (decimal (t / 10 ^ 15)) (last_digits 15 (t % 10 ^ 15)) w.digits f.1.0)

-- the row reads as its fields
pub row_reads : RowsReadBack
row_reads t g tail h =
    let s = seconds_text (unsigned_abs t) in
    let text : row_text t g ++ tail ≡ s ++ (field_text g.crank ++ (field_text g.cam1 ++ (field_text g.cam2 ++ 10 ∷ tail))) =
    append_assoc s (field_text g.crank ++ (field_text g.cam1 ++ (field_text g.cam2 ++ codes "\n"))) tail
    ∙ ap (λ l. s ++ l) (append_assoc (field_text g.crank) (field_text g.cam1 ++ (field_text g.cam2 ++ codes "\n")) tail
    ∙ ap (λ l. field_text g.crank ++ l) (append_assoc (field_text g.cam1) (field_text g.cam2 ++ codes "\n") tail ∙ ap (λ l. field_text g.cam1 ++ l) (append_assoc (field_text g.cam2) (codes "\n") tail))) in
    ap (next_record default_config st.StartRecord [] []) text ∙ seconds_run (unsigned_abs t) _ h ∙ levels_run g s tail
