-- Each row of a table tells its stamp, and all rows together tell all stamps.
use Rattle.std.proofs.Common.{◌≡◌, ℕ, ◌+◌, ◌≤◌, ◌<◌, ◌^◌, ◌/◌, ◌%◌, Bool, true, false, cond, List, [], ◌∷◌, ◌++◌}
use Rattle.std.proofs.Common.{reverse, length, refl, sym, ◌∙◌, ap, subst, arith, append_assoc, ℤ, pos, ◌<ℤ◌}
use Rattle.std.proofs.lemmas.Int.{ints}
use Rattle.std.proofs.lemmas.Bool.Decides.{nat_tests}
use Rattle.std.proofs.lemmas.List.{reverse-append, reverse-reverse}
use Rattle.std.specs.Prelude.{Option, Some, None, Result, Ok, Err, unsigned_abs, int_lt, decimal}
use Rattle.std.specs.List.{list_all}
use Rattle.csv.specs.Records.{field_at}
use Rattle.csv_capture.specs.Captures.{after_rows, told_from, with_row}
use Rattle.csv_capture.specs.Fields.{is_blank, level_of, trimmed, trimmed_front, trimmed_back}
use Rattle.csv_capture.specs.Rows.{all_levels, falls, level_or, row_stamp, row_time, stamp_of}
use Rattle.csv_capture.specs.Times.{time_of}
use Rattle.wheel_types.specs.declared.channel.Keep.{Keep}
use Rattle.capture_core.specs.declared.capture.Column.{Column}
use Rattle.capture_core.specs.declared.capture.Column.TheVariants as column
use Rattle.capture_core.specs.declared.capture.CsvFault.{CsvFault}
use Rattle.capture_core.specs.declared.capture.Given.{Given}
use Rattle.capture_core.specs.declared.capture.Stamp.{Stamp}
use Rattle.capture_core.specs.declared.capture.Watch.{Watch}
use Rattle.capture_core.specs.Captures.{with_given}
use Rattle.capture_core.specs.Numerals.{is_digit}
use Rattle.capture_core.proofs.Numerals.{both}
use Rattle.capture_core.specs.Stamps.{IsRising, known_after, last_time, nothing, or_else, over}
use Rattle.stimulus_files.specs.Files.{last_digits, level_digit, row_fields, seconds_text}
use Rattle.stimulus_files.proofs.Digits.{AreDigits, of_decimal}
use Rattle.stimulus_read.proofs.SecondsRead.{time_reads_back}
use Rattle.stimulus_read.proofs.TableColumns.{columns_with}
use Rattle.stimulus_read.proofs.TableRecords.{row_list}
use Rattle.stimulus_read.proofs.TableStamps.{AreKnown, AreTable, IsKnown, IsSmall, row_of, rows_of}

-- ---- fields have no blanks around them

front_stays : (b : ℕ) (bytes : List ℕ) → is_blank b ≡ false → trimmed_front (b ∷ bytes) ≡ b ∷ bytes
front_stays b bytes h = ap (λ t. cond t (trimmed_front bytes) (b ∷ bytes)) h

back_stays : (bytes : List ℕ) (b : ℕ) → is_blank b ≡ false → trimmed_back (bytes ++ b ∷ []) ≡ bytes ++ b ∷ []
back_stays bytes b h =
    ap (λ l. reverse (trimmed_front l)) (reverse-append bytes (b ∷ [])) ∙ ap reverse (front_stays b (reverse bytes) h)
    ∙ ap reverse (sym (reverse-append bytes (b ∷ []))) ∙ reverse-reverse (bytes ++ b ∷ [])

digit_dark : (b : ℕ) → is_digit b ≡ true → is_blank b ≡ false
digit_dark b h = grind (arith, nat_tests)

last_dark : (n : ℕ) → is_blank (48 + n % 10) ≡ false
last_dark n = let h = below n in dark (n % 10) h
  where
    below : (n : ℕ) → n % 10 < 10
    below n = omega arith

    dark : (d : ℕ) → d < 10 → is_blank (48 + d) ≡ false
    dark d h = grind (arith, nat_tests)

-- a text that begins with digits and ends with one
ends_dark : (ds rest : List ℕ) (b : ℕ) → 0 < length ds → AreDigits ds → is_blank b ≡ false
    → trimmed (ds ++ (rest ++ b ∷ [])) ≡ ds ++ (rest ++ b ∷ [])
ends_dark [] rest b some h k = absurd (omega (arith, some))
ends_dark (d ∷ ds) rest b some h k =
    let all : (d ∷ ds) ++ (rest ++ b ∷ []) ≡ (d ∷ ds ++ rest) ++ b ∷ [] = sym (append_assoc (d ∷ ds) rest (b ∷ [])) in
    ap trimmed_back (front_stays d (ds ++ (rest ++ b ∷ [])) (digit_dark d (both (is_digit d) (list_all is_digit ds) h).0))
    ∙ ap trimmed_back all ∙ back_stays (d ∷ ds ++ rest) b k ∙ sym all

seconds_dark : (n : ℕ) → n ≤ 10 ^ 24 → trimmed (seconds_text n) ≡ seconds_text n
seconds_dark n h =
    let w = of_decimal (n / 10 ^ 15) (omega (arith, h)) in
    ends_dark (decimal (n / 10 ^ 15)) (46 ∷ last_digits 14 (n % 10 ^ 15 / 10)) (48 + n % 10 ^ 15 % 10) w.some w.digits
    (last_dark (n % 10 ^ 15))

level_reads : (number : ℕ) (c : Column) (l : Bool) → level_or number c (level_of (trimmed (level_digit l ∷ []))) ≡ Ok (Some l)
level_reads number c true = refl
level_reads number c false = refl

-- ---- a row

stamp_is : (r : Result ℤ CsvFault) (g : Result Given CsvFault) (t : ℤ) (given : Given) → r ≡ Ok t → g ≡ Ok given
    → stamp_of r g ≡ Ok (record { time = t; given = given })
stamp_is r g t given e f = ap (λ x. stamp_of x g) e ∙ ap (stamp_of (Ok t)) f

levels_are : (a b d : Result (Option Bool) CsvFault) (l m n : Option Bool) → a ≡ Ok l → b ≡ Ok m → d ≡ Ok n
    → all_levels a b d ≡ Ok (record { crank = l; cam1 = m; cam2 = n })
levels_are a b d l m n e f g = ap (λ x. all_levels x b d) e ∙ ap (λ x. all_levels (Ok l) x d) f ∙ ap (all_levels (Ok l) (Ok m)) g

time_is : (number : ℕ) (before : Option ℤ) (t : ℤ) → IsSmall (record { time = t; given = nothing }) → falls before t ≡ false
    → row_time number before (time_of (trimmed (seconds_text (unsigned_abs t)))) ≡ Ok t
time_is number before t small f =
    let n = small.0 in
    let same : unsigned_abs t ≡ n = ap unsigned_abs small.1 in
    let reads : time_of (trimmed (seconds_text n)) ≡ Ok (pos n) = ap time_of (seconds_dark n small.2) ∙ time_reads_back n small.2 in
    ap (λ k. row_time number before (time_of (trimmed (seconds_text k)))) same
    ∙ ap (row_time number before) (reads ∙ ap (λ z. Ok z) (sym small.1))
    ∙ ap (λ b. cond b (Err (Rattle.capture_core.specs.declared.capture.CsvFault.TheVariants.TimeFalls number)) (Ok t)) f

abbrev watch_of : Keep → Option Keep → Option Keep → Watch
watch_of k a b = record { crank = k; cam1 = a; cam2 = b }

abbrev given_of : Bool → Option Bool → Option Bool → Given
given_of l o p = record { crank = Some l; cam1 = o; cam2 = p }

none_is_some : {X : Type 0} (x : X) → None ≡ Some x → ⊥
none_is_some x e = cc

row_tells : (k : Keep) (a b : Option Keep) (number : ℕ) (before : Option ℤ) (t : ℤ) (l : Bool) (o p : Option Bool)
    → IsSmall (record { time = t; given = nothing }) → falls before t ≡ false → IsKnown a o → IsKnown b p
    → row_stamp (columns_with (watch_of k a b)) number before (row_fields t (given_of l o p))
    ≡ Ok (record { time = t; given = given_of l o p })
unfolding field_at
row_tells k None None number before t l None None small f h i =
    stamp_is _ _ t (given_of l None None) (time_is number before t small f)
    (levels_are _ _ _ (Some l) None None (level_reads number column.Crank l) refl refl)
row_tells k (Some a) None number before t l (Some m) None small f h i =
    stamp_is _ _ t (given_of l (Some m) None) (time_is number before t small f)
    (levels_are _ _ _ (Some l) (Some m) None (level_reads number column.Crank l) (level_reads number column.Cam1 m) refl)
row_tells k None (Some b) number before t l None (Some n) small f h i =
    stamp_is _ _ t (given_of l None (Some n)) (time_is number before t small f)
    (levels_are _ _ _ (Some l) None (Some n) (level_reads number column.Crank l) refl (level_reads number column.Cam2 n))
row_tells k (Some a) (Some b) number before t l (Some m) (Some n) small f h i =
    stamp_is _ _ t (given_of l (Some m) (Some n)) (time_is number before t small f)
    (levels_are _ _ _ (Some l) (Some m) (Some n) (level_reads number column.Crank l) (level_reads number column.Cam1 m)
    (level_reads number column.Cam2 n))
row_tells k None b number before t l (Some m) p small f h i = absurd (none_is_some m (sym h))
row_tells k (Some a) b number before t l None p small f h i = absurd (none_is_some h.0 h.1)
row_tells k a None number before t l o (Some n) small f h i = absurd (none_is_some n (sym i))
row_tells k a (Some b) number before t l o None small f h i = absurd (none_is_some i.0 i.1)

known_row : (watch : Watch) (number : ℕ) (before : Option ℤ) (t : ℤ) (g : Given) → IsSmall (record { time = t; given = nothing })
    → falls before t ≡ false → AreKnown watch g
    → row_stamp (columns_with watch) number before (row_fields t g) ≡ Ok (record { time = t; given = g })
known_row watch number before t g small f h =
    subst (λ o. row_stamp (columns_with watch) number before (row_fields t (record { crank = o; cam1 = g.cam1; cam2 = g.cam2 }))
    ≡ Ok (record { time = t; given = record { crank = o; cam1 = g.cam1; cam2 = g.cam2 } }))
    (sym h.crank.1) (row_tells watch.crank watch.cam1 watch.cam2 number before t h.crank.0 g.cam1 g.cam2 small f h.cam1 h.cam2)

-- ---- all rows

over_nothing_one : (o : Option Bool) → or_else o None ≡ o
over_nothing_one (Some l) = refl
over_nothing_one None = refl

over_nothing : (g : Given) → over g nothing ≡ g
over_nothing g =
    ap (λ x. given3 x (or_else g.cam1 None) (or_else g.cam2 None)) (over_nothing_one g.crank)
    ∙ ap (λ x. given3 g.crank x (or_else g.cam2 None)) (over_nothing_one g.cam1) ∙ ap (given3 g.crank g.cam1) (over_nothing_one g.cam2)
  where
    given3 : Option Bool → Option Bool → Option Bool → Given
    given3 a b d = record { crank = a; cam1 = b; cam2 = d }

before : (a b : ℤ) → a <ℤ b → int_lt a b ≡ true
before a b h = grind (arith, ints)

not_after : (a b : ℤ) → a <ℤ b → int_lt b a ≡ false
not_after a b h = grind (arith, ints)

no_fall : (s : Stamp) (past : List Stamp) → IsRising (s ∷ past) → falls (last_time (rows_of past)) s.time ≡ false
no_fall s [] r = refl
no_fall s (q ∷ past) r = not_after q.time s.time r.0

one_more : (s : Stamp) (past : List Stamp) → IsRising (s ∷ past) → with_row (row_of s past) (rows_of past) ≡ rows_of (s ∷ past)
one_more s [] r = ap (λ g. record { time = s.time; given = g } ∷ []) (over_nothing (known_after (s ∷ [])))
one_more s (q ∷ past) r =
    let g = known_after (s ∷ q ∷ past) in
    ap (λ b. with_given g (cond b (record { time = s.time; given = nothing } ∷ rows_of (q ∷ past)) (rows_of (q ∷ past))))
    (before q.time s.time r.0)
    ∙ ap (λ h. record { time = s.time; given = h } ∷ rows_of (q ∷ past)) (over_nothing g)

-- after the rows of these stamps, the rest goes on
pub walks : (watch : Watch) (stamps : List Stamp) → AreTable watch stamps
    → (n : ℕ) × ((more : List (List (List ℕ)))
    → after_rows (columns_with watch) 2 [] (row_list stamps ++ more) ≡ after_rows (columns_with watch) n (rows_of stamps) more)
walks watch [] h = (2, λ more. refl)
walks watch (s ∷ past) h =
    let w = walks watch past h.3 in
    let row = row_fields s.time (known_after (s ∷ past)) in
    let tells = known_row watch w.0 (last_time (rows_of past)) s.time (known_after (s ∷ past)) h.0 (no_fall s past h.1) h.2 in (
      w.0 + 1,
      λ more.
          ap (after_rows (columns_with watch) 2 []) (append_assoc (row_list past) (row ∷ []) more) ∙ w.1 (row ∷ more)
          ∙ ap (told_from (rows_of past) (λ q. after_rows (columns_with watch) (w.0 + 1) (with_row q (rows_of past)) more)) tells
          ∙ ap (λ stamps. after_rows (columns_with watch) (w.0 + 1) stamps more) (one_more s past h.1),
    )
