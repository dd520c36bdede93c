-- A value change dump of stamps reads as these stamps, with a clean end.
use Rattle.std.proofs.Common.{◌≡◌, ℕ, ◌≤◌, ◌^◌, Bool, true, false, List, [], ◌∷◌, ◌++◌, length, refl, sym, ◌∙◌, ap, subst, arith, append_assoc, append-nil, ℤ, pos, ◌<ℤ◌}
use Rattle.std.proofs.lemmas.Int.{ints}
use Rattle.std.specs.Prelude.{codes, decimal, Option, Some, None, ⊤, unsigned_abs, int_lt}
use Rattle.wheel_types.specs.declared.channel.Keep.{Keep}
use Rattle.wheel_types.specs.declared.channel.Channel.TheVariants.{Crank, Cam1, Cam2}
use Rattle.capture_core.specs.declared.capture.Given.{Given}
use Rattle.capture_core.specs.declared.capture.Stamp.{Stamp}
use Rattle.capture_core.specs.declared.capture.Watch.{Watch}
use Rattle.capture_core.specs.Stamps.{nothing, over, or_else, with_level}
use Rattle.vcd_header.specs.declared.signals.Signals.{Signals}
use Rattle.vcd_reader.specs.Dumps.{reading_of, whole, with_end, at_end}
use Rattle.vcd_reader.specs.Readings.{Body, Reading, changes}
use Rattle.vcd_reader.specs.Changes.{after_change, at_later}
use Rattle.vcd_reader.specs.Tokens.{begun}
use Rattle.stimulus_files.specs.Files.{vcd_header, vcd_text, stamps_text, stamp_text, dump_text, changes_text, change_text, level_digit}
use Rattle.stimulus_read.proofs.TokensRead.{Reads, token_reads, time_reads}
use Rattle.stimulus_read.proofs.HeadersRead.{names_of, codes_of, watch_with, header_reads}

abbrev body_of : Watch → List Stamp → ℤ → Given → Body
body_of watch closed t g = record { scale = 1; signals = codes_of watch; closed = closed; now = record { time = t; given = g } }

abbrev at_body : Watch → List Stamp → ℤ → Given → Reading
at_body watch closed t g = changes (body_of watch closed t g)

-- a level is given only to a channel that is watched
abbrev pub FitsOne : Option Keep → Option Bool → Type 0
FitsOne None o = o ≡ None
FitsOne (Some keep) o = ⊤

abbrev pub Fits : Watch → Given → Type 0
Fits watch g = FitsOne watch.cam1 g.cam1 × FitsOne watch.cam2 g.cam2

-- ---- a line of a change

crank_change : (crank : Keep) (a b : Option Keep) (closed : List Stamp) (t : ℤ) (g : Given) (l : Bool) → after_change (body_of (watch_with crank a b) closed t g) (Some l) (33 ∷ []) ≡ body_of (watch_with crank a b) closed t (with_level Crank l g)
crank_change crank None None closed t g l = refl
crank_change crank (Some a) None closed t g l = refl
crank_change crank None (Some b) closed t g l = refl
crank_change crank (Some a) (Some b) closed t g l = refl

cam1_change : (crank : Keep) (a : Keep) (b : Option Keep) (closed : List Stamp) (t : ℤ) (g : Given) (l : Bool) → after_change (body_of (watch_with crank (Some a) b) closed t g) (Some l) (34 ∷ []) ≡ body_of (watch_with crank (Some a) b) closed t (with_level Cam1 l g)
cam1_change crank a None closed t g l = refl
cam1_change crank a (Some b) closed t g l = refl

cam2_change : (crank : Keep) (a : Option Keep) (b : Keep) (closed : List Stamp) (t : ℤ) (g : Given) (l : Bool) → after_change (body_of (watch_with crank a (Some b)) closed t g) (Some l) (35 ∷ []) ≡ body_of (watch_with crank a (Some b)) closed t (with_level Cam2 l g)
cam2_change crank None b closed t g l = refl
cam2_change crank (Some a) b closed t g l = refl

-- the token of a change, by its level
change_reads : (w : Signals) (bytes : List ℕ) (b : Body) (l : Bool) (code : ℕ) → Reads w bytes (changes b) → Rattle.vcd_reader.specs.Changes.code_token b (Some l) (code ∷ []) ≡ (λ at. changes (after_change b (Some l) (code ∷ []))) → Rattle.vcd_reader.specs.Laws.is_dark code ≡ true
    → Reads w (bytes ++ (level_digit l ∷ code ∷ 10 ∷ [])) (changes (after_change b (Some l) (code ∷ [])))
change_reads w bytes b true code s e d = let t = token_reads w bytes (49 ∷ code ∷ []) 10 (changes b) s (omega arith) (dark 49 code refl d) refl in subst (Reads w (bytes ++ (49 ∷ code ∷ 10 ∷ []))) (ap (λ f. f t.0) e) t.1
  where
    dark : (a c : ℕ) → Rattle.vcd_reader.specs.Laws.is_dark a ≡ true → Rattle.vcd_reader.specs.Laws.is_dark c ≡ true → Rattle.std.specs.List.list_all Rattle.vcd_reader.specs.Laws.is_dark (a ∷ c ∷ []) ≡ true
    dark a c e f = rw (e, f) refl
change_reads w bytes b false code s e d = let t = token_reads w bytes (48 ∷ code ∷ []) 10 (changes b) s (omega arith) (dark 48 code refl d) refl in subst (Reads w (bytes ++ (48 ∷ code ∷ 10 ∷ []))) (ap (λ f. f t.0) e) t.1
  where
    dark : (a c : ℕ) → Rattle.vcd_reader.specs.Laws.is_dark a ≡ true → Rattle.vcd_reader.specs.Laws.is_dark c ≡ true → Rattle.std.specs.List.list_all Rattle.vcd_reader.specs.Laws.is_dark (a ∷ c ∷ []) ≡ true
    dark a c e f = rw (e, f) refl

no_more : (w : Signals) (bytes : List ℕ) (r : Reading) → Reads w bytes r → Reads w (bytes ++ []) r
no_more w bytes r s = subst (λ l. Reads w l r) (sym (append-nil bytes)) s

crank_line : (w : Signals) (crank : Keep) (a b : Option Keep) (bytes : List ℕ) (closed : List Stamp) (t : ℤ) (o : Option Bool) (g : Given) → Reads w bytes (at_body (watch_with crank a b) closed t g)
    → Reads w (bytes ++ change_text o 33) (at_body (watch_with crank a b) closed t (record { crank = or_else o g.crank; cam1 = g.cam1; cam2 = g.cam2 }))
crank_line w crank a b bytes closed t None g s = no_more w bytes _ s
crank_line w crank a b bytes closed t (Some l) g s = subst (λ (k : Body). Reads w (bytes ++ change_text (Some l) 33) (changes k)) (crank_change crank a b closed t g l) (change_reads w bytes (body_of (watch_with crank a b) closed t g) l 33 s refl refl)

cam1_line : (w : Signals) (crank : Keep) (a b : Option Keep) (bytes : List ℕ) (closed : List Stamp) (t : ℤ) (o : Option Bool) (g : Given) → FitsOne a o → Reads w bytes (at_body (watch_with crank a b) closed t g)
    → Reads w (bytes ++ change_text o 34) (at_body (watch_with crank a b) closed t (record { crank = g.crank; cam1 = or_else o g.cam1; cam2 = g.cam2 }))
cam1_line w crank a b bytes closed t None g f s = no_more w bytes _ s
cam1_line w crank None b bytes closed t (Some l) g f s = cc f
cam1_line w crank (Some a) b bytes closed t (Some l) g f s = subst (λ (k : Body). Reads w (bytes ++ change_text (Some l) 34) (changes k)) (cam1_change crank a b closed t g l) (change_reads w bytes (body_of (watch_with crank (Some a) b) closed t g) l 34 s refl refl)

cam2_line : (w : Signals) (crank : Keep) (a b : Option Keep) (bytes : List ℕ) (closed : List Stamp) (t : ℤ) (o : Option Bool) (g : Given) → FitsOne b o → Reads w bytes (at_body (watch_with crank a b) closed t g)
    → Reads w (bytes ++ change_text o 35) (at_body (watch_with crank a b) closed t (record { crank = g.crank; cam1 = g.cam1; cam2 = or_else o g.cam2 }))
cam2_line w crank a b bytes closed t None g f s = no_more w bytes _ s
cam2_line w crank a None bytes closed t (Some l) g f s = cc f
cam2_line w crank a (Some b) bytes closed t (Some l) g f s = subst (λ (k : Body). Reads w (bytes ++ change_text (Some l) 35) (changes k)) (cam2_change crank a b closed t g l) (change_reads w bytes (body_of (watch_with crank a (Some b)) closed t g) l 35 s refl refl)

-- the lines of a stamp's changes
changes_read : (w : Signals) (crank : Keep) (a b : Option Keep) (bytes : List ℕ) (closed : List Stamp) (t : ℤ) (g k : Given) → FitsOne a g.cam1 → FitsOne b g.cam2 → Reads w bytes (at_body (watch_with crank a b) closed t k)
    → Reads w (bytes ++ changes_text g) (at_body (watch_with crank a b) closed t (over g k))
changes_read w crank a b bytes closed t g k f1 f2 s =
    let one = crank_line w crank a b bytes closed t g.crank k s in
    let two = cam1_line w crank a b (bytes ++ change_text g.crank 33) closed t g.cam1 _ f1 one in
    let three = cam2_line w crank a b ((bytes ++ change_text g.crank 33) ++ change_text g.cam1 34) closed t g.cam2 _ f2 two in
    subst (λ l. Reads w l (at_body (watch_with crank a b) closed t (over g k)))
    (append_assoc (bytes ++ change_text g.crank 33) (change_text g.cam1 34) (change_text g.cam2 35) ∙ append_assoc bytes (change_text g.crank 33) (change_text g.cam1 34 ++ change_text g.cam2 35)) three

none_over : (o : Option Bool) → or_else o None ≡ o
none_over None = refl
none_over (Some l) = refl

abbrev given : Option Bool → Option Bool → Option Bool → Given
given a b c = record { crank = a; cam1 = b; cam2 = c }

over_nothing : (g : Given) → over g nothing ≡ g
over_nothing g = ap (λ o. given o (or_else g.cam1 None) (or_else g.cam2 None)) (none_over g.crank) ∙ ap (λ o. given g.crank o (or_else g.cam2 None)) (none_over g.cam1) ∙ ap (given g.crank g.cam1) (none_over g.cam2)

-- ---- the stamps

-- stamps of a file: the first at time 0, and each fits and is small
abbrev pub AreFileStamps : Watch → List Stamp → Type 0
AreFileStamps watch [] = ⊥
AreFileStamps watch (s ∷ []) = (s.time ≡ pos 0) × Fits watch s.given
AreFileStamps watch (s ∷ r ∷ past) = ((n : ℕ) × (s.time ≡ pos n) × (n ≤ 10 ^ 24)) × (r.time <ℤ s.time) × Fits watch s.given × AreFileStamps watch (r ∷ past)

later : (a b : ℤ) → a <ℤ b → (int_lt a b ≡ true) × (int_lt b a ≡ false)
later a b h = (grind (arith, ints, Rattle.std.proofs.lemmas.Bool.Decides.nat_tests, h), grind (arith, ints, Rattle.std.proofs.lemmas.Bool.Decides.nat_tests, h))

stamp_reads : (w : Signals) (crank : Keep) (a b : Option Keep) (bytes : List ℕ) (closed : List Stamp) (r s : Stamp) (n : ℕ) → s.time ≡ pos n → n ≤ 10 ^ 24 → r.time <ℤ s.time → FitsOne a s.given.cam1 → FitsOne b s.given.cam2
    → Reads w bytes (at_body (watch_with crank a b) closed r.time r.given) → Reads w (bytes ++ stamp_text s) (at_body (watch_with crank a b) (r ∷ closed) s.time s.given)
stamp_reads w crank a b bytes closed r s n e small h f1 f2 k =
    let o = later r.time s.time h in
    let t = time_reads w bytes (body_of (watch_with crank a b) closed r.time r.given) n k refl small (ap (int_lt r.time) (sym e) ∙ o.0) (ap (λ z. int_lt z r.time) (sym e) ∙ o.1) in
    let g = changes_read w crank a b (bytes ++ (35 ∷ decimal n ++ 10 ∷ [])) (r ∷ closed) (pos n) s.given nothing f1 f2 t in
    let digits : decimal n ≡ decimal (unsigned_abs s.time) = ap (λ z. decimal (unsigned_abs z)) (sym e) in
    let text : (bytes ++ (35 ∷ decimal n ++ 10 ∷ [])) ++ changes_text s.given ≡ bytes ++ stamp_text s =
    append_assoc bytes (35 ∷ decimal n ++ 10 ∷ []) (changes_text s.given) ∙ ap (λ l. bytes ++ (35 ∷ l)) (append_assoc (decimal n) (10 ∷ []) (changes_text s.given) ∙ ap (λ l. l ++ (10 ∷ changes_text s.given)) digits) in
    subst (λ l. Reads w l (at_body (watch_with crank a b) (r ∷ closed) s.time s.given)) text
    (subst (λ z. Reads w ((bytes ++ (35 ∷ decimal n ++ 10 ∷ [])) ++ changes_text s.given) (at_body (watch_with crank a b) (r ∷ closed) z s.given)) (sym e)
    (subst (λ v. Reads w ((bytes ++ (35 ∷ decimal n ++ 10 ∷ [])) ++ changes_text s.given) (at_body (watch_with crank a b) (r ∷ closed) (pos n) v)) (over_nothing s.given) g))

-- the levels at time 0
dump_reads : (w : Signals) (crank : Keep) (a b : Option Keep) (bytes : List ℕ) (g : Given) → FitsOne a g.cam1 → FitsOne b g.cam2 → Reads w bytes (at_body (watch_with crank a b) [] (pos 0) nothing)
    → Reads w (bytes ++ dump_text g) (at_body (watch_with crank a b) [] (pos 0) g)
dump_reads w crank a b bytes g f1 f2 s =
    let r = at_body (watch_with crank a b) [] (pos 0) nothing in
    let zero_line : Reads w (bytes ++ codes "#0\n") r = (token_reads w bytes (codes "#0") 10 r s (omega arith) refl refl).1 in
    let dump : Reads w ((bytes ++ codes "#0\n") ++ codes "$dumpvars\n") r = (token_reads w (bytes ++ codes "#0\n") (codes "$dumpvars") 10 r zero_line (omega arith) refl refl).1 in
    let start = (bytes ++ codes "#0\n") ++ codes "$dumpvars\n" in
    let lines : Reads w (start ++ changes_text g) (at_body (watch_with crank a b) [] (pos 0) g) = subst (λ v. Reads w (start ++ changes_text g) (at_body (watch_with crank a b) [] (pos 0) v)) (over_nothing g) (changes_read w crank a b start [] (pos 0) g nothing f1 f2 dump) in
    let end : Reads w ((start ++ changes_text g) ++ codes "$end\n") (at_body (watch_with crank a b) [] (pos 0) g) = (token_reads w (start ++ changes_text g) (codes "$end") 10 (at_body (watch_with crank a b) [] (pos 0) g) lines (omega arith) refl refl).1 in
    subst (λ l. Reads w l (at_body (watch_with crank a b) [] (pos 0) g))
    (append_assoc start (changes_text g) (codes "$end\n") ∙ append_assoc (bytes ++ codes "#0\n") (codes "$dumpvars\n") (changes_text g ++ codes "$end\n") ∙ append_assoc bytes (codes "#0\n") (codes "$dumpvars\n" ++ (changes_text g ++ codes "$end\n"))) end

stamps_read : (w : Signals) (crank : Keep) (a b : Option Keep) (bytes : List ℕ) (s : Stamp) (past : List Stamp) → AreFileStamps (watch_with crank a b) (s ∷ past) → Reads w bytes (at_body (watch_with crank a b) [] (pos 0) nothing)
    → Reads w (bytes ++ stamps_text (s ∷ past)) (at_body (watch_with crank a b) past s.time s.given)
stamps_read w crank a b bytes s [] f k = subst (λ z. Reads w (bytes ++ dump_text s.given) (at_body (watch_with crank a b) [] z s.given)) (sym f.0) (dump_reads w crank a b bytes s.given f.1.0 f.1.1 k)
stamps_read w crank a b bytes s (r ∷ past) f k =
    let before = stamps_read w crank a b bytes r past f.3 k in
    subst (λ l. Reads w l (at_body (watch_with crank a b) (r ∷ past) s.time s.given)) (append_assoc bytes (stamps_text (r ∷ past)) (stamp_text s))
    (stamp_reads w crank a b (bytes ++ stamps_text (r ∷ past)) past r s f.0.0 f.0.1 f.0.2 f.1 f.2.0 f.2.1 before)

-- ---- the file

ends_clean : (w : Signals) (watch : Watch) (bytes : List ℕ) (closed : List Stamp) (s : Stamp) → Reads w bytes (at_body watch closed s.time s.given) → whole w bytes ≡ record { closed = s ∷ closed; fault = None }
ends_clean w watch bytes closed s k =
    ap (λ t. with_end w (reading_of w bytes) (begun t) (length bytes)) k.fresh ∙ ap (λ r. at_end r (length bytes)) k.reading

-- the file of stamps reads as these, and ends clean
pub vcd_reads : (crank : Keep) (a b : Option Keep) (s : Stamp) (past : List Stamp) → AreFileStamps (watch_with crank a b) (s ∷ past)
    → whole (names_of (watch_with crank a b)) (vcd_text (watch_with crank a b) (s ∷ past)) ≡ record { closed = s ∷ past; fault = None }
vcd_reads crank a b s past f =
    let watch = watch_with crank a b in
    ends_clean (names_of watch) watch (vcd_text watch (s ∷ past)) past s (stamps_read (names_of watch) crank a b (vcd_header watch) s past f (header_reads crank a b))
