-- The lines of instants, and of more of them.
use Rattle.std.proofs.Common.{◌≡◌, ℕ, suc, ◌+◌, ◌<◌, List, [], ◌∷◌, ◌++◌, length, reverse, take, get_or, refl, sym, ap, ◌∙◌, arith}
use Rattle.std.proofs.lemmas.List.{reverse-append, length-take-le, length-reverse, map-append}
use Rattle.std.proofs.lemmas.Grind.{flat_map-append}
use Rattle.std.proofs.Math.Seq.{take-suc}
use Rattle.wheel_types.specs.declared.parts.WheelParts.{WheelParts}
use Rattle.wheel_types.specs.declared.instant.Instant.{Instant}
use Rattle.wheel_types.specs.declared.verdict.Verdict.{Verdict}
use Rattle.wheel_types.specs.Verdicts.{AreVerdicts}
use Rattle.run_ends.specs.Lines.{MarkedLine, text_of, marks_of}
use Rattle.wheelsync.specs.Reported.{marked_line, lines_of}

-- each instant has one verdict
pub one_each : (w : WheelParts) (past : List Instant) (vs : List Verdict) (window : List Instant) → AreVerdicts w past vs window → length past ≡ length vs
one_each w [] [] window h = refl
one_each w [] (v ∷ vs) window h = absurd h
one_each w (i ∷ past) [] window h = absurd h
one_each w (i ∷ past) (v ∷ vs) window h = ap suc (one_each w past vs h.0 h.1)

pub lines_append : (index : ℕ) (is js : List Instant) (vs us : List Verdict) → length is ≡ length vs → lines_of index (is ++ js) (vs ++ us) ≡ lines_of index is vs ++ lines_of (index + length is) js us
lines_append index [] js [] us h = ap (λ k. lines_of k js us) (let e : index ≡ index + 0 = omega arith in e)
lines_append index [] js (v ∷ vs) us h = absurd (omega (arith, h))
lines_append index (i ∷ is) js [] us h = absurd (omega (arith, h))
lines_append index (i ∷ is) js (v ∷ vs) us h =
    let same : length is ≡ length vs = omega (arith, h) in
    let number : (index + 1) + length is ≡ index + suc (length is) = omega arith in
    ap (λ l. marked_line index i v ∷ l) (lines_append (index + 1) is js vs us same)
    ∙ ap (λ k. marked_line index i v ∷ (lines_of (index + 1) is vs ++ lines_of k js us)) number

pub lines_count : (index : ℕ) (is : List Instant) (vs : List Verdict) → length is ≡ length vs → length (lines_of index is vs) ≡ length is
lines_count index [] vs h = refl
lines_count index (i ∷ is) [] h = absurd (omega (arith, h))
lines_count index (i ∷ is) (v ∷ vs) h = ap suc (lines_count (index + 1) is vs (omega (arith, h)))

pub text_append : (first rest : List MarkedLine) → text_of (first ++ rest) ≡ text_of first ++ text_of rest
text_append first rest = flat_map-append (λ (l : MarkedLine). l.text) first rest

pub marks_append : (first rest : List MarkedLine) → marks_of (first ++ rest) ≡ marks_of first ++ marks_of rest
marks_append first rest = map-append (λ (l : MarkedLine). l.mark) first rest

-- the first instants and the one at place k
pub take_next : {X : Type 0} (xs : List X) (k : ℕ) (x : X) → k < length xs → x ≡ get_or xs k x → take (suc k) xs ≡ take k xs ++ x ∷ []
take_next xs k x h e = take-suc xs k x h ∙ ap (λ y. take k xs ++ y ∷ []) (sym e)

pub reverse_next : {X : Type 0} (xs : List X) (k : ℕ) (x : X) → k < length xs → x ≡ get_or xs k x → reverse (take (suc k) xs) ≡ x ∷ reverse (take k xs)
reverse_next xs k x h e = ap reverse (take_next xs k x h e) ∙ reverse-append (take k xs) (x ∷ [])

-- the lines of one more of the instants
pub lines_next : (is : List Instant) (vs : List Verdict) (k : ℕ) (i : Instant) (v : Verdict) → k < length is → i ≡ get_or is k i → length vs ≡ k
    → lines_of 1 (take (suc k) is) (reverse (v ∷ vs)) ≡ lines_of 1 (take k is) (reverse vs) ++ marked_line (k + 1) i v ∷ []
lines_next is vs k i v h here e =
    let within : length (take k is) ≡ k = length-take-le k is (omega arith) in
    let same : length (take k is) ≡ length (reverse vs) = within ∙ sym (length-reverse vs ∙ e) in
    let number : 1 + length (take k is) ≡ k + 1 = omega (arith, within) in
    ap (λ t. lines_of 1 t (reverse (v ∷ vs))) (take_next is k i h here)
    ∙ ap (lines_of 1 (take k is ++ i ∷ [])) (reverse-append (v ∷ []) vs)
    ∙ lines_append 1 (take k is) (i ∷ []) (reverse vs) (v ∷ []) same
    ∙ ap (λ m. lines_of 1 (take k is) (reverse vs) ++ marked_line m i v ∷ []) number

pub reverse_take : {X : Type 0} (xs : List X) (k : ℕ) (d : X) → k < length xs → reverse (take (suc k) xs) ≡ get_or xs k d ∷ reverse (take k xs)
reverse_take xs k d h = ap reverse (take-suc xs k d h) ∙ reverse-append (take k xs) (get_or xs k d ∷ [])
