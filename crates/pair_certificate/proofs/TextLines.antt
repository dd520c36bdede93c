-- The lines of a text, byte by byte.
use Rattle.std.proofs.Common.{◌≡◌, ◌≢◌, ℕ, zero, suc, ◌+◌, ◌<◌, ◌≤◌, true, false, cond, List, [], ◌∷◌, ◌++◌, length, take, drop, get_or, eqb, refl, sym, ◌∙◌, ap, arith, add-one}
use Rattle.std.proofs.Math.Seq.{drop-cons, take-suc}
use Rattle.std.proofs.lemmas.Bool.Decides.{nat_tests}
use Rattle.pair_certificate.specs.Lines.{with_first, lines_of}

-- the lines where these bytes, which have no line feed, stand before the first of them
abbrev pub with_front : List ℕ → List (List ℕ) → List (List ℕ)
with_front [] lines = lines
with_front (b ∷ bytes) lines = with_first b (with_front bytes lines)

pub plain : (b : ℕ) (bytes : List ℕ) → b ≢ 10 → lines_of (b ∷ bytes) ≡ with_first b (lines_of bytes)
plain b bytes h = ap (λ t. cond t ((b ∷ []) ∷ lines_of bytes) (with_first b (lines_of bytes))) (let e : eqb b 10 ≡ false = grind (arith, nat_tests) in e)

pub ended : (b : ℕ) (bytes : List ℕ) → b ≡ 10 → lines_of (b ∷ bytes) ≡ (b ∷ []) ∷ lines_of bytes
ended b bytes h = ap (λ t. cond t ((b ∷ []) ∷ lines_of bytes) (with_first b (lines_of bytes))) (let e : eqb b 10 ≡ true = grind (arith, nat_tests) in e)

front_push : (xs : List ℕ) (b : ℕ) (lines : List (List ℕ)) → with_front (xs ++ b ∷ []) lines ≡ with_front xs (with_first b lines)
front_push [] b lines = refl
front_push (x ∷ xs) b lines = ap (with_first x) (front_push xs b lines)

-- a line that these bytes begin
front_line : (xs : List ℕ) (line : List ℕ) (lines : List (List ℕ)) → with_front xs (line ∷ lines) ≡ (xs ++ line) ∷ lines
front_line [] line lines = refl
front_line (x ∷ xs) line lines = ap (with_first x) (front_line xs line lines)

take_more : (bytes : List ℕ) (k : ℕ) → k < length bytes → take (k + 1) bytes ≡ take k bytes ++ get_or bytes k 0 ∷ []
take_more bytes k h = ap (λ n. take n bytes) (add-one k) ∙ take-suc bytes k 0 h

drop_more : (bytes : List ℕ) (k : ℕ) → k < length bytes → drop k bytes ≡ get_or bytes k 0 ∷ drop (k + 1) bytes
drop_more bytes k h = drop-cons bytes k 0 h ∙ ap (λ n. get_or bytes k 0 ∷ drop n bytes) (sym (add-one k))

pub line_more : (bytes : List ℕ) (k : ℕ) (all : List (List ℕ)) → k < length bytes → get_or bytes k 0 ≢ 10 → all ≡ with_front (take k bytes) (lines_of (drop k bytes)) → all ≡ with_front (take (k + 1) bytes) (lines_of (drop (k + 1) bytes))
line_more bytes k all h other e =
    e ∙ ap (λ l. with_front (take k bytes) (lines_of l)) (drop_more bytes k h)
    ∙ ap (with_front (take k bytes)) (plain (get_or bytes k 0) (drop (k + 1) bytes) other)
    ∙ sym (front_push (take k bytes) (get_or bytes k 0) (lines_of (drop (k + 1) bytes)))
    ∙ ap (λ l. with_front l (lines_of (drop (k + 1) bytes))) (sym (take_more bytes k h))

pub line_found : (bytes : List ℕ) (k : ℕ) (all : List (List ℕ)) → k < length bytes → get_or bytes k 0 ≡ 10 → all ≡ with_front (take k bytes) (lines_of (drop k bytes)) → all ≡ take (k + 1) bytes ∷ lines_of (drop (k + 1) bytes)
line_found bytes k all h feed e =
    e ∙ ap (λ l. with_front (take k bytes) (lines_of l)) (drop_more bytes k h)
    ∙ ap (with_front (take k bytes)) (ended (get_or bytes k 0) (drop (k + 1) bytes) feed)
    ∙ front_line (take k bytes) (get_or bytes k 0 ∷ []) (lines_of (drop (k + 1) bytes))
    ∙ ap (λ l. l ∷ lines_of (drop (k + 1) bytes)) (sym (take_more bytes k h))

whole_front : (xs : List ℕ) → 0 < length xs → with_front xs [] ≡ xs ∷ []
whole_front [] h = absurd (omega (arith, h))
whole_front (x ∷ []) h = refl
whole_front (x ∷ y ∷ xs) h = ap (with_first x) (whole_front (y ∷ xs) (omega arith))

drop_whole : (bytes : List ℕ) (k : ℕ) → length bytes ≤ k → drop k bytes ≡ []
drop_whole [] zero h = refl
drop_whole [] (suc k) h = refl
drop_whole (b ∷ bytes) zero h = absurd (omega (arith, h))
drop_whole (b ∷ bytes) (suc k) h = drop_whole bytes k (omega (arith, h))

take_whole : (bytes : List ℕ) (k : ℕ) → length bytes ≤ k → take k bytes ≡ bytes
take_whole [] zero h = refl
take_whole [] (suc k) h = refl
take_whole (b ∷ bytes) zero h = absurd (omega (arith, h))
take_whole (b ∷ bytes) (suc k) h = ap (λ l. b ∷ l) (take_whole bytes k (omega (arith, h)))

pub line_last : (bytes : List ℕ) (k n : ℕ) (all : List (List ℕ)) → 0 < length bytes → length bytes ≤ k → length bytes ≤ n → all ≡ with_front (take k bytes) (lines_of (drop k bytes)) → all ≡ take n bytes ∷ lines_of (drop n bytes)
line_last bytes k n all some h m e =
    e ∙ ap (λ l. with_front l (lines_of (drop k bytes))) (take_whole bytes k h) ∙ ap (λ l. with_front bytes (lines_of l)) (drop_whole bytes k h) ∙ whole_front bytes some
    ∙ ap (λ l. l ∷ []) (sym (take_whole bytes n m)) ∙ ap (λ l. take n bytes ∷ lines_of l) (sym (drop_whole bytes n m))
