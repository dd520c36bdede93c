-- Files as lists of names and contents.
use Rattle.std.proofs.Common.{◌≡◌, ◌≢◌, ℕ, suc, zero, ◌+◌, ◌-◌, ◌≤◌, ◌<◌, Bool, true, false, List, [], ◌∷◌, ◌++◌, length, take, drop, set, get_or, map, sym, ap, ◌∙◌, subst, refl, arith, None, Some, nat_eq, cond, string_bytes, String, Vec, Result, Ok, Err, OnErr, unwrap_or, length-set, slice_get, length-append, ⊎_elim}
use Rattle.std.specs.Cmp.Lexicographic.{pointwise, same_text}
use Rattle.std.proofs.Math.Seq.{take-append_seam}
use Rattle.std.proofs.lemmas.List.{take-append-drop, drop-drop, get_or-map, take_rest, get_or-set_same, length-map, get_or_append_left}
use Rattle.std.proofs.Math.Seq.{get_or-append_seam}
use Rattle.std.proofs.Math.Nat.{eq-or-lt_of_le}
use Rattle.std.proofs.lemmas.Option.{slice_get_within}
use Rattle.std.proofs.lemmas.Bool.Decides.{nat_tests}
use Rattle.mem_io.specs.Named.{file_in, IsAbsent, IsNamed, SlotsNamed, KeepsNames, names_of, contents_of}
use Rattle.std.specs.declared.alloc.Global.{Global}

-- no file has the name
pub file_in_none : (names contents : List (List ℕ)) (name : List ℕ) → ((k : ℕ) → k < length names → pointwise nat_eq (get_or names k []) name ≡ false) → file_in names contents name ≡ None
file_in_none [] contents name none = refl
file_in_none (n ∷ names) [] name none = refl
file_in_none (n ∷ names) (b ∷ contents) name none =
    let here : pointwise nat_eq n name ≡ false = none 0 (omega arith) in
    rw here (file_in_none names contents name (λ k h. none (suc k) (omega arith)))

-- the contents at the place of the name
pub file_in_at : (names contents : List (List ℕ)) (i : ℕ) (name : List ℕ) → length names ≡ length contents → i < length names → pointwise nat_eq (get_or names i []) name ≡ true
    → ((k : ℕ) → k < i → pointwise nat_eq (get_or names k []) name ≡ false) → file_in names contents name ≡ Some (get_or contents i [])
file_in_at [] contents i name e h at before = absurd (omega arith)
file_in_at (n ∷ names) [] i name e h at before = absurd (omega arith)
file_in_at (n ∷ names) (b ∷ contents) zero name e h at before = rw at refl
file_in_at (n ∷ names) (b ∷ contents) (suc i) name e h at before =
    let here : pointwise nat_eq n name ≡ false = before 0 (omega arith) in
    rw here (file_in_at names contents i name (omega arith) (omega arith) at (λ k l. before (suc k) (omega arith)))

-- another file's contents change nothing
pub file_in_other : (names contents : List (List ℕ)) (i : ℕ) (bytes name : List ℕ) → pointwise nat_eq (get_or names i []) name ≡ false → file_in names (set contents i bytes) name ≡ file_in names contents name
file_in_other [] contents i bytes name d = refl
file_in_other (n ∷ names) [] i bytes name d = refl
file_in_other (n ∷ names) (b ∷ contents) zero bytes name d = let P : Bool → Type 0 = λ t. cond t (Some bytes) (file_in names contents name) ≡ cond t (Some b) (file_in names contents name) in subst P (sym d) refl
file_in_other (n ∷ names) (b ∷ contents) (suc i) bytes name d = ap (λ r. cond (pointwise nat_eq n name) (Some b) r) (file_in_other names contents i bytes name d)

-- what a copy into the front of a buffer leaves of the bytes
pub given_split : (at count : ℕ) (bytes front buf : List ℕ) → length front ≡ count → drop at bytes ≡ front ++ drop (at + count) bytes → drop at bytes ≡ take count (front ++ drop count buf) ++ drop (at + count) bytes
given_split at count bytes front buf len e = e ∙ ap (λ l. l ++ drop (at + count) bytes) (sym (ap (λ n. take n (front ++ drop count buf)) (sym len) ∙ take-append_seam front (drop count buf)))

-- the front of what is left, and the rest
pub left_split : (at count : ℕ) (bytes : List ℕ) → drop at bytes ≡ take count (drop at bytes) ++ drop (at + count) bytes
left_split at count bytes = sym (take-append-drop count (drop at bytes)) ∙ ap (λ r. take count (drop at bytes) ++ r) (drop-drop count at bytes)

-- a name in the list of names
pub name_at : (files : List (String Global × Vec ℕ Global)) (i : ℕ) (d : String Global × Vec ℕ Global) → i < length files → get_or (names_of files) i [] ≡ string_bytes (get_or files i d).0
name_at files i d h = get_or-map (λ f. string_bytes f.0) files i d [] h

pub content_at : (files : List (String Global × Vec ℕ Global)) (i : ℕ) (d : String Global × Vec ℕ Global) → i < length files → get_or (contents_of files) i [] ≡ (get_or files i d).1.items
content_at files i d h = get_or-map (λ f. f.1.items) files i d [] h

pub on_err : {T E P : Type 0} (r : Result T E) → P → OnErr r P
on_err (Ok x) p = tt
on_err (Err e) p = p

pub same_names : (a b : List ℕ) → pointwise nat_eq a b ≡ true → a ≡ b
same_names a b h = same_text a b (sym h)

-- the same where the rest was cut to its length, as a slice of the program is
pub left_cut : (at count : ℕ) (bytes front : List ℕ) → front ≡ take count (take (length bytes - at) (drop at bytes)) → drop at bytes ≡ front ++ drop (at + count) bytes
left_cut at count bytes front e = left_split at count bytes ∙ ap (λ l. l ++ drop (at + count) bytes) (sym (e ∙ ap (take count) (take_rest bytes at)))

pub length-names : (files : List (String Global × Vec ℕ Global)) → length (names_of files) ≡ length files
length-names [] = refl
length-names (f ∷ files) = ap suc (length-names files)

pub length-contents : (files : List (String Global × Vec ℕ Global)) → length (contents_of files) ≡ length files
length-contents [] = refl
length-contents (f ∷ files) = ap suc (length-contents files)

pub pointwise_same : (a : List ℕ) → pointwise nat_eq a a ≡ true
pointwise_same [] = refl
pointwise_same (x ∷ xs) = grind (arith, nat_tests, pointwise_same xs)

pub pointwise_other : (a b : List ℕ) → b ≢ a → pointwise nat_eq a b ≡ false
pointwise_other a b d = elim (pointwise nat_eq a b) as (λ t. (pointwise nat_eq a b ≡ t) → t ≡ false) [ true ↦ λ e. absurd (d (sym (same_names a b e))) | false ↦ λ e. refl ] refl

pub file_named : (names contents : List (List ℕ)) (i : ℕ) (name : List ℕ) → length names ≡ length contents → IsNamed names i name → file_in names contents name ≡ Some (get_or contents i [])
file_named names contents i name e n =
    file_in_at names contents i name e n.within (subst (λ m. pointwise nat_eq m name ≡ true) (sym n.here) (pointwise_same name)) n.before

-- a write to one file
pub file_written : (names names' contents contents' : List (List ℕ)) (i : ℕ) (piece : List ℕ) → length names ≡ length contents → IsNamed names i (get_or names i []) → names' ≡ names
    → contents' ≡ set contents i (get_or contents i [] ++ piece) → unwrap_or (file_in names' contents' (get_or names' i [])) [] ≡ unwrap_or (file_in names contents (get_or names i [])) [] ++ piece
file_written names names' contents contents' i piece e n p q =
    let within : i < length contents = omega (arith, n.within) in
    let new : file_in names (set contents i (get_or contents i [] ++ piece)) (get_or names i []) ≡ Some (get_or contents i [] ++ piece) =
    file_named names (set contents i (get_or contents i [] ++ piece)) i (get_or names i []) (e ∙ sym (length-set contents i _)) n ∙ ap Some (get_or-set_same contents i _ [] within) in
    let old : file_in names contents (get_or names i []) ≡ Some (get_or contents i []) = file_named names contents i (get_or names i []) e n in
    let moved : file_in names' contents' (get_or names' i []) ≡ file_in names (set contents i (get_or contents i [] ++ piece)) (get_or names i []) = cc in
    ap (λ o. unwrap_or o []) (moved ∙ new) ∙ ap (λ o. unwrap_or o [] ++ piece) (sym old)

-- a file that was emptied
pub file_emptied : (names names' contents contents' : List (List ℕ)) (i : ℕ) (name : List ℕ) → length names ≡ length contents → IsNamed names i name → names' ≡ names
    → contents' ≡ set contents i [] → file_in names' contents' name ≡ Some []
file_emptied names names' contents contents' i name e n p q =
    let within : i < length contents = omega (arith, n.within) in
    let moved : file_in names' contents' name ≡ file_in names (set contents i []) name = cc in
    moved ∙ file_named names (set contents i []) i name (e ∙ sym (length-set contents i _)) n ∙ ap Some (get_or-set_same contents i _ [] within)

-- and to no other
pub file_untouched : (names names' contents contents' : List (List ℕ)) (i : ℕ) (bytes name : List ℕ) → names' ≡ names → contents' ≡ set contents i bytes → name ≢ get_or names i []
    → file_in names' contents' name ≡ file_in names contents name
file_untouched names names' contents contents' i bytes name p q d =
    let moved : file_in names' contents' name ≡ file_in names (set contents i bytes) name = cc in
    moved ∙ file_in_other names contents i bytes name (pointwise_other (get_or names i []) name d)

pub named_within : (files : List (String Global × Vec ℕ Global)) (i : ℕ) (name : List ℕ) → IsNamed (names_of files) i name → i < length files
named_within files i name n = omega (arith, n.within, length-names files)

-- a slot that a look-up finds is one of the slots
pub slot_within : {A B C : Type 0} (xs : List A) (f : A → B) (g : A → C) (i : ℕ) (y : B) → slice_get (map f xs) i ≡ Some y → i < length (map g xs)
slot_within xs f g i y e = let h : i < length (map f xs) = slice_get_within (map f xs) i y e in omega (arith, h, length-map xs f, length-map xs g)

-- a slot more
pub slots_push : (names : List (List ℕ)) (files : List ℕ) (file : ℕ) → SlotsNamed names files → IsNamed names file (get_or names file []) → SlotsNamed names (files ++ file ∷ [])
slots_push names files file old new k h =
    let P : ℕ → Type 0 = λ f. IsNamed names f (get_or names f []) in
    let size : length (files ++ file ∷ []) ≡ length files + 1 = length-append files (file ∷ []) in
    let le : k ≤ length files = omega arith in
    ⊎_elim (λ (e : k ≡ length files). subst P (sym (ap (λ j. get_or (files ++ file ∷ []) j 0) e ∙ get_or-append_seam files file [] 0)) new)
    (λ (l : k < length files). subst P (sym (get_or_append_left files (file ∷ []) 0 k l)) (old k l))
    (eq-or-lt_of_le le)

-- a list with one name more keeps its names
pub keeps_more : (names : List (List ℕ)) (name : List ℕ) → KeepsNames names (names ++ name ∷ [])
keeps_more names name = record {
  longer = omega (arith, length-append names (name ∷ []));
  same = λ k h. get_or_append_left names (name ∷ []) [] k h;
}

pub keeps_same : (names names' : List (List ℕ)) → names' ≡ names → KeepsNames names names'
keeps_same names names' e = record { longer = omega (arith, ap length e); same = λ k h. ap (λ ns. get_or ns k []) e }

-- a file that is first of its name stays so
pub named_kept : (old new : List (List ℕ)) (i : ℕ) → KeepsNames old new → IsNamed old i (get_or old i []) → IsNamed new i (get_or new i [])
named_kept old new i kept n = record {
  within = omega (arith, kept.longer, n.within);
  here = refl;
  before = λ k h.
      let here : get_or new i [] ≡ get_or old i [] = kept.same i n.within in
      let less : k < length old = omega (arith, n.within) in
      let there : get_or new k [] ≡ get_or old k [] = kept.same k less in
      let was : pointwise nat_eq (get_or old k []) (get_or old i []) ≡ false = n.before k h in
      ap (λ m. pointwise nat_eq m (get_or new i [])) there ∙ ap (λ m. pointwise nat_eq (get_or old k []) m) here ∙ was;
}

pub slots_kept : (old new : List (List ℕ)) (files : List ℕ) → KeepsNames old new → SlotsNamed old files → SlotsNamed new files
slots_kept old new files kept s k h = named_kept old new (get_or files k 0) kept (s k h)

-- a name that no file had is now that of the last
pub named_last : (names : List (List ℕ)) (name : List ℕ) → IsAbsent names name → IsNamed (names ++ name ∷ []) (length names) name
named_last names name a = record {
  within = omega (arith, length-append names (name ∷ []));
  here = get_or-append_seam names name [] [];
  before = λ k h. ap (λ m. pointwise nat_eq m name) (get_or_append_left names (name ∷ []) [] k h) ∙ a.none k h;
}

pub file_last : (names contents : List (List ℕ)) (name : List ℕ) → length names ≡ length contents → IsAbsent names name → file_in (names ++ name ∷ []) (contents ++ [] ∷ []) name ≡ Some []
file_last names contents name e a =
    file_named (names ++ name ∷ []) (contents ++ [] ∷ []) (length names) name (omega (arith, length-append names (name ∷ []), length-append contents ([] ∷ []), e)) (named_last names name a)
    ∙ ap Some (ap (λ k. get_or (contents ++ [] ∷ []) k []) e ∙ get_or-append_seam contents [] [] [])

-- and no other name has another file
pub file_more_names : (names contents : List (List ℕ)) (name n : List ℕ) → length names ≡ length contents → n ≢ name → file_in (names ++ name ∷ []) (contents ++ [] ∷ []) n ≡ file_in names contents n
file_more_names [] [] name n e d = ap (λ t. cond t (Some []) None) (pointwise_other name n d)
file_more_names [] (b ∷ contents) name n e d = absurd (omega arith)
file_more_names (m ∷ names) [] name n e d = absurd (omega arith)
file_more_names (m ∷ names) (b ∷ contents) name n e d = ap (λ r. cond (pointwise nat_eq m n) (Some b) r) (file_more_names names contents name n (omega arith) d)

-- a file that is there is not told as absent
pub not_absent : (names contents : List (List ℕ)) (i : ℕ) (name : List ℕ) → length names ≡ length contents → IsNamed names i name → file_in names contents name ≡ None → ⊥
not_absent names contents i name e n h = let there : file_in names contents name ≡ Some (get_or contents i []) = file_named names contents i name e n in cc

-- a slot that a look-up finds is one of the slots
pub slot_item : {A B : Type 0} (xs : List A) (f : A → B) (i : ℕ) (y : B) → slice_get (map f xs) i ≡ Some y → i < length xs
slot_item xs f i y e = let h : i < length (map f xs) = slice_get_within (map f xs) i y e in omega (arith, h, length-map xs f)

-- and so is its file one of the files
pub slot_file : (files : List (String Global × Vec ℕ Global)) (slots : List ℕ) (slot file : ℕ) → SlotsNamed (names_of files) slots → slot < length slots → file ≡ get_or slots slot 0 → file < length files
slot_file files slots slot file named h e = omega (arith, e, (named slot h).within, length-names files)
