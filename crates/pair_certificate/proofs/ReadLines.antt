-- Texts that are read line by line.
use Rattle.std.proofs.Common.{◌≡◌, ℕ, suc, ◌+◌, true, false, List, [], ◌∷◌, ◌++◌, length, refl, sym, ◌∙◌, ap, subst, arith}
use mathlib.Core.List.{append_assoc}
use Rattle.std.specs.Cmp.Lexicographic.{pointwise}
use Rattle.std.specs.Prelude.{nat_eq, Option, Some, None, MatchOption}
use Rattle.pair_certificate.specs.declared.cert_read.CertFault.TheVariants as cert
use Rattle.pair_certificate.specs.declared.read.ReportFault.TheVariants.{BadLine}
use Rattle.std.proofs.lemmas.Cmp.{nat_list_eq_equiv}
use Rattle.std.proofs.lemmas.Bool.{false≢true}
use Rattle.std.proofs.lemmas.List.{append-nil}
use Rattle.pair_certificate.specs.Lines.{lines_of}
use Rattle.pair_certificate.specs.Readings.{AreLines, IsFirstBadLine}

-- these values were read of the first lines, and the rest is still to be read
pub record HasRead {X : Type 0} (IsLine : List ℕ → X → Type 0) (bytes rest : List ℕ) (values : List X) : Type 0 where
  pub done : List (List ℕ)
  pub whole : lines_of bytes ≡ done ++ lines_of rest
  pub are : AreLines IsLine done values

pub read_none : {X : Type 0} (IsLine : List ℕ → X → Type 0) (bytes : List ℕ) → HasRead IsLine bytes bytes []
read_none IsLine bytes = record { done = []; whole = refl; are = tt }

are_push : {X : Type 0} (IsLine : List ℕ → X → Type 0) (lines : List (List ℕ)) (xs : List X) (line : List ℕ) (x : X) → AreLines IsLine lines xs → IsLine line x → AreLines IsLine (lines ++ line ∷ []) (xs ++ x ∷ [])
are_push IsLine [] [] line x h k = (k, tt)
are_push IsLine (l ∷ lines) (y ∷ xs) line x h k = (h.0, are_push IsLine lines xs line x h.1 k)
are_push IsLine [] (y ∷ xs) line x h k = absurd h
are_push IsLine (l ∷ lines) [] line x h k = absurd h

pub read_more : {X : Type 0} (IsLine : List ℕ → X → Type 0) (bytes rest line next : List ℕ) (values : List X) (x : X) → lines_of rest ≡ line ∷ lines_of next → HasRead IsLine bytes rest values → IsLine line x → HasRead IsLine bytes next (values ++ x ∷ [])
read_more IsLine bytes rest line next values x cut h is = record {
  done = h.done ++ line ∷ [];
  whole = h.whole ∙ ap (λ l. h.done ++ l) cut ∙ sym (append_assoc h.done (line ∷ []) (lines_of next));
  are = are_push IsLine h.done values line x h.are is;
}

as_many : {X : Type 0} (IsLine : List ℕ → X → Type 0) (lines : List (List ℕ)) (xs : List X) → AreLines IsLine lines xs → length xs ≡ length lines
as_many IsLine [] [] h = refl
as_many IsLine (l ∷ lines) (x ∷ xs) h = ap suc (as_many IsLine lines xs h.1)
as_many IsLine [] (x ∷ xs) h = absurd h
as_many IsLine (l ∷ lines) [] h = absurd h

pub read_bad : {X : Type 0} (IsLine : List ℕ → X → Type 0) (bytes rest line next : List ℕ) (values : List X) (at : ℕ) → lines_of rest ≡ line ∷ lines_of next → HasRead IsLine bytes rest values → ((x : X) → IsLine line x → ⊥) → at ≡ length values + 1 → IsFirstBadLine IsLine bytes at
read_bad IsLine bytes rest line next values at cut h none e = record {
  good = h.done;
  bad = line;
  rest = lines_of next;
  values = values;
  whole = h.whole ∙ ap (λ l. h.done ++ l) cut;
  before = h.are;
  number = e ∙ ap (λ n. n + 1) (as_many IsLine h.done values h.are);
  refused = none;
}

pub read_all : {X : Type 0} (IsLine : List ℕ → X → Type 0) (bytes rest : List ℕ) (values : List X) → rest ≡ [] → HasRead IsLine bytes rest values → AreLines IsLine (lines_of bytes) values
read_all IsLine bytes rest values e h =
    let whole : lines_of bytes ≡ h.done = h.whole ∙ ap (λ l. h.done ++ lines_of l) e ∙ append-nil h.done in
    subst (λ l. AreLines IsLine l values) (sym whole) h.are

-- texts that a test finds different are not one
pub unequal : (xs ys : List ℕ) → false ≡ pointwise nat_eq xs ys → xs ≡ ys → ⊥
unequal xs ys e same = false≢true (e ∙ subst (λ zs. pointwise nat_eq xs zs ≡ true) same (nat_list_eq_equiv.refl xs))

pub found_none : {X : Type 0} (P : Type 0) (Q : X → Type 0) (o : Option X) → o ≡ None → MatchOption o P Q → P
found_none P Q o e h = subst (λ x. MatchOption x P Q) e h

pub found_some : {X : Type 0} (P : Type 0) (Q : X → Type 0) (o : Option X) (x : X) → o ≡ Some x → MatchOption o P Q → Q x
found_some P Q o x e h = subst (λ y. MatchOption y P Q) e h

pub bad_number : (n m at : ℕ) → BadLine (n + 1) ≡ BadLine at → n ≡ m → at ≡ m + 1
bad_number n m at e f = let g : n + 1 ≡ at = cc in omega (arith, g, f)

pub bad_cert : (n m at : ℕ) → cert.BadLine (n + 1) ≡ cert.BadLine at → n ≡ m → at ≡ m + 1
bad_cert n m at e f = let g : n + 1 ≡ at = cc in omega (arith, g, f)
