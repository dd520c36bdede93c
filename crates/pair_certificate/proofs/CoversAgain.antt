-- What is printed of a cover is read again.
use Rattle.std.proofs.Common.{◌≡◌, ℕ, suc, List, [], ◌∷◌, ◌++◌, refl, sym, ◌∙◌, ap, subst, arith}
use mathlib.Core.List.{append_assoc}
use Rattle.std.proofs.lemmas.List.{append-nil}
use Rattle.std.proofs.lemmas.List.Elements.{All-append, All-cons}
use Rattle.std.specs.Prelude.{All, Option, Some, None, codes}
use Rattle.wheel_types.specs.declared.place.Place.{Place}
use Rattle.wheel_types.specs.Texts.{place_text}
use Rattle.pair_certificate.specs.Certificates.{cover_text}
use Rattle.pair_certificate.specs.Reports.{IsPlaceInRange}
use Rattle.pair_certificate.specs.FirstFields.{after_text, place_at}
use Rattle.pair_certificate.specs.FirstCertificates.{IsOnlyCover, IsNoCover}
use Rattle.pair_certificate.proofs.Again.{Stops, place_again}

-- the places that are left of a cover, when these were read
pub record IsLeft (rest : List ℕ) (done ps : List Place) : Type 0 where
  pub places : List Place
  pub whole : ps ≡ done ++ places
  pub range : All IsPlaceInRange places
  pub text : rest ≡ cover_text places ++ codes "\n"

pub record HasCover (bytes rest : List ℕ) (done : List Place) : Type 0 where
  pub range : All IsPlaceInRange done
  pub left : (ps : List Place) → All IsPlaceInRange ps → bytes ≡ cover_text ps ++ codes "\n" → IsLeft rest done ps

none_range : All IsPlaceInRange []
none_range k d h = absurd (omega (arith, h))

pub cover_none : (bytes : List ℕ) (done : List Place) → done ≡ [] → HasCover bytes bytes done
cover_none bytes done e = subst (HasCover bytes bytes) (sym e) (record { range = none_range; left = λ ps r t. record { places = ps; whole = refl; range = r; text = t } })

pub stops : (ps : List Place) → Stops (cover_text ps ++ codes "\n")
stops [] = refl
stops (p ∷ ps) = refl

pub head_range : (p : Place) (ps : List Place) → All IsPlaceInRange (p ∷ ps) → IsPlaceInRange p
head_range p ps h = h 0 p (omega arith)

pub tail_range : (p : Place) (ps : List Place) → All IsPlaceInRange (p ∷ ps) → All IsPlaceInRange ps
tail_range p ps h k d b = h (suc k) d (omega (arith, b))

-- a space before a place
pub spaced : (p : Place) (ps : List Place) → after_text (codes " ") (cover_text (p ∷ ps) ++ codes "\n") ≡ Some (place_text p ++ (cover_text ps ++ codes "\n"))
spaced p ps = ap (λ l. Some l) (append_assoc (place_text p) (cover_text ps) (codes "\n"))

pub some_once : {X : Type 0} (a b : X) (o : Option X) → o ≡ Some a → o ≡ Some b → a ≡ b
some_once {X} a b o e f = let g : Some a ≡ Some b = sym e ∙ f in cc

pub none_some : {X : Type 0} (a : X) (o : Option X) → o ≡ None → o ≡ Some a → ⊥
none_some {X} a o e f = let g : None ≡ Some a = sym e ∙ f in cc

-- where a space comes, a place is left, and is read
record IsNext (rest next : List ℕ) (done ps : List Place) : Type 0 where
  pub place : Place
  pub left : List Place
  pub whole : ps ≡ done ++ place ∷ left
  pub range : All IsPlaceInRange left
  pub is : IsPlaceInRange place
  pub read : place_at next ≡ Some (place, cover_text left ++ codes "\n")

next_of : (rest next : List ℕ) (done ps qs : List Place) → after_text (codes " ") rest ≡ Some next → ps ≡ done ++ qs → All IsPlaceInRange qs → rest ≡ cover_text qs ++ codes "\n" → IsNext rest next done ps
next_of rest next done ps [] e w r t = absurd (none_some next (after_text (codes " ") rest) (ap (after_text (codes " ")) t) e)
next_of rest next done ps (q ∷ qs) e w r t =
    let here : after_text (codes " ") rest ≡ Some (place_text q ++ (cover_text qs ++ codes "\n")) = ap (after_text (codes " ")) t ∙ spaced q qs in
    let same : next ≡ place_text q ++ (cover_text qs ++ codes "\n") = some_once next _ (after_text (codes " ") rest) e here in
    record {
      place = q;
      left = qs;
      whole = w;
      range = tail_range q qs r;
      is = head_range q qs r;
      read = ap place_at same ∙ place_again q (cover_text qs ++ codes "\n") (head_range q qs r) (stops qs);
    }

next_left : (bytes rest next : List ℕ) (done ps : List Place) → after_text (codes " ") rest ≡ Some next → HasCover bytes rest done → All IsPlaceInRange ps → bytes ≡ cover_text ps ++ codes "\n" → IsNext rest next done ps
next_left bytes rest next done ps e h r t = let l : IsLeft rest done ps = h.left ps r t in next_of rest next done ps l.places e l.whole l.range l.text

-- no place can be read
pub cover_bad : (bytes rest next : List ℕ) (done : List Place) → after_text (codes " ") rest ≡ Some next → place_at next ≡ None → HasCover bytes rest done → IsNoCover bytes
cover_bad bytes rest next done e f h ps r t =
    let n : IsNext rest next done ps = next_left bytes rest next done ps e h r t in
    none_some (n.place, cover_text n.left ++ codes "\n") (place_at next) f n.read

-- one more place
pub cover_more : (bytes rest next after : List ℕ) (done all : List Place) (p : Place) → after_text (codes " ") rest ≡ Some next → place_at next ≡ Some (p, after) → IsPlaceInRange p → all ≡ done ++ p ∷ [] → HasCover bytes rest done → HasCover bytes after all
cover_more bytes rest next after done all p e f is a h = subst (HasCover bytes after) (sym a) (record {
  range = All-append IsPlaceInRange done (p ∷ []) h.range (All-cons IsPlaceInRange p [] is none_range);
  left = λ ps r t.
      let n : IsNext rest next done ps = next_left bytes rest next done ps e h r t in
      let same : (p, after) ≡ (n.place, cover_text n.left ++ codes "\n") = some_once _ _ (place_at next) f n.read in
      let place : n.place ≡ p = sym (ap (λ (x : Place × List ℕ). x.0) same) in
      record {
        places = n.left;
        whole = n.whole ∙ ap (λ q. done ++ q ∷ n.left) place ∙ sym (append_assoc done (p ∷ []) n.left);
        range = n.range;
        text = ap (λ (x : Place × List ℕ). x.1) same;
      };
})

-- no place is left
pub cover_all : (bytes rest : List ℕ) (done all : List Place) → after_text (codes " ") rest ≡ None → all ≡ done → HasCover bytes rest done → IsOnlyCover bytes all
cover_all bytes rest done all e a h = subst (IsOnlyCover bytes) (sym a) (record { range = h.range; only = λ ps r t. let l : IsLeft rest done ps = h.left ps r t in last ps l.places l.whole l.text })
  where
    last : (ps qs : List Place) → ps ≡ done ++ qs → rest ≡ cover_text qs ++ codes "\n" → ps ≡ done
    last ps [] w t = w ∙ append-nil done
    last ps (q ∷ qs) w t = absurd (none_some _ (after_text (codes " ") rest) e (ap (after_text (codes " ")) t ∙ spaced q qs))
