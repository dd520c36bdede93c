-- The words that are kept of a section declare what all its words do.
use Rattle.std.proofs.Common.{◌≡◌, ℕ, zero, suc, ◌-◌, List, [], ◌∷◌, ◌++◌, length, length-append, get_or, take, min, refl, sym, ap, ◌∙◌, append-nil, subst, arith, Bool, Ok, Err}
use Rattle.std.specs.Prelude.{IfOk, Option, Result}
use Rattle.std.specs.List.{flat_map}
use Rattle.std.proofs.lemmas.List.{take_min}
use Rattle.std.proofs.lemmas.Grind.{flat_map-append}
use Rattle.vcd_header.specs.declared.section.Section.{Section}
use Rattle.vcd_header.specs.declared.section.Section.TheVariants.{Timescale, Scope, Upscope, Variable, EndDefinitions, Other}
use Rattle.vcd_header.specs.declared.header.HeaderState.{HeaderState}
use Rattle.vcd_header.specs.declared.signals.Signals.{Signals}
use Rattle.vcd_header.specs.Headers.{Header, with_section}
use Rattle.vcd_header.specs.Sightings.{Becomes, SumsUp}
use Rattle.vcd_header.specs.Timescales.{scale_of}
use Rattle.vcd_header.specs.Words.{front_word, kept_words}

-- a timescale is told by its first six bytes
scale_of-front : (text : List ℕ) → scale_of (take 6 text) ≡ scale_of text
scale_of-front [] = refl
scale_of-front (a ∷ []) = refl
scale_of-front (a ∷ b ∷ []) = refl
scale_of-front (a ∷ b ∷ c ∷ []) = refl
scale_of-front (a ∷ b ∷ c ∷ d ∷ []) = refl
scale_of-front (a ∷ b ∷ c ∷ d ∷ e ∷ []) = refl
scale_of-front (a ∷ b ∷ c ∷ d ∷ e ∷ f ∷ rest) = refl

joined_front : (words : List (List ℕ)) → scale_of (flat_map (λ x. x) (front_word words)) ≡ scale_of (flat_map (λ x. x) words)
joined_front [] = refl
joined_front (w ∷ words) = ap scale_of (append-nil (take 6 (flat_map (λ x. x) (w ∷ words)))) ∙ scale_of-front (flat_map (λ x. x) (w ∷ words))

section_kept : (h : Header) (s : Section) (all : List (List ℕ)) → with_section h s (kept_words s all) ≡ with_section h s all
section_kept h Timescale all = ap (Rattle.vcd_header.specs.Headers.with_scale h) (joined_front all)
section_kept h Scope [] = refl
section_kept h Scope (a ∷ []) = refl
section_kept h Scope (a ∷ b ∷ all) = refl
section_kept h Upscope all = refl
section_kept h Variable [] = refl
section_kept h Variable (a ∷ []) = refl
section_kept h Variable (a ∷ b ∷ []) = refl
section_kept h Variable (a ∷ b ∷ c ∷ []) = refl
section_kept h Variable (a ∷ b ∷ c ∷ d ∷ all) = refl
section_kept h EndDefinitions all = refl
section_kept h Other all = refl

-- what kept words declare, all words do
pub becomes_kept : {E : Type 0} (result : Result Bool E) (wanted : Signals) (old new : HeaderState) (s : Section) (words : List (List ℕ))
    → IfOk result (λ fits. (h : Header) → SumsUp wanted old h → Becomes wanted fits (with_section h s words) new)
    → IfOk result (λ fits. (h : Header) (all : List (List ℕ)) → SumsUp wanted old h → words ≡ kept_words s all → Becomes wanted fits (with_section h s all) new)
becomes_kept (Ok fits) wanted old new s words k = λ h all sums kept.
    subst (λ (due : Option Header). Becomes wanted fits due new) (ap (with_section h s) kept ∙ section_kept h s all) (k h sums)
becomes_kept (Err e) wanted old new s words k = tt

-- ---- one more word of a timescale

take_more : (n : ℕ) (front text : List ℕ) → take n (front ++ text) ≡ take n front ++ take (n - length (take n front)) text
take_more zero front text = refl
take_more (suc n) [] text = let e : suc n ≡ suc n - 0 = omega arith in ap (λ k. take k text) e
take_more (suc n) (x ∷ front) text =
    let e : n - length (take n front) ≡ suc n - suc (length (take n front)) = omega arith in
    ap (λ l. x ∷ l) (take_more n front text ∙ ap (λ k. take n front ++ take k text) e)

first_front : (text : List ℕ) → take (min 6 (length text)) text ∷ [] ≡ front_word (text ∷ [])
first_front text = ap (λ (l : List ℕ). l ∷ []) (take_min 6 text ∙ ap (take 6) (sym (append-nil text)))

next_front : (w : List ℕ) (words : List (List ℕ)) (joined text : List ℕ) → flat_map (λ x. x) (w ∷ words) ≡ joined
    → (take 6 joined ++ take (min (6 - length (take 6 joined)) (length text)) text) ∷ [] ≡ front_word (w ∷ words ++ text ∷ [])
next_front w words joined text is =
    ap (λ (l : List ℕ). l ∷ [])
    (ap (λ (l : List ℕ). take 6 joined ++ l) (take_min (6 - length (take 6 joined)) text)
    ∙ sym (take_more 6 joined text)
    ∙ ap (λ (l : List ℕ). take 6 (joined ++ l)) (sym (append-nil text))
    ∙ ap (λ (l : List ℕ). take 6 (l ++ (text ++ []))) (sym is)
    ∙ ap (take 6) (sym (flat_map-append (λ (x : List ℕ). x) (w ∷ words) (text ∷ []))))

-- the front of the words, with one more word
pub front_more : (all : List (List ℕ)) (front text : List ℕ) → flat_map (λ x. x) (front_word all) ≡ front
    → (front ++ take (min (6 - length front) (length text)) text) ∷ [] ≡ front_word (all ++ text ∷ [])
front_more [] front text is = subst (λ (f : List ℕ). (f ++ take (min (6 - length f) (length text)) text) ∷ [] ≡ front_word (text ∷ [])) is (first_front text)
front_more (w ∷ words) front text is =
    subst (λ (f : List ℕ). (f ++ take (min (6 - length f) (length text)) text) ∷ [] ≡ front_word (w ∷ words ++ text ∷ []))
    (sym (append-nil (take 6 (flat_map (λ x. x) (w ∷ words)))) ∙ is) (next_front w words _ text refl)

-- the kept word is taken out
pub front_taken : (all rest : List (List ℕ)) (front : List ℕ) → front_word all ≡ rest ++ front ∷ [] → (flat_map (λ x. x) (front_word all) ≡ front) × (rest ≡ [])
front_taken [] rest front h = absurd (omega (arith, ap length h, length-append rest (front ∷ [])))
front_taken (w ∷ words) [] front h = (append-nil (take 6 (flat_map (λ x. x) (w ∷ words))) ∙ ap (λ (l : List (List ℕ)). get_or l 0 []) h, refl)
front_taken (w ∷ words) (r ∷ rest) front h = absurd (omega (arith, ap length h, length-append rest (front ∷ [])))

pub none_taken : (all rest : List (List ℕ)) → front_word all ≡ [] → (flat_map (λ x. x) (front_word all) ≡ []) × (front_word all ≡ [])
none_taken all rest h = (ap (flat_map (λ x. x)) h, h)

-- so much of the next word joins it
pub front_kept : (all : List (List ℕ)) (front text more : List ℕ) (old new : List (List ℕ)) (room count held : ℕ) → flat_map (λ x. x) (front_word all) ≡ front → old ≡ []
    → held ≡ length front → room ≡ 6 - held → count ≡ min room (length text) → more ≡ front ++ take count text → new ≡ old ++ more ∷ [] → new ≡ front_word (all ++ text ∷ [])
front_kept all front text more old new room count held is none held_is room_is count_is more_is new_is =
    new_is ∙ ap (λ (l : List (List ℕ)). l ++ more ∷ []) none
    ∙ ap (λ (l : List ℕ). l ∷ []) (more_is ∙ ap (λ (k : ℕ). front ++ take k text) (count_is ∙ ap (λ (r : ℕ). min r (length text)) (room_is ∙ ap (λ (h : ℕ). 6 - h) held_is)))
    ∙ front_more all front text is
