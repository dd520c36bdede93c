-- The numbering is the family.
use Rattle.std.proofs.Common.{◌≡◌, ℕ, zero, suc, ◌<◌, ◌≤◌, ◌⊎◌, inl, inr, Bool, true, false, if◌then◌else◌, List, [], ◌∷◌, ◌++◌, Option, Some, None, length, slice_get, Contains, refl, sym, ap, subst, ◌∙◌, arith, length-append}
use Rattle.std.proofs.lemmas.Bool.{cases_lt}
use Rattle.std.specs.Cmp.{IsEquivalence}
use Rattle.std.specs.List.{list_any, IsDistinct}
use Rattle.std.proofs.lemmas.List.Elements.{Contains-get_or, Contains-push, Contains-push_cases}
use Rattle.std.proofs.lemmas.Map.Keys.{IsDistinct-push}
use Rattle.std.proofs.lemmas.Map.Views.{Contains-from_any}
use Rattle.std.proofs.lemmas.Option.{slice_get_within, slice_get-get_or, get_or_from_slice_get, slice_get_past}
use Rattle.position_nfa.specs.Family.{Reaches, IsMember, IsPart, IsFamily, numbered, numbered_if, taken, taken_if, explored, IsNumbering}

-- an element stays at its place where the list grows at its end
pub slice_get-append : {X : Type 0} (xs ys : List X) (i : ℕ) (x : X) → slice_get xs i ≡ Some x → slice_get (xs ++ ys) i ≡ Some x
slice_get-append [] ys i x h = absurd (cc)
slice_get-append (a ∷ xs) ys zero x h = h
slice_get-append (a ∷ xs) ys (suc i) x h = slice_get-append xs ys i x h

pub Contains-slice_get : {X : Type 0} (xs : List X) (i : ℕ) (x : X) → slice_get xs i ≡ Some x → Contains xs x
Contains-slice_get xs i x h = (i, slice_get_within xs i x h, get_or_from_slice_get xs i x x h)

pub slice_get-Contains : {X : Type 0} (xs : List X) (x : X) (h : Contains xs x) → slice_get xs h.0 ≡ Some x
slice_get-Contains xs x h = slice_get-get_or xs h.0 x h.1 ∙ ap Some h.2

-- each state keeps its number
abbrev pub Keeps : {X : Type 0} → List X → List X → Type 0
Keeps {X} xs ys = (i : ℕ) (x : X) → slice_get xs i ≡ Some x → slice_get ys i ≡ Some x

pub Contains-kept : {X : Type 0} (xs ys : List X) (x : X) → Keeps xs ys → Contains xs x → Contains ys x
Contains-kept xs ys x keeps h = Contains-slice_get ys h.0 x (keeps h.0 x (slice_get-Contains xs x h))

pub slice_get-None : {X : Type 0} (xs : List X) (i : ℕ) → slice_get xs i ≡ None → length xs ≤ i
slice_get-None [] i h = omega arith
slice_get-None (x ∷ xs) zero h = absurd (cc)
slice_get-None (x ∷ xs) (suc i) h = let rest = slice_get-None xs i h in omega arith

last_or_before : (c n : ℕ) → c < suc n → (c < n) ⊎ (c ≡ n)
last_or_before c n lt = elim (cases_lt c n) [ inl h ↦ inl h | inr h ↦ inr (omega arith) ]

le_or_same : (n m : ℕ) → n ≤ suc m → (n ≤ m) ⊎ (n ≡ suc m)
le_or_same n m le = elim (cases_lt m n) [ inl h ↦ inr (omega arith) | inr h ↦ inl h ]

module _ {X : Type 0} (same : X → X → Bool) (laws : IsEquivalence same) (exact : (x y : X) → same x y ≡ true → x ≡ y) (next : X → ℕ → Option X) (width : ℕ) (dead start : X) where
  abbrev Num : List X → X → List X
  Num = numbered same next width dead start

  abbrev NumIf : List X → Option X → List X
  NumIf = numbered_if same next width dead start

  abbrev Taken : List X → X → ℕ → List X
  Taken = taken same next width dead start

  abbrev Explored : ℕ → List X
  Explored = explored same next width dead start

  abbrev Member : X → Type 0
  Member = IsMember same next width dead start

  abbrev Part : List X → Type 0
  Part = IsPart same next width dead start

  pub numbered_cases : (ks : List X) (p : X) → ((Contains ks p) × (Num ks p ≡ ks)) ⊎ ((list_any (same p) ks ≡ false) × (Num ks p ≡ ks ++ p ∷ []))
  numbered_cases ks p = by (list_any (same p) ks) refl
    where
      by : (b : Bool) → list_any (same p) ks ≡ b → ((Contains ks p) × (Num ks p ≡ ks)) ⊎ ((list_any (same p) ks ≡ false) × (Num ks p ≡ ks ++ p ∷ []))
      by true e = inl (Contains-from_any exact p ks e, ap (λ b. if b then ks else ks ++ p ∷ []) e)
      by false e = inr (e, ap (λ b. if b then ks else ks ++ p ∷ []) e)

  pub numbered_keeps : (ks : List X) (p : X) → Keeps ks (Num ks p)
  numbered_keeps ks p i x h = elim (numbered_cases ks p) [
    | inl there ↦ subst (λ l. slice_get l i ≡ Some x) (sym there.1) h
    | inr new ↦ subst (λ l. slice_get l i ≡ Some x) (sym new.1) (slice_get-append ks (p ∷ []) i x h)
  ]

  pub numbered_has : (ks : List X) (p : X) → Contains (Num ks p) p
  numbered_has ks p = elim (numbered_cases ks p) [
    | inl there ↦ subst (λ l. Contains l p) (sym there.1) there.0
    | inr new ↦ subst (λ l. Contains l p) (sym new.1) (Contains-push ks p)
  ]

  pub part_push : (ks : List X) (p : X) → Part ks → Member p → list_any (same p) ks ≡ false → Part (ks ++ p ∷ [])
  part_push ks p part member new = record {
    once = IsDistinct-push laws ks p part.once new;
    sound = λ q h. elim (Contains-push_cases ks p q h) [
      | inl there ↦ part.sound q there
      | inr e ↦ subst Member e member
    ];
  }

  pub numbered_part : (ks : List X) (p : X) → Part ks → Member p → Part (Num ks p)
  numbered_part ks p part member = elim (numbered_cases ks p) [
    | inl there ↦ subst Part (sym there.1) part
    | inr new ↦ subst Part (sym new.1) (part_push ks p part member new.0)
  ]

  pub numbered_if_keeps : (ks : List X) (o : Option X) → Keeps ks (NumIf ks o)
  numbered_if_keeps ks None i x h = h
  numbered_if_keeps ks (Some p) i x h = numbered_keeps ks p i x h

  pub numbered_if_has : (ks : List X) (o : Option X) (p : X) → o ≡ Some p → Contains (NumIf ks o) p
  numbered_if_has ks o p e = subst (λ v. Contains (NumIf ks v) p) (sym e) (numbered_has ks p)

  pub numbered_if_part : (ks : List X) (o : Option X) → Part ks → ((p : X) → o ≡ Some p → Member p) → Part (NumIf ks o)
  numbered_if_part ks None part member = part
  numbered_if_part ks (Some p) part member = numbered_part ks p part (member p refl)

  length-numbered_if : (ks : List X) (o : Option X) → length ks ≤ length (NumIf ks o)
  length-numbered_if ks None = omega arith
  length-numbered_if ks (Some p) = elim (numbered_cases ks p) [
    | inl there ↦ let e : length (Num ks p) ≡ length ks = ap length there.1 in omega arith
    | inr new ↦ let e : length (Num ks p) ≡ length (ks ++ p ∷ []) = ap length new.1 in omega (arith, length-append ks (p ∷ []))
  ]

  pub length-taken : (ks : List X) (q : X) (c : ℕ) → length ks ≤ length (Taken ks q c)
  length-taken ks q zero = omega arith
  length-taken ks q (suc c) = let h : length (Taken ks q c) ≤ length (Taken ks q (suc c)) = length-numbered_if (Taken ks q c) (next q c) in omega (arith, length-taken ks q c)

  pub taken_keeps : (ks : List X) (q : X) (c : ℕ) → Keeps ks (Taken ks q c)
  taken_keeps ks q zero i x h = h
  taken_keeps ks q (suc c) i x h = numbered_if_keeps (Taken ks q c) (next q c) i x (taken_keeps ks q c i x h)

  taken_has_by : (ks : List X) (q p : X) (c n : ℕ) → (c < n → Contains (Taken ks q n) p) → next q c ≡ Some p → (c < n) ⊎ (c ≡ n) → Contains (Taken ks q (suc n)) p
  taken_has_by ks q p c n rest e (inl before) = Contains-kept (Taken ks q n) (Taken ks q (suc n)) p (numbered_if_keeps (Taken ks q n) (next q n)) (rest before)
  taken_has_by ks q p c n rest e (inr last) = numbered_if_has (Taken ks q n) (next q n) p (subst (λ v. next q v ≡ Some p) last e)

  pub taken_has : (ks : List X) (q p : X) (c : ℕ) (n : ℕ) → c < n → next q c ≡ Some p → Contains (Taken ks q n) p
  taken_has ks q p c zero lt e = absurd (omega arith)
  taken_has ks q p c (suc n) lt e = taken_has_by ks q p c n (λ before. taken_has ks q p c n before e) e (last_or_before c n lt)

  -- letters of the dead state lead to it
  module _ (stays : (c : ℕ) (p : X) → next dead c ≡ Some p → p ≡ dead) where
    pub member_next : (q p : X) (c : ℕ) → Member q → c < width → next q c ≡ Some p → Member p
    member_next q p c (inl e) lt h = inl (stays c p (subst (λ v. next v c ≡ Some p) e h))
    member_next q p c (inr w) lt h = inr (c ∷ w.0, (q, w.1, lt, h))

    pub taken_part : (ks : List X) (q : X) (c : ℕ) → c ≤ width → Part ks → Member q → Part (Taken ks q c)
    taken_part ks q zero le part member = part
    taken_part ks q (suc c) le part member =
        numbered_if_part (Taken ks q c) (next q c) (taken_part ks q c (omega arith) part member) (λ p h. member_next q p c member le h)

    pub nothing : IsDistinct same []
    unfolding IsDistinct
    nothing = tt

    pub first_part : Part (Explored zero)
    first_part = numbered_part (dead ∷ []) start (record { once = IsDistinct-push laws [] dead nothing refl; sound = λ p h. inl (only p h) }) (inr ([], refl))
      where
        only : (p : X) → Contains (dead ∷ []) p → p ≡ dead
        only p h = elim (Contains-push_cases [] dead p h) [ inl none ↦ absurd (omega (arith, none.1)) | inr e ↦ sym e ]

    part_taken_if : (ks : List X) (i : ℕ) (o : Option X) → Part ks → slice_get ks i ≡ o → Part (taken_if same next width dead start ks o)
    part_taken_if ks i None part e = part
    part_taken_if ks i (Some q) part e = taken_part ks q width (omega arith) part (part.sound q (Contains-slice_get ks i q e))

    pub explored_part : (n : ℕ) → Part (Explored n)
    explored_part zero = first_part
    explored_part (suc n) = part_taken_if (Explored n) n (slice_get (Explored n) n) (explored_part n) refl

    taken_if_keeps : (ks : List X) (o : Option X) → Keeps ks (taken_if same next width dead start ks o)
    taken_if_keeps ks None i x h = h
    taken_if_keeps ks (Some q) i x h = taken_keeps ks q width i x h

    pub explored_keeps : (n m : ℕ) → n ≤ m → Keeps (Explored n) (Explored m)
    explored_keeps n zero le i x h = subst (λ k. slice_get (Explored k) i ≡ Some x) (at_zero n le) h
      where
        at_zero : (n : ℕ) → n ≤ zero → n ≡ zero
        at_zero n le = omega arith
    explored_keeps n (suc m) le i x h = by (explored_keeps n m) (le_or_same n m le)
      where
        by : (n ≤ m → Keeps (Explored n) (Explored m)) → (n ≤ m) ⊎ (n ≡ suc m) → slice_get (Explored (suc m)) i ≡ Some x
        by rest (inl before) = taken_if_keeps (Explored m) (slice_get (Explored m) m) i x (rest before i x h)
        by rest (inr same') = subst (λ k. slice_get (Explored k) i ≡ Some x) same' h

    -- where all states were taken, nothing more comes
    taken_past : (ks : List X) (n : ℕ) → length ks ≤ n → taken_if same next width dead start ks (slice_get ks n) ≡ ks
    taken_past ks n le = ap (taken_if same next width dead start ks) (slice_get_past ks n le)

    pub explored_ended : (n m : ℕ) → n ≤ m → length (Explored n) ≤ n → Explored m ≡ Explored n
    explored_ended n zero le end = ap Explored (at_zero n le)
      where
        at_zero : (n : ℕ) → n ≤ zero → zero ≡ n
        at_zero n le = omega arith
    explored_ended n (suc m) le end = by (λ before. explored_ended n m before end) (le_or_same n m le)
      where
        by : (n ≤ m → Explored m ≡ Explored n) → (n ≤ m) ⊎ (n ≡ suc m) → Explored (suc m) ≡ Explored n
        by rest (inl before) =
            let e : Explored m ≡ Explored n = rest before in
            taken_past (Explored m) m (subst (λ l. length l ≤ m) (sym e) (omega arith)) ∙ e
        by rest (inr same') = ap Explored (sym same')

    module _ (states : List X) (all : IsNumbering same next width dead start states) where
      -- a state of the numbering was taken at its number
      pub taken_at : (i : ℕ) (q : X) → slice_get states i ≡ Some q → slice_get (Explored i) i ≡ Some q
      taken_at i q h = by (slice_get (Explored i) i) refl
        where
          by : (o : Option X) → slice_get (Explored i) i ≡ o → slice_get (Explored i) i ≡ Some q
          by None e =
              let within : i < length states = slice_get_within states i q h in
              let past : length (Explored i) ≤ i = slice_get-None (Explored i) i e in
              let same_list : Explored (length states) ≡ Explored i = explored_ended i (length states) (omega arith) past in
              let lens : length states ≡ length (Explored i) = ap length (sym all ∙ same_list) in
              absurd (omega arith)
          by (Some r) e =
              let within : i < length states = slice_get_within states i q h in
              let kept : slice_get (Explored (length states)) i ≡ Some r = explored_keeps i (length states) (omega arith) i r e in
              let now : slice_get states i ≡ Some r = subst (λ l. slice_get l i ≡ Some r) all kept in
              e ∙ sym now ∙ h

      pub closed : (i : ℕ) (q p : X) (c : ℕ) → slice_get states i ≡ Some q → c < width → next q c ≡ Some p → Contains states p
      closed i q p c h lt e =
          let within : i < length states = slice_get_within states i q h in
          let there : Contains (Taken (Explored i) q width) p = taken_has (Explored i) q p c width lt e in
          let step : Explored (suc i) ≡ Taken (Explored i) q width = ap (taken_if same next width dead start (Explored i)) (taken_at i q h) in
          let later : Contains (Explored (suc i)) p = subst (λ l. Contains l p) (sym step) there in
          subst (λ l. Contains l p) all (Contains-kept (Explored (suc i)) (Explored (length states)) p (explored_keeps (suc i) (length states) (omega arith)) later)

      pub has_first : (p : X) → Contains (Explored zero) p → Contains states p
      has_first p h = subst (λ l. Contains l p) all (Contains-kept (Explored zero) (Explored (length states)) p (explored_keeps zero (length states) (omega arith)) h)

      pub has_reached : (word : List ℕ) (p : X) → Reaches same next width dead start word p → Contains states p
      has_reached [] p e = has_first p (subst (Contains (Explored zero)) (sym e) (numbered_has (dead ∷ []) start))
      has_reached (c ∷ word) p (q, r, lt, h) =
          let there : Contains states q = has_reached word q r in
          closed there.0 q p c (slice_get-Contains states q there) lt h

      pub family_of_numbering : IsFamily same next width dead start states
      family_of_numbering = record {
        once = subst (IsDistinct same) all (explored_part (length states)).once;
        sound = λ p h. (explored_part (length states)).sound p (subst (λ l. Contains l p) (sym all) h);
        whole = λ p m. elim m [
          | inl e ↦ has_first p (Contains-kept (dead ∷ []) (Explored zero) p (numbered_keeps (dead ∷ []) start) (subst (Contains (dead ∷ [])) (sym e) (Contains-get_or (dead ∷ []) 0 dead (omega arith))))
          | inr w ↦ has_reached w.0 p w.1
        ];
      }
