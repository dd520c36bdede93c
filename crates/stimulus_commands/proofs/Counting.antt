-- The counts of one more verdict.
use Rattle.std.proofs.Common.{◌≡◌, ◌≢◌, ℕ, ◌+◌, ◌<◌, ◌≤◌, ◌⊎◌, inl, inr, Bool, true, false, cond, nat_lt, List, [], ◌∷◌, ◌++◌, length, None, Some, refl, sym, ap, ◌∙◌, arith}
use Rattle.std.specs.Prelude.{count_by, position}
use Rattle.std.specs.List.{position_or_len}
use Rattle.std.proofs.Math.Dec.{eqb}
use Rattle.std.proofs.lemmas.Bool.{lt-ltb}
use Rattle.std.proofs.lemmas.Bool.Decides.{nat_tests}
use Rattle.std.proofs.lemmas.List.{length-append}
use Rattle.std.proofs.lemmas.List.Sums.{sum_by_push, prefix_len-le-length, count_by-le-length}
use Rattle.std.proofs.lemmas.List.Folds.{position_or_len_push}
use Rattle.wheel_types.specs.declared.verdict.Verdict.{Verdict}
use Rattle.wheel_types.specs.declared.verdict.Verdict.TheVariants.{At}
use Rattle.stimulus_commands.specs.declared.counts.Counts.{Counts}
use Rattle.stimulus_commands.specs.CountsOf.{is_at, is_open, is_lost, number_of, counts_of}

-- the number at this index of so many, from 1; 0 past them
abbrev numbered : ℕ → ℕ → ℕ
numbered q n = number_of (cond (nat_lt q n) (Some q) None)

within : (q n : ℕ) → q < n → numbered q n ≡ q + 1
within q n h = ap (λ (b : Bool). number_of (cond b (Some q) None)) (lt-ltb q n h)

not_below : (q n : ℕ) → n ≤ q → nat_lt q n ≡ false
not_below q n h = grind (arith, nat_tests)

past : (q n : ℕ) → n ≤ q → numbered q n ≡ 0
past q n h = ap (λ (b : Bool). number_of (cond b (Some q) None)) (not_below q n h)

below_or_at : (q n : ℕ) → q ≤ n → (q < n) ⊎ (q ≡ n)
below_or_at q n h = grind arith

not_equal : (q n : ℕ) → q < n → eqb q n ≡ false
not_equal q n h = grind (arith, nat_tests)

equal : (q n : ℕ) → q ≡ n → eqb q n ≡ true
equal q n h = grind (arith, nat_tests)

-- the number of the first, with one more that is at a position
first_more : (vs : List Verdict) (v : Verdict) (f : ℕ) → is_at v ≡ true → (number_of (position is_at vs) ≡ 0 → f ≡ length vs + 1) → (number_of (position is_at vs) ≢ 0 → f ≡ number_of (position is_at vs))
    → f ≡ number_of (position is_at (vs ++ v ∷ []))
first_more vs v f at none some = by (below_or_at q n (prefix_len-le-length _ vs))
  where
    q : ℕ
    q = position_or_len is_at vs

    n : ℕ
    n = length vs

    longer : length (vs ++ v ∷ []) ≡ n + 1
    longer = length-append vs (v ∷ [])

    by : (q < n) ⊎ (q ≡ n) → f ≡ number_of (position is_at (vs ++ v ∷ []))
    by (inl h) =
        let e : position_or_len is_at (vs ++ v ∷ []) ≡ q = position_or_len_push is_at vs v ∙ ap (λ (b : Bool). cond b (n + cond (is_at v) 0 1) q) (not_equal q n h) in
        let was : numbered q n ≡ q + 1 = within q n h in
        let now : numbered q (n + 1) ≡ q + 1 = within q (n + 1) (omega (arith, h)) in
        some (λ is. let z : numbered q n ≡ 0 = is in omega (arith, was, z)) ∙ was ∙ sym now ∙ sym (ap (λ (m : ℕ). numbered q m) longer) ∙ sym (ap (λ (p : ℕ). numbered p (length (vs ++ v ∷ []))) e)
    by (inr h) =
        let e : position_or_len is_at (vs ++ v ∷ []) ≡ n + cond (is_at v) 0 1 = position_or_len_push is_at vs v ∙ ap (λ (b : Bool). cond b (n + cond (is_at v) 0 1) q) (equal q n h) in
        let k : position_or_len is_at (vs ++ v ∷ []) ≡ n = e ∙ ap (λ (b : Bool). n + cond b 0 1) at ∙ omega arith in
        let was : numbered q n ≡ 0 = past q n (omega (arith, h)) in
        let now : numbered n (n + 1) ≡ n + 1 = within n (n + 1) (omega arith) in
        none was ∙ sym now ∙ sym (ap (λ (m : ℕ). numbered n m) longer) ∙ sym (ap (λ (p : ℕ). numbered p (length (vs ++ v ∷ []))) k)

counts_by : (a b : Counts) → a.instants ≡ b.instants → a.at ≡ b.at → a.left_open ≡ b.left_open → a.lost ≡ b.lost → a.first ≡ b.first → a ≡ b
counts_by a b instants at left_open lost first = λ i. record { instants = instants i; at = at i; left_open = left_open i; lost = lost i; first = first i }

-- one more of a kind, or not
one_more : (p : Verdict → Bool) (vs : List Verdict) (v : Verdict) (n : ℕ) → n ≡ count_by p vs → p v ≡ true → n + 1 ≡ count_by p (vs ++ v ∷ [])
one_more p vs v n e is = ap (λ m. m + 1) e ∙ sym (ap (λ (b : Bool). count_by p vs + cond b 1 0) is) ∙ sym (sum_by_push (λ x. cond (p x) 1 0) vs v)

none_more : (p : Verdict → Bool) (vs : List Verdict) (v : Verdict) (n : ℕ) → n ≡ count_by p vs → p v ≡ false → n ≡ count_by p (vs ++ v ∷ [])
none_more p vs v n e is = e ∙ omega arith ∙ sym (ap (λ (b : Bool). count_by p vs + cond b 1 0) is) ∙ sym (sum_by_push (λ x. cond (p x) 1 0) vs v)

-- the counts with one more at a position
pub one_more_at : (vs : List Verdict) (j slot : ℕ) (c : Counts) (f : ℕ) → c ≡ counts_of vs → (c.first ≡ 0 → f ≡ c.instants + 1) → (c.first ≢ 0 → f ≡ c.first)
    → ◌≡◌ {A = Counts} (record { instants = c.instants + 1; at = c.at + 1; left_open = c.left_open; lost = c.lost; first = f }) (counts_of (vs ++ At j slot ∷ []))
one_more_at vs j slot c f is none some =
    let v : Verdict = At j slot in
    let instants : c.instants ≡ length vs = ap (λ (k : Counts). k.instants) is in
    let first : c.first ≡ number_of (position is_at vs) = ap (λ (k : Counts). k.first) is in
    counts_by _ _
    (ap (λ m. m + 1) instants ∙ sym (length-append vs (v ∷ [])))
    (one_more is_at vs v c.at (ap (λ (k : Counts). k.at) is) refl)
    (none_more is_open vs v c.left_open (ap (λ (k : Counts). k.left_open) is) refl)
    (none_more is_lost vs v c.lost (ap (λ (k : Counts). k.lost) is) refl)
    (first_more vs v f refl (λ z. none (first ∙ z) ∙ ap (λ m. m + 1) instants) (λ z. some (λ e. z (sym first ∙ e)) ∙ first))

-- no kind has more than there are
pub at_most : (vs : List Verdict) (c : Counts) → c ≡ counts_of vs → (c.at ≤ c.instants) × (c.left_open ≤ c.instants) × (c.lost ≤ c.instants)
at_most vs c is =
    let instants : c.instants ≡ length vs = ap (λ (k : Counts). k.instants) is in
    let at : c.at ≡ count_by is_at vs = ap (λ (k : Counts). k.at) is in
    let left_open : c.left_open ≡ count_by is_open vs = ap (λ (k : Counts). k.left_open) is in
    let lost : c.lost ≡ count_by is_lost vs = ap (λ (k : Counts). k.lost) is in
    let a : count_by is_at vs ≤ length vs = count_by-le-length is_at vs in
    let o : count_by is_open vs ≤ length vs = count_by-le-length is_open vs in
    let l : count_by is_lost vs ≤ length vs = count_by-le-length is_lost vs in
    (omega (arith, instants, at, a), omega (arith, instants, left_open, o), omega (arith, instants, lost, l))
