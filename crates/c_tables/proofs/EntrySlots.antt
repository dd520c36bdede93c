-- Kept values tell which value is the first past 7, and are the values where none is.
use Rattle.std.proofs.Common.{◌≡◌, ℕ, ◌+◌, ◌≤◌, suc, Bool, not, cond, List, [], ◌∷◌, map, length, Option, Some, None, Result, Ok, Err, inl, inr, refl, ap, sym, ◌∙◌, arith}
use Rattle.std.specs.Prelude.{nat_lt, position}
use Rattle.std.specs.List.{position_or_len}
use Rattle.std.proofs.lemmas.Bool.{cases_Bool, ltb-false, cases_lt, lt-ltb, le-ltb}
use Rattle.c_tables.specs.declared.fault.TableFault.{TableFault}
use Rattle.c_tables.specs.declared.body.Wanted.TheVariants.{FirstEntry}
use Rattle.c_tables.specs.Arrays.{bodies, one_body}
use Rattle.c_tables.specs.Kept.{kept, kept_entries}
use Rattle.c_tables.specs.Spans.{left}
use Rattle.c_tables.specs.Tables.{entries, unless_past, as_slots, ◌>>=◌, table_in}
use Rattle.c_tables.specs.Tokens.{Token}
use Rattle.c_tables.proofs.EntryParts.{as_kept}

-- the value is past 7
abbrev is_past : ℕ → Bool
is_past value = nat_lt 7 value

-- it is so as it is kept
kept_past : (v : ℕ) → is_past (kept v) ≡ is_past v
kept_past v = elim (cases_lt 7 v) [
  | inl past ↦ lt-ltb 7 (kept v) (omega arith) ∙ sym (lt-ltb 7 v past)
  | inr within ↦ le-ltb 7 (kept v) (omega arith) ∙ sym (le-ltb 7 v within)
]

kept_count : (vs : List ℕ) → length (map kept vs) ≡ length vs
kept_count [] = refl
kept_count (v ∷ vs) = ap suc (kept_count vs)

kept_place : (vs : List ℕ) → position_or_len is_past (map kept vs) ≡ position_or_len is_past vs
kept_place [] = refl
kept_place (v ∷ vs) =
    ap (λ past. cond (not past) (1 + position_or_len is_past (map kept vs)) 0) (kept_past v)
    ∙ ap (λ n. cond (not (is_past v)) (1 + n) 0) (kept_place vs)

-- the first kept value past 7 stands where the first value past 7 does
kept_position : (vs : List ℕ) → position is_past (map kept vs) ≡ position is_past vs
kept_position vs =
    ap (λ n. cond (nat_lt n (length (map kept vs))) (Some n) None) (kept_place vs)
    ∙ ap (λ n. cond (nat_lt (position_or_len is_past vs) n) (Some (position_or_len is_past vs)) None) (kept_count vs)

-- kept values are the values where none is past 7
kept_same : (vs : List ℕ) → length vs ≤ position_or_len is_past vs → map kept vs ≡ vs
kept_same [] h = refl
kept_same (v ∷ vs) h = elim (cases_Bool (is_past v)) [
  | inl past ↦ absurd (let none : position_or_len is_past (v ∷ vs) ≡ 0 = ap (λ b. cond (not b) (1 + position_or_len is_past vs) 0) past in omega arith)
  | inr within ↦
      let more : position_or_len is_past (v ∷ vs) ≡ 1 + position_or_len is_past vs = ap (λ b. cond (not b) (1 + position_or_len is_past vs) 0) within in
      let least : v ≤ 7 = ltb-false 7 v within in
      let same : kept v ≡ v = omega arith in
      ap (λ w. w ∷ map kept vs) same ∙ ap (λ ws. v ∷ ws) (kept_same vs (omega arith))
]

none_past : (vs : List ℕ) → position is_past vs ≡ None → length vs ≤ position_or_len is_past vs
none_past vs h = elim (cases_Bool (nat_lt (position_or_len is_past vs) (length vs))) [
  | inl past ↦ absurd (let some : position is_past vs ≡ Some (position_or_len is_past vs) = ap (λ b. cond b (Some (position_or_len is_past vs)) None) past in cc)
  | inr within ↦ ltb-false (position_or_len is_past vs) (length vs) within
]

told : (o : Option ℕ) (vs ws : List ℕ) → (o ≡ None → ws ≡ vs) → unless_past o vs ≡ unless_past o ws
told None vs ws same = ap Ok (sym (same refl))
told (Some at) vs ws same = refl

-- kept values give the same slots, or the same fault
pub as_slots-kept : (vs : List ℕ) → as_slots vs ≡ as_slots (map kept vs)
as_slots-kept vs =
    told (position is_past vs) vs (map kept vs) (λ none. kept_same vs (none_past vs none))
    ∙ ap (λ o. unless_past o (map kept vs)) (sym (kept_position vs))

-- what the entries give is told by them as they are kept
pub slots_found : (found : Result (List ℕ) TableFault) (values : List ℕ) → as_kept found ≡ Ok values → (found >>= as_slots) ≡ as_slots values
slots_found (Ok vs) values h = let same : map kept vs ≡ values = cc in as_slots-kept vs ∙ ap as_slots same
slots_found (Err fault) values h = absurd (cc)

-- the table of a name is what the entries of its one body are as slots
pub table_found : (name bytes : List ℕ) (body : List Token) (values : List ℕ) → Ok body ≡ one_body (bodies name (left bytes 0)) → kept_entries (length bytes) FirstEntry body ≡ Ok values
    → table_in name bytes ≡ as_slots values
table_found name bytes body values one found =
    ap (λ (b : Result (List Token) TableFault). b >>= λ body. entries (length bytes) FirstEntry body >>= λ values. as_slots values) (sym one)
    ∙ slots_found (entries (length bytes) FirstEntry body) values found
