-- What is kept of a header's variables: one more of them, and the code that they give.
use Rattle.std.proofs.Common.{◌≡◌, ℕ, ◌&&◌, Bool, true, false, cond, List, [], ◌∷◌, ◌++◌, length, take, drop, refl, sym, ap, ◌∙◌, append_assoc, append-nil, ◌+◌, ◌<◌, suc, get_or, nat_eq, not, arith, Some, None, Ok, Err}
use Rattle.std.proofs.Math.Seq.{drop-cons}
use Rattle.std.proofs.lemmas.Bool.Decides.{nat_tests}
use Rattle.std.specs.Prelude.{IfOk, Option, Result, filter}
use Rattle.std.specs.List.{flat_map, list_all, list_any}
use Rattle.std.proofs.lemmas.List.Elements.{filter-append}
use Rattle.vcd_header.specs.declared.signals.Missing.TheVariants.{TooWide, TwoCodes}
use Rattle.capture_core.specs.declared.capture.VcdFault.{VcdFault}
use Rattle.vcd_header.specs.declared.header.HeaderState.{HeaderState}
use Rattle.vcd_header.specs.declared.signals.Signals.{Signals}
use Rattle.vcd_header.specs.Headers.{Header, Var, path_of}
use Rattle.vcd_header.specs.Sightings.{SumsUp, answer_if, answer_of, one_code, sighted, sighted_if, sighting_of}
use Rattle.vcd_header.specs.Signals.{all_found, code_if, code_of, code_of_all, is_named, signals_of, some_code}
use Rattle.vcd_header.specs.Texts.{same}

and_three : (a b c : Bool) → (a && (b && c)) ≡ ((a && b) && c)
and_three true b c = refl
and_three false b c = refl

other_way : (m n : ℕ) → nat_eq m n ≡ nat_eq n m
other_way m n = grind (arith, nat_tests)

-- two texts in a row are the text, where the first begins it and the second is the rest
same_row : (p q s : List ℕ) → same (p ++ q) s ≡ (same (take (length p) s) p && same q (drop (length p) s))
same_row [] q s = refl
same_row (x ∷ p) q [] = refl
same_row (x ∷ p) q (y ∷ s) =
    ap (λ (t : Bool). t && same (p ++ q) s) (other_way x y) ∙ ap (λ (t : Bool). nat_eq y x && t) (same_row p q s)
    ∙ and_three (nat_eq y x) (same (take (length p) s) p) (same q (drop (length p) s))

-- the path through one more scope
path_step : (scope : List ℕ) (scopes : List (List ℕ)) (own rest : List ℕ)
    → same (path_of (scope ∷ scopes) own) rest
    ≡ (same (take (length scope) rest) scope && (same (take 1 (drop (length scope) rest)) (46 ∷ []) && same (path_of scopes own) (drop 1 (drop (length scope) rest))))
path_step scope scopes own rest =
    ap (λ (l : List ℕ). same l rest)
    (append_assoc (scope ++ 46 ∷ []) (flat_map (λ s. s ++ 46 ∷ []) scopes) own ∙ append_assoc scope (46 ∷ []) (path_of scopes own))
    ∙ same_row scope ((46 ∷ []) ++ path_of scopes own) rest
    ∙ ap (λ (t : Bool). same (take (length scope) rest) scope && t) (same_row (46 ∷ []) (path_of scopes own) (drop (length scope) rest))

pub split_at : (scopes : List (List ℕ)) (k : ℕ) (scope other : List ℕ) → k < length scopes → scope ≡ get_or scopes k other → drop k scopes ≡ scope ∷ drop (k + 1) scopes
split_at scopes k scope other inside is =
    let next : suc k ≡ k + 1 = omega arith in
    drop-cons scopes k other inside ∙ ap (λ s. s ∷ drop (suc k) scopes) (sym is) ∙ ap (λ n. scope ∷ drop n scopes) next

-- the first of the scopes does not begin the text
pub no_scope : (scopes : List (List ℕ)) (k : ℕ) (scope own rest : List ℕ) → drop k scopes ≡ scope ∷ drop (k + 1) scopes
    → same (take (length scope) rest) scope ≡ false → same (path_of (drop k scopes) own) rest ≡ false
no_scope scopes k scope own rest split other =
    ap (λ l. same (path_of l own) rest) split ∙ path_step scope (drop (k + 1) scopes) own rest
    ∙ ap (λ (t : Bool). t && (same (take 1 (drop (length scope) rest)) (46 ∷ []) && same (path_of (drop (k + 1) scopes) own) (drop 1 (drop (length scope) rest)))) other

one_scope : (scopes : List (List ℕ)) (k : ℕ) (scope own rest behind : List ℕ) → drop k scopes ≡ scope ∷ drop (k + 1) scopes
    → same (take (length scope) rest) scope ≡ true → behind ≡ drop (length scope) rest
    → same (path_of (drop k scopes) own) rest ≡ (same (take 1 behind) (46 ∷ []) && same (path_of (drop (k + 1) scopes) own) (drop 1 behind))
one_scope scopes k scope own rest behind split begins is_behind =
    ap (λ l. same (path_of l own) rest) split ∙ path_step scope (drop (k + 1) scopes) own rest
    ∙ ap (λ (t : Bool). t && (same (take 1 (drop (length scope) rest)) (46 ∷ []) && same (path_of (drop (k + 1) scopes) own) (drop 1 (drop (length scope) rest)))) begins
    ∙ ap (λ (l : List ℕ). same (take 1 l) (46 ∷ []) && same (path_of (drop (k + 1) scopes) own) (drop 1 l)) (sym is_behind)

-- it does, and no point is behind it
pub no_point : (scopes : List (List ℕ)) (k : ℕ) (scope own rest behind point : List ℕ) → drop k scopes ≡ scope ∷ drop (k + 1) scopes
    → same (take (length scope) rest) scope ≡ true → behind ≡ drop (length scope) rest → point ≡ 46 ∷ [] → same (take (length point) behind) point ≡ false
    → same (path_of (drop k scopes) own) rest ≡ false
no_point scopes k scope own rest behind point split begins is_behind is_point other =
    one_scope scopes k scope own rest behind split begins is_behind
    ∙ ap (λ (t : Bool). t && same (path_of (drop (k + 1) scopes) own) (drop 1 behind)) (ap (λ (p : List ℕ). same (take (length p) behind) p) (sym is_point) ∙ other)

-- it does, with a point behind it
pub through_scope : (scopes : List (List ℕ)) (k : ℕ) (scope own rest behind point next : List ℕ) → drop k scopes ≡ scope ∷ drop (k + 1) scopes
    → same (take (length scope) rest) scope ≡ true → behind ≡ drop (length scope) rest
    → point ≡ 46 ∷ [] → same (take (length point) behind) point ≡ true → next ≡ drop (length point) behind
    → same (path_of (drop (k + 1) scopes) own) next ≡ same (path_of (drop k scopes) own) rest
through_scope scopes k scope own rest behind point next split begins is_behind is_point has_point is_next =
    ap (same (path_of (drop (k + 1) scopes) own)) (is_next ∙ ap (λ (p : List ℕ). drop (length p) behind) is_point)
    ∙ sym (one_scope scopes k scope own rest behind split begins is_behind
    ∙ ap (λ (t : Bool). t && same (path_of (drop (k + 1) scopes) own) (drop 1 behind)) (ap (λ (p : List ℕ). same (take (length p) behind) p) (sym is_point) ∙ has_point))

-- the variables that have the name, when one more is declared
pub sighted_more : (name : List ℕ) (vars : List Var) (v : Var)
    → sighted name (vars ++ v ∷ []) ≡ cond (is_named name v) (sighting_of (filter (is_named name) vars ++ v ∷ [])) (sighted name vars)
sighted_more name vars v = ap sighting_of (filter-append (is_named name) vars (v ∷ [])) ∙ by (is_named name v)
  where
    by : (t : Bool) → sighting_of (filter (is_named name) vars ++ cond t (v ∷ []) []) ≡ cond t (sighting_of (filter (is_named name) vars ++ v ∷ [])) (sighted name vars)
    by true = refl
    by false = ap sighting_of (append-nil (filter (is_named name) vars))

-- the code of those that have the name
answer_all : (vs : List Var) → answer_of (sighting_of vs) ≡ code_of_all vs
answer_all [] = refl
answer_all (v ∷ vs) =
    elim (list_all (λ w. same w.code v.code) vs) as (λ t. one_code (Some v.code) (not t) (list_any (λ w. w.wide) (v ∷ vs))
    ≡ cond t (cond (list_any (λ w. w.wide) (v ∷ vs)) (Err TooWide) (Ok v.code)) (Err TwoCodes)) [
      | true ↦ refl
      | false ↦ refl
    ]

pub answer_sighted : (name : List ℕ) (vars : List Var) → answer_of (sighted name vars) ≡ code_of vars name
answer_sighted name vars = answer_all (filter (is_named name) vars)

pub answer_sighted_if : (name : Option (List ℕ)) (vars : List Var) → answer_if name (sighted_if name vars) ≡ code_if name vars
answer_sighted_if None vars = refl
answer_sighted_if (Some name) vars = ap some_code (answer_sighted name vars)

-- the codes that were seen are those of the variables
pub codes_found : {E : Type 0} (result : Result (Result Signals VcdFault) E) (wanted : Signals) (s : HeaderState)
    → IfOk result (λ r. r ≡ all_found (answer_of s.crank) (answer_if wanted.cam1 s.cam1) (answer_if wanted.cam2 s.cam2))
    → IfOk result (λ r. (h : Header) → SumsUp wanted s h → r ≡ signals_of wanted h.vars)
codes_found (Ok r) wanted s is = λ h k.
    is
    ∙ ap (λ x. all_found x (answer_if wanted.cam1 s.cam1) (answer_if wanted.cam2 s.cam2)) (ap answer_of k.crank ∙ answer_sighted wanted.crank h.vars)
    ∙ ap (λ x. all_found (code_of h.vars wanted.crank) x (answer_if wanted.cam2 s.cam2)) (ap (answer_if wanted.cam1) k.cam1 ∙ answer_sighted_if wanted.cam1 h.vars)
    ∙ ap (λ x. all_found (code_of h.vars wanted.crank) (code_if wanted.cam1 h.vars) x) (ap (answer_if wanted.cam2) k.cam2 ∙ answer_sighted_if wanted.cam2 h.vars)
codes_found (Err e) wanted s is = tt
