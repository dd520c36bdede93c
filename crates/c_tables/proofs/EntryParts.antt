-- What a body gives by what its first token is.
use Rattle.std.proofs.Common.{◌≡◌, ℕ, List, [], ◌∷◌, ◌++◌, Result, Err, map, ap, sym, ◌∙◌}
use Rattle.std.specs.Prelude.{slice_range}
use Rattle.std.specs.Result.{result_map_both}
use Rattle.c_tables.specs.declared.fault.TableFault.{TableFault}
use Rattle.c_tables.specs.declared.fault.TableFault.TheVariants.{BadText}
use Rattle.c_tables.specs.declared.body.Wanted.{Wanted}
use Rattle.c_tables.specs.declared.body.Wanted.TheVariants.{CommaOrEnd, EntryOrEnd}
use Rattle.c_tables.specs.declared.body.Part.{Part}
use Rattle.c_tables.specs.declared.body.Part.TheVariants.{Entry, Comma, End, Misfit}
use Rattle.c_tables.specs.declared.tokens.Span.{Span}
use Rattle.c_tables.specs.Tokens.{Token}
use Rattle.c_tables.specs.Spans.{token_at, left}
use Rattle.c_tables.specs.Tables.{number, part_of, in_front, ended, entries}
use Rattle.c_tables.specs.Kept.{kept, kept_entries}
use Rattle.c_tables.proofs.EntryValues.{kept-in_front, all_in_front, all_in_front-push}

-- the values as they are kept, or the fault
abbrev pub as_kept : Result (List ℕ) TableFault → Result (List ℕ) TableFault
as_kept r = result_map_both (map kept) (λ fault. fault) r

-- what a body gives whose first token is this part
abbrev pub by_part : ℕ → Token → List Token → Part → Result (List ℕ) TableFault
by_part end t ts part = elim part [
  | Entry ↦ in_front (number t.text) (entries end CommaOrEnd ts)
  | Comma ↦ entries end EntryOrEnd ts
  | End ↦ ended end ts
  | Misfit ↦ Err (BadText t.at)
]

-- a body gives what its first token makes of it
pub first_told : (source : List ℕ) (at end : ℕ) (wanted : Wanted) (span : Span) (text : List ℕ) (part : Part)
    → left source at ≡ token_at source span ∷ left source span.end → text ≡ slice_range source span.at span.end → part ≡ part_of wanted text
    → kept_entries end wanted (left source at) ≡ as_kept (by_part end (token_at source span) (left source span.end) part)
first_told source at end wanted span text part first same told =
    ap (kept_entries end wanted) first
    ∙ ap (λ p. as_kept (by_part end (token_at source span) (left source span.end) p)) (ap (part_of wanted) (sym same) ∙ sym told)

-- the value of an entry stands behind those before it
pub entry_pushed : (end : ℕ) (values text digits : List ℕ) (value : ℕ) (ts : List Token) → text ≡ digits → value ≡ kept (number text)
    → all_in_front values (as_kept (in_front (number digits) (entries end CommaOrEnd ts))) ≡ all_in_front (values ++ value ∷ []) (kept_entries end CommaOrEnd ts)
entry_pushed end values text digits value ts same slot =
    ap (all_in_front values) (kept-in_front (number digits) (entries end CommaOrEnd ts))
    ∙ ap (λ v. all_in_front values (in_front v (kept_entries end CommaOrEnd ts))) (sym (slot ∙ ap (λ t. kept (number t)) same))
    ∙ sym (all_in_front-push values value (kept_entries end CommaOrEnd ts))
