-- The places of the columns with a name.
use Rattle.std.proofs.Common.{◌≡◌, ◌∙◌, ◌<◌, ◌+◌, ℕ, zero, suc, true, false, List, [], ◌∷◌, ◌++◌, length, drop, Option, Some, None, Result, Err, is_some, refl, ap, arith}
use Rattle.std.specs.Option.{option_to_list}
use Rattle.csv.specs.Records.{field_at}
use Rattle.capture_core.specs.declared.capture.Column.{Column}
use Rattle.capture_core.specs.declared.capture.CsvFault.{CsvFault}
use Rattle.capture_core.specs.declared.capture.CsvFault.TheVariants.{TwoColumns}
use Rattle.csv_capture.specs.Fields.{field_text, same}
use Rattle.csv_capture.specs.Header.{only_one, places_from}

-- the field at a place is the first after those before it
record At (fields : List (List ℕ)) (at : ℕ) : Type 0 where
  field : List ℕ
  here : field_at fields at ≡ Some field
  split : drop at fields ≡ field ∷ drop (suc at) fields

field_of : (fields : List (List ℕ)) (at : ℕ) → at < length fields → At fields at
unfolding field_at
field_of [] at h = absurd (omega arith)
field_of (f ∷ fs) zero h = record { field = f; here = refl; split = refl }
field_of (f ∷ fs) (suc at) h =
    let more = field_of fs at (omega arith) in
    record { field = more.field; here = more.here; split = more.split }

pub places-here : (at : ℕ) (name : List ℕ) (fields : List (List ℕ)) → at < length fields → same (field_text fields at) name ≡ true
    → places_from at name (drop at fields) ≡ at ∷ places_from (at + 1) name (drop (at + 1) fields)
places-here at name fields h is =
    let f = field_of fields at h in
    let named = rw f.here at is in
    let next : suc at ≡ at + 1 = omega arith in
    ap (places_from at name) f.split ∙ rw (named, ← next) refl

pub places-there : (at : ℕ) (name : List ℕ) (fields : List (List ℕ)) → at < length fields → same (field_text fields at) name ≡ false
    → places_from at name (drop at fields) ≡ places_from (at + 1) name (drop (at + 1) fields)
places-there at name fields h is =
    let f = field_of fields at h in
    let named = rw f.here at is in
    let next : suc at ≡ at + 1 = omega arith in
    ap (places_from at name) f.split ∙ rw (named, ← next) refl

-- a place was found before
pub two_columns : (column : Column) (found : Option ℕ) (at : ℕ) (more places : List ℕ) → is_some found ≡ true → places ≡ option_to_list found ++ at ∷ more
    → ◌≡◌ {A = Result ℕ CsvFault} (Err (TwoColumns column)) (only_one column places)
two_columns column None at more places is e = cc is
two_columns column (Some first) at more places is e = rw e refl

-- none was
pub first_found : (found : Option ℕ) (at : ℕ) (more places : List ℕ) → is_some found ≡ false → places ≡ option_to_list found ++ at ∷ more → places ≡ at ∷ more
first_found None at more places is e = e
first_found (Some first) at more places is e = cc is
