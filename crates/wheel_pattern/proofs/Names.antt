-- The names at the top of a document, beside the keys that they may be.
use Rattle.std.proofs.Common.{◌≡◌, ℕ, true, false, ◌&&◌, List, [], ◌∷◌, Option, Some, None, String, Global, string_bytes, Ordering, Less, Equal, Greater, nat_cmp, is_eq, inl, inr, refl, ap, sym, ◌∙◌}
use Rattle.std.proofs.lemmas.Bool.{and_parts, cases_Bool, false≢true}
use Rattle.std.proofs.lemmas.Map.Text.{is_eq-slice_cmp}
use Rattle.std.proofs.lemmas.Slice.Eq.{bytes_eq-Decides}
use Rattle.std.specs.Prelude.{bytes_eq}
use Rattle.std.specs.Cmp.Lexicographic.{slice_cmp}
use Rattle.std.specs.List.{list_all}
use Rattle.std.specs.Map.{keys_of}
use Rattle.std.specs.Ordering.{match_ordering}
use Rattle.toml.specs.Data.{Data, Members, no_members, member, get_member}
use Rattle.toml.specs.View.{members_view}
use Rattle.toml.specs.declared.value.Value.{Value}
use Rattle.wheel_pattern.specs.declared.keys.Key.{Key}
use Rattle.wheel_pattern.specs.declared.keys.Key.TheVariants.{Degrees, Slots, Teeth, Missing, Cam1High, Cam2High, Crank, Cam1, Cam2, Cam1Early, Cam1Late, Cam2Early, Cam2Late, RpmLow, RpmHigh, Ratio}
use Rattle.wheel_pattern.specs.Keys.{text_of, all_keys, is_named, has_only}

-- the names of a table, by its entries and by its members
pub names-only : (keys : List Key) (es : List (String Global × Value)) → list_all (λ k. is_named keys (string_bytes k)) (keys_of es) ≡ has_only keys (members_view es)
names-only keys [] = refl
names-only keys (e ∷ es) = ap (λ b. is_named keys (string_bytes e.0) && b) (names-only keys es)

-- the key that a name is the text of
pub named_key : (keys : List Key) (name : List ℕ) → is_named keys name ≡ true → (k : Key) × (name ≡ text_of k)
named_key [] name h = absurd (false≢true h)
named_key (k ∷ ks) name h = elim (cases_Bool (bytes_eq name (text_of k))) [
  | inl same ↦ (k, (bytes_eq-Decides name (text_of k)).0 same)
  | inr other ↦ named_key ks name (rw other at h)
]

text_known : (k : Key) → is_named all_keys (text_of k) ≡ true
text_known Degrees = refl
text_known Slots = refl
text_known Teeth = refl
text_known Missing = refl
text_known Cam1High = refl
text_known Cam2High = refl
text_known Crank = refl
text_known Cam1 = refl
text_known Cam2 = refl
text_known Cam1Early = refl
text_known Cam1Late = refl
text_known Cam2Early = refl
text_known Cam2Late = refl
text_known RpmLow = refl
text_known RpmHigh = refl
text_known Ratio = refl

name_known : (keys : List Key) (name : List ℕ) → is_named keys name ≡ true → is_named all_keys name ≡ true
name_known keys name h = let k = named_key keys name h in ap (is_named all_keys) k.1 ∙ text_known k.0

-- where each name is one of some keys, each is one of all
pub has_only-all : (keys : List Key) (ms : Members) → has_only keys ms ≡ true → has_only all_keys ms ≡ true
has_only-all keys no_members h = refl
has_only-all keys (member name d ms) h =
    let parts = and_parts (is_named keys name) (has_only keys ms) h in
    rw (name_known keys name parts.0, has_only-all keys ms parts.1) refl

apart : (keys : List Key) (name other : List ℕ) → is_named keys name ≡ false → is_named keys other ≡ true → bytes_eq name other ≡ false
apart keys name other f t = elim (cases_Bool (bytes_eq name other)) [
  | inl same ↦ absurd (false≢true (sym f ∙ ap (is_named keys) ((bytes_eq-Decides name other).0 same) ∙ t))
  | inr different ↦ different
]

passed_over : (o : Ordering) (d : Data) (rest : Option Data) → is_eq o ≡ false → match_ordering o rest (Some d) rest ≡ rest
passed_over Less d rest h = refl
passed_over Equal d rest h = absurd (false≢true (sym h))
passed_over Greater d rest h = refl

-- nothing stands at a name that is none of the keys
pub absent : (keys : List Key) (name : List ℕ) (ms : Members) → is_named keys name ≡ false → has_only keys ms ≡ true → get_member name ms ≡ None
absent keys name no_members f h = refl
absent keys name (member l d ms) f h =
    let parts = and_parts (is_named keys l) (has_only keys ms) h in
    passed_over (slice_cmp nat_cmp name l) d (get_member name ms) (is_eq-slice_cmp name l ∙ apart keys name l f parts.0)
    ∙ absent keys name ms f parts.1
