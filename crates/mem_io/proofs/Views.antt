-- How the calls of a shelf in memory change its view.
use Rattle.std.proofs.Common.{◌≡◌, ◌≢◌, ℕ, ◌+◌, ◌<◌, Bool, List, [], ◌∷◌, ◌++◌, length, take, drop, set, get_or, sym, ap, ◌∙◌, subst, refl, arith, Some, Ok, unwrap_or, IsTrue}
use Rattle.std.proofs.Math.Seq.{get_or-append_seam}
use Rattle.std.proofs.lemmas.List.{get_or_append_left, get_or-set_same, length-map}
use Rattle.shelf_traits.specs.declared.shelf.Way.{Way}
use Rattle.shelf_traits.specs.declared.shelf.Way.TheVariants.{Reads, Writes}
use Rattle.shelf_traits.specs.Shelf.{Position, Opens, Creates, Gave, file_at}
use Rattle.mem_io.specs.Named.{file_in, IsNamed, SlotsNamed, KeepsNames}
use Rattle.mem_io.specs.MemShelf.{view_of, position_in}
use Rattle.mem_io.specs.Slots.{ways_of, files_of, places_of}
use Rattle.mem_io.specs.declared.mem_slots.Slots.{Slots}
use Rattle.mem_io.proofs.Names.{file_named}

-- the lists of slots are as long
pub ways_files : (s : Slots) → length (ways_of s) ≡ length (files_of s)
ways_files s = length-map s.list.items (λ x. x.way) ∙ sym (length-map s.list.items (λ x. x.file))

pub files_places : (s : Slots) → length (files_of s) ≡ length (places_of s)
files_places s = length-map s.list.items (λ x. x.file) ∙ sym (length-map s.list.items (λ x. x.at))

-- a position is its name and its place
pub same_position : (m n : List ℕ) (a b : ℕ) → m ≡ n → a ≡ b → (let p : Position = record { name = m; at = a } in p) ≡ (let p : Position = record { name = n; at = b } in p)
same_position m n a b p q = cc

-- the position of a slot that was there before a slot was added
pub position_kept : (names names' : List (List ℕ)) (files places : List ℕ) (file s : ℕ) → KeepsNames names names' → SlotsNamed names files → length files ≡ length places → s < length files
    → position_in names' (files ++ file ∷ []) (places ++ 0 ∷ []) s ≡ position_in names files places s
position_kept names names' files places file s kept named e h =
    let at : get_or (places ++ 0 ∷ []) s 0 ≡ get_or places s 0 = get_or_append_left places (0 ∷ []) 0 s (omega arith) in
    let of : get_or (files ++ file ∷ []) s 0 ≡ get_or files s 0 = get_or_append_left files (file ∷ []) 0 s h in
    same_position _ _ _ _ (ap (λ f. get_or names' f []) of ∙ kept.same (get_or files s 0) ((named s h).within)) at

-- the position of the slot that was added
pub position_added : (names : List (List ℕ)) (files places : List ℕ) (file slot : ℕ) (name : List ℕ) → length files ≡ length places → slot ≡ length files → IsNamed names file name
    → position_in names (files ++ file ∷ []) (places ++ 0 ∷ []) slot ≡ (let p : Position = record { name = name; at = 0 } in p)
position_added names files places file slot name e s n =
    same_position _ _ _ _
    (ap (λ f. get_or names f []) (ap (λ k. get_or (files ++ file ∷ []) k 0) s ∙ get_or-append_seam files file [] 0) ∙ n.here)
    (ap (λ k. get_or (places ++ 0 ∷ []) k 0) (s ∙ e) ∙ get_or-append_seam places 0 [] 0)

-- the bytes of a slot's file
pub file_here : (i o : ℕ) (ways : List Way) (st : Bool) (names contents : List (List ℕ)) (files places : List ℕ) (slot : ℕ) → length names ≡ length contents
    → IsNamed names (get_or files slot 0) (get_or names (get_or files slot 0) []) → file_at (view_of i o ways st names contents files places) slot ≡ get_or contents (get_or files slot 0) []
file_here i o ways st names contents files places slot e n = ap (λ b. unwrap_or b []) (file_named names contents (get_or files slot 0) _ e n)

-- a read
pub gave_ok : (i o i' o' : ℕ) (ways ways' : List Way) (st st' : Bool) (names contents : List (List ℕ)) (files files' places places' : List ℕ) (slot file at count : ℕ) (buf : List ℕ)
    → files' ≡ files → places' ≡ set places slot (at + count) → slot < length places → file ≡ get_or files slot 0 → at ≡ get_or places slot 0
    → length names ≡ length contents → IsNamed names (get_or files slot 0) (get_or names (get_or files slot 0) [])
    → drop at (get_or contents file []) ≡ take count buf ++ drop (at + count) (get_or contents file []) → (count ≡ 0 → drop at (get_or contents file []) ≡ [])
    → Gave (view_of i o ways st names contents files places) (view_of i' o' ways' st' names contents files' places') slot buf count
gave_ok i o i' o' ways ways' st st' names contents files files' places places' slot file at count buf ef ep h ff fa e n given end =
    let here : file_at (view_of i o ways st names contents files places) slot ≡ get_or contents file [] =
    file_here i o ways st names contents files places slot e n ∙ ap (λ f. get_or contents f []) (sym ff) in
    let same : get_or files' slot 0 ≡ get_or files slot 0 = ap (λ l. get_or l slot 0) ef in
    let n' : IsNamed names (get_or files' slot 0) (get_or names (get_or files' slot 0) []) = subst (λ f. IsNamed names f (get_or names f [])) (sym same) n in
    let there : file_at (view_of i' o' ways' st' names contents files' places') slot ≡ get_or contents file [] =
    file_here i' o' ways' st' names contents files' places' slot e n' ∙ ap (λ f. get_or contents f []) (same ∙ sym ff) in
    let moved : get_or places' slot 0 ≡ at + count = ap (λ l. get_or l slot 0) ep ∙ get_or-set_same places slot (at + count) 0 h in
    let left : drop (get_or places slot 0) (file_at (view_of i o ways st names contents files places) slot) ≡ drop at (get_or contents file []) = cc in
    let rest : drop (get_or places' slot 0) (file_at (view_of i' o' ways' st' names contents files' places') slot) ≡ drop (at + count) (get_or contents file []) = cc in
    record {
      bytes = left ∙ given ∙ ap (λ l. take count buf ++ l) (sym rest);
      moved = moved ∙ ap (λ a. a + count) fa;
      name = ap (λ f. get_or names f []) same;
      end = λ z. left ∙ end z;
    }

-- an open that answers a slot
pub opens_ok : (i o : ℕ) (ways ways' : List Way) (st st' : Bool) (names contents : List (List ℕ)) (files files' places places' : List ℕ) (slot file : ℕ) (name : List ℕ)
    → ways' ≡ ways ++ Reads ∷ [] → files' ≡ files ++ file ∷ [] → places' ≡ places ++ 0 ∷ [] → slot ≡ length ways → length ways ≡ length files → length files ≡ length places
    → length names ≡ length contents → SlotsNamed names files → IsNamed names file name → (IsTrue st → IsTrue st')
    → Opens (view_of i o ways st names contents files places) (view_of i o ways' st' names contents files' places') name (Ok slot)
opens_ok i o ways ways' st st' names contents files files' places places' slot file name ew ef ep s e1 e2 e3 named n calm =
    let there : file_in names contents name ≡ Some (get_or contents file []) = file_named names contents file name e3 n in
    record {
      no_less = omega arith;
      failed = λ h. absurd (cc);
      quiet = λ h. refl;
      out = refl;
      slot = (s, ew);
      no_slot = tt;
      tells = refl;
      steady = calm;
      files = λ h. refl;
      place = λ h. ap (λ l. position_in names l places' slot) ef ∙ ap (λ l. position_in names (files ++ file ∷ []) l slot) ep ∙ position_added names files places file slot name e2 (s ∙ e1) n;
      there = λ h. rw there refl;
      others = λ h t l. ap (λ l. position_in names l places' t) ef ∙ ap (λ l. position_in names (files ++ file ∷ []) l t) ep
          ∙ position_kept names names files places file t (record { longer = omega arith; same = λ k q. refl }) named e2 (omega arith);
      calm = λ h f. absurd (cc);
      calm_count = λ h f. refl;
    }

-- a create that answers a slot
pub creates_ok : (i o : ℕ) (ways ways' : List Way) (st st' : Bool) (names names' contents contents' : List (List ℕ)) (files files' places places' : List ℕ) (slot file : ℕ) (name : List ℕ)
    → ways' ≡ ways ++ Writes ∷ [] → files' ≡ files ++ file ∷ [] → places' ≡ places ++ 0 ∷ [] → slot ≡ length ways → length ways ≡ length files → length files ≡ length places
    → KeepsNames names names' → SlotsNamed names files → IsNamed names' file name → (IsTrue st → IsTrue st')
    → file_in names' contents' name ≡ Some [] → ((m : List ℕ) → m ≢ name → file_in names' contents' m ≡ file_in names contents m)
    → Creates (view_of i o ways st names contents files places) (view_of i o ways' st' names' contents' files' places') name (Ok slot)
creates_ok i o ways ways' st st' names names' contents contents' files files' places places' slot file name ew ef ep s e1 e2 kept named n calm emptied others =
    let added : position_in names' files' places' slot ≡ (let p : Position = record { name = name; at = 0 } in p) =
    ap (λ l. position_in names' l places' slot) ef ∙ ap (λ l. position_in names' (files ++ file ∷ []) l slot) ep ∙ position_added names' files places file slot name e2 (s ∙ e1) n in
    record {
      no_less = omega arith;
      failed = λ h. absurd (cc);
      quiet = λ h. refl;
      reads = refl;
      slot = (s, ew);
      no_slot = tt;
      tells = refl;
      steady = calm;
      emptied = λ h. emptied;
      place = λ h. added;
      other_files = λ h. others;
      unmade = λ h. tt;
      others = λ h t l. ap (λ l. position_in names' l places' t) ef ∙ ap (λ l. position_in names' (files ++ file ∷ []) l t) ep
          ∙ position_kept names names' files places file t kept named e2 (omega arith);
      calm = λ h. refl;
      no_fault = λ h f. cc;
    }
