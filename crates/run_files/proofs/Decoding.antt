-- A file that is opened and read, and what its bytes mean.
use Rattle.std.proofs.Common.{◌≡◌, ◌≢◌, ℕ, ◌+◌, ◌^◌, ◌<◌, ◌≤◌, ◌⊎◌, inl, inr, List, [], ◌∷◌, length, drop, Option, None, Some, Result, Ok, Err, refl, sym, ◌∙◌, subst, ap, arith}
use Rattle.std.specs.Prelude.{IsTrue, IsSome, unwrap_or}
use Rattle.shelf_traits.specs.Shelf.{View, Position, Opens, ReadsOn, left_at}
use Rattle.shelf_io.specs.declared.fault.LoadFault.{LoadFault}
use Rattle.shelf_io.specs.declared.fault.LoadFault.TheVariants as load
use Rattle.shelf_io.specs.Touching.{Touches}
use Rattle.run_ends.specs.Works.{read_slot}
use Rattle.run_ends.specs.Loads.{HasRead}
use Rattle.run_files.specs.Files.{IsTooLong}

-- a file that was opened and read
pub has_read : (v u w : View) (name : List ℕ) (slot : ℕ) → Opens v u name (Ok slot) → ReadsOn u w slot → (IsTrue u.tells → (w.place slot).name ≡ (u.place slot).name) → HasRead v w name
has_read v u w name slot o r same = record {
  taken = (w.place slot).at;
  touches = record {
    counts_in = omega (arith, o.no_less, r.no_less);
    counts_out = r.out ∙ o.out;
    ways = r.ways ∙ o.slot.1;
    tells = r.tells ∙ o.tells;
    steady = λ h. r.steady (o.steady h);
    places = λ told s below. let number : slot ≡ length v.ways = o.slot.0 in
        r.others (o.tells ∙ told) s (λ is. let e : s ≡ slot = is in omega (arith, e, number, below)) ∙ o.others told s below;
    stand = λ told. (
      subst (λ s. w.place s ≡ record { name = name; at = (w.place slot).at }) o.slot.0
          (ap (λ n. let p : Position = record { name = n; at = (w.place slot).at } in p) (same (o.tells ∙ told) ∙ ap (λ (p : Position). p.name) (o.place told))),
      tt,
    );
    files = λ told. r.files (o.tells ∙ told) ∙ o.files told;
  };
}

too_long_by : (file : List ℕ → Option (List ℕ)) (name : List ℕ) (o : Option (List ℕ)) → file name ≡ o → IsSome o → 2 ^ 28 < length (drop 0 (unwrap_or o [])) → IsTooLong file name
too_long_by file name None is some long = absurd (cc)
too_long_by file name (Some bytes) is some long = (bytes, (is, long))

-- more bytes are left past the open than a file may have
pub too_long : (v u : View) (name : List ℕ) (slot : ℕ) → Opens v u name (Ok slot) → IsTrue v.tells → 2 ^ 28 < length (left_at u slot) → IsTooLong v.file name
too_long v u name slot o told long =
    let left : left_at u slot ≡ drop 0 (unwrap_or (v.file name) []) = ap (λ (p : Position). drop p.at (unwrap_or (u.file p.name) [])) (o.place told) ∙ ap (λ (f : List ℕ → Option (List ℕ)). drop 0 (unwrap_or (f name) [])) (o.files told) in
    too_long_by v.file name (v.file name) refl (o.there told) (subst (λ l. 2 ^ 28 < length l) left long)

-- a load that ends for another fault did not fail
pub not_failed : {T : Type 0} (r : Result T LoadFault) (fault : LoadFault) → r ≡ Err fault → (fault ≡ load.Failed → ⊥) → r ≡ Err load.Failed → ⊥
not_failed r fault is other failed = let same : fault ≡ load.Failed = cc in other same
