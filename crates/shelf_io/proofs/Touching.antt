-- Calls over a shelf, one after the other.
use Rattle.std.proofs.Common.{◌≡◌, ℕ, ◌+◌, ◌≤◌, ◌<◌, List, [], ◌∷◌, ◌++◌, map, length, Option, None, Some, Ok, Err, refl, sym, ◌∙◌, subst, ap, arith, append_assoc, length-append, append-nil}
use Rattle.std.specs.Prelude.{◌≢◌, IsTrue}
use Rattle.shelf_traits.specs.declared.fault.IoFault.{IoFault}
use Rattle.shelf_traits.specs.declared.shelf.Way.TheVariants as way
use Rattle.shelf_traits.specs.Shelf.{View, Position, Creates, ReadsOn, WritesOn}
use Rattle.shelf_io.specs.Touching.{Opened, StandAt, CountsOut, FilesLeft, Touches}

counts_after : (u v w : View) (writes : Option (List ℕ)) → v.faults_out ≡ u.faults_out → CountsOut v w writes → CountsOut u w writes
counts_after u v w None e c = c ∙ e
counts_after u v w (Some name) e c = subst (λ n. n ≤ w.faults_out) e c

files_after : (u v w : View) (writes made : Option (List ℕ)) → v.file ≡ u.file → FilesLeft v w writes made → FilesLeft u w writes made
files_after u v w None made e f = f ∙ e
files_after u v w (Some name) None e f = f ∙ e
files_after u v w (Some name) (Some text) e f = (f.0, λ n d. f.1 n d ∙ ap (λ (g : List ℕ → Option (List ℕ)). g n) e)

-- a file that is loaded, and then the rest
pub touches_after : (u v w : View) (slot : Opened) (opened : List Opened) (writes made : Option (List ℕ)) → Touches u v (slot ∷ []) None None → Touches v w opened writes made
    → Touches u w (slot ∷ opened) writes made
touches_after u v w slot opened writes made p q =
    let size : length v.ways ≡ length u.ways + 1 = ap length p.ways ∙ length-append u.ways (slot.way ∷ []) in
    record {
      counts_in = omega (arith, p.counts_in, q.counts_in);
      counts_out = counts_after u v w writes p.counts_out q.counts_out;
      ways = q.ways ∙ ap (λ l. l ++ map (λ (o : Opened). o.way) opened) p.ways ∙ append_assoc u.ways (slot.way ∷ []) (map (λ (o : Opened). o.way) opened);
      tells = q.tells ∙ p.tells;
      steady = λ h. q.steady (p.steady h);
      places = λ told s h. let below : s < length v.ways = omega (arith, size, h) in q.places (p.tells ∙ told) s below ∙ p.places told s h;
      stand = λ told. (
        (let below : length u.ways < length v.ways = omega (arith, size) in q.places (p.tells ∙ told) (length u.ways) below ∙ (p.stand told).0),
        subst (λ n. StandAt w.place n opened) size (q.stand (p.tells ∙ told)),
      );
      files = λ told. files_after u v w writes made (p.files told) (q.files (p.tells ∙ told));
    }

-- a shelf that is not touched
pub untouched : (v : View) (writes : Option (List ℕ)) → Touches v v [] writes None
untouched v writes = record {
  counts_in = omega arith;
  counts_out = same_count v writes;
  ways = sym (append-nil v.ways);
  tells = refl;
  steady = λ h. h;
  places = λ told s h. refl;
  stand = λ told. tt;
  files = λ told. same_files v writes;
}
  where
    same_count : (v : View) (writes : Option (List ℕ)) → CountsOut v v writes
    same_count v None = refl
    same_count v (Some name) = omega arith

    same_files : (v : View) (writes : Option (List ℕ)) → FilesLeft v v writes None
    same_files v None = refl
    same_files v (Some name) = refl

count_lifted : (v w : View) (writes : Option (List ℕ)) → w.faults_out ≡ v.faults_out → CountsOut v w writes
count_lifted v w None e = e
count_lifted v w (Some name) e = omega (arith, e)

files_lifted : (v w : View) (writes : Option (List ℕ)) → w.file ≡ v.file → FilesLeft v w writes None
files_lifted v w None e = e
files_lifted v w (Some name) e = e

-- what leaves all files leaves all but one
pub touches_lifted : (v w : View) (opened : List Opened) (writes : Option (List ℕ)) → Touches v w opened None None → Touches v w opened writes None
touches_lifted v w opened writes p = record {
  counts_in = p.counts_in;
  counts_out = count_lifted v w writes p.counts_out;
  ways = p.ways;
  tells = p.tells;
  steady = p.steady;
  places = p.places;
  stand = p.stand;
  files = λ told. files_lifted v w writes (p.files told);
}

-- a file that was created: it is empty, and its slot is open
pub touches_created : (v w : View) (name : List ℕ) (slot : ℕ) → Creates v w name (Ok slot) → Touches v w (record { way = way.Writes; at = record { name = name; at = 0 } } ∷ []) (Some name) (Some [])
touches_created v w name slot p = record {
  counts_in = omega (arith, p.reads);
  counts_out = p.no_less;
  ways = p.slot.1;
  tells = p.tells;
  steady = p.steady;
  places = p.others;
  stand = λ told. (subst (λ (n : ℕ). w.place n ≡ (let at : Position = record { name = name; at = 0 } in at)) p.slot.0 (p.place told), tt);
  files = λ told. (p.emptied told, p.other_files told);
}

-- a file that was not created
pub touches_uncreated : (v w : View) (name : List ℕ) (e : IoFault) → Creates v w name (Err e) → Touches v w [] (Some name) None
touches_uncreated v w name e p = record {
  counts_in = omega (arith, p.reads);
  counts_out = p.no_less;
  ways = p.no_slot ∙ sym (append-nil v.ways);
  tells = p.tells;
  steady = p.steady;
  places = p.others;
  stand = λ told. tt;
  files = λ told. p.unmade told;
}

-- the created file's text, where calls write only to it
pub touches_put : (u v w : View) (opened : List Opened) (name text new : List ℕ) (slot : ℕ) → Touches u v opened (Some name) (Some text) → WritesOn v w slot
    → (IsTrue v.tells → (v.place slot).name ≡ name) → (IsTrue v.tells → w.file name ≡ Some new) → Touches u w opened (Some name) (Some new)
touches_put u v w opened name text new slot p q named is = record {
  counts_in = omega (arith, p.counts_in, q.reads);
  counts_out = omega (arith, p.counts_out, q.no_less);
  ways = q.ways ∙ p.ways;
  tells = q.tells ∙ p.tells;
  steady = λ h. q.steady (p.steady h);
  places = λ told s h. ap (λ (place : ℕ → Position). place s) (q.place (p.tells ∙ told)) ∙ p.places told s h;
  stand = λ told. subst (λ (place : ℕ → Position). StandAt place (length u.ways) opened) (sym (q.place (p.tells ∙ told))) (p.stand told);
  files = λ told. (
    is (p.tells ∙ told),
    λ n differs. q.files (p.tells ∙ told) n (λ same. differs (same ∙ named (p.tells ∙ told))) ∙ (p.files told).1 n differs,
  );
}

counts_kept : (u v w : View) (writes : Option (List ℕ)) → w.faults_out ≡ v.faults_out → CountsOut u v writes → CountsOut u w writes
counts_kept u v w None e c = e ∙ c
counts_kept u v w (Some name) e c = subst (λ n. u.faults_out ≤ n) (sym e) c

files_kept : (u v w : View) (writes made : Option (List ℕ)) → w.file ≡ v.file → FilesLeft u v writes made → FilesLeft u w writes made
files_kept u v w None made e f = e ∙ f
files_kept u v w (Some name) None e f = e ∙ f
files_kept u v w (Some name) (Some text) e f = (ap (λ (g : List ℕ → Option (List ℕ)). g name) e ∙ f.0, λ n d. ap (λ (g : List ℕ → Option (List ℕ)). g n) e ∙ f.1 n d)

-- the slots past one that is read stand as before
stand_past : (place moved : ℕ → Position) (read from : ℕ) (opened : List Opened) → read < from → ((s : ℕ) → s ≢ read → moved s ≡ place s) → StandAt place from opened → StandAt moved from opened
stand_past place moved read from [] past others h = tt
stand_past place moved read from (o ∷ more) past others h =
    (others from (λ is. not_past read from past is) ∙ h.0, stand_past place moved read (from + 1) more (omega (arith, past)) others h.1)
  where
    not_past : (read from : ℕ) → read < from → from ≡ read → ⊥
    not_past read from past is = omega (arith, past, is)

-- the first of the slots was read, whatever was opened past it
pub touches_read : (u v w : View) (name : List ℕ) (before taken : ℕ) (more : List Opened) (writes made : Option (List ℕ))
    → Touches u v (record { way = way.Reads; at = record { name = name; at = before } } ∷ more) writes made → ReadsOn v w (length u.ways)
    → (IsTrue v.tells → w.place (length u.ways) ≡ (let at : Position = record { name = name; at = taken } in at))
    → Touches u w (record { way = way.Reads; at = record { name = name; at = taken } } ∷ more) writes made
touches_read u v w name before taken more writes made p q is = record {
  counts_in = omega (arith, p.counts_in, q.no_less);
  counts_out = counts_kept u v w writes q.out p.counts_out;
  ways = q.ways ∙ p.ways;
  tells = q.tells ∙ p.tells;
  steady = λ h. q.steady (p.steady h);
  places = λ told s h. q.others (p.tells ∙ told) s (λ same. not_below s (length u.ways) h same) ∙ p.places told s h;
  stand = λ told. (is (p.tells ∙ told), stand_past v.place w.place (length u.ways) (length u.ways + 1) more (omega arith) (q.others (p.tells ∙ told)) (p.stand told).1);
  files = λ told. files_kept u v w writes made (q.files (p.tells ∙ told)) (p.files told);
}
  where
    not_below : (s from : ℕ) → s < from → s ≡ from → ⊥
    not_below s from below is = omega (arith, below, is)
