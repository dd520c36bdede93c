-- What is loaded, taken further.
use Rattle.std.proofs.Common.{◌≡◌, ℕ, inl, inr, List, Option, None, Result, Ok, Err, subst, ◌∙◌, arith}
use Rattle.shelf_traits.specs.Count.{RoseWhere}
use Rattle.shelf_traits.specs.Shelf.{View}
use Rattle.run_ends.specs.declared.cause.Cause.{Cause}
use Rattle.run_ends.specs.declared.cause.Cause.TheVariants as cause
use Rattle.shelf_io.specs.Touching.{Opened, Touches}
use Rattle.run_ends.specs.Works.{Told, StopsOpen, StopsRead}
use Rattle.run_ends.specs.Loads.{Loads}

-- a count that stays where this is not so
pub stays : (before now : ℕ) (fact : Type 0) → (fact → ⊥) → now ≡ before → RoseWhere fact before now
stays before now fact n same = record { later = omega (arith, same); rose = λ is. absurd (n is); stays = λ h. same }

-- a fact of files over a shelf that still has those of another
pub told_before : (t v : View) (opened : List Opened) (F : (List ℕ → Option (List ℕ)) → Type 0) → Touches t v opened None None → Told v (F v.file) → Told t (F t.file)
told_before t v opened F p h = λ told. subst F (p.files told) (h (p.tells ∙ told))

open_before : (t v : View) (opened : List Opened) (name : List ℕ) (e : Cause) → Touches t v opened None None → StopsOpen v name e → StopsOpen t name e
open_before t v opened name cause.ReadFault p h = λ told steady. subst (λ file. file name ≡ None) (p.files told) (h (p.tells ∙ told) (p.steady steady))
open_before t v opened name cause.Memory p h = h
open_before t v opened name cause.Usage p h = h
open_before t v opened name (cause.Refused r) p h = h
open_before t v opened name (cause.Limit l) p h = h
open_before t v opened name cause.WriteFault p h = h

read_before : (t v : View) (opened : List Opened) (G : (List ℕ → Option (List ℕ)) → Cause → Type 0) (e : Cause) → Touches t v opened None None → StopsRead v (G v.file) e → StopsRead t (G t.file) e
read_before t v opened G cause.ReadFault p h = λ steady. h (p.steady steady)
read_before t v opened G cause.Memory p h = h
read_before t v opened G cause.Usage p h = h
read_before t v opened G (cause.Refused r) p h = told_before t v opened (λ file. G file (cause.Refused r)) p h
read_before t v opened G (cause.Limit l) p h = told_before t v opened (λ file. G file (cause.Limit l)) p h
read_before t v opened G cause.WriteFault p h = h

-- what a later load says of files is so of those that were told before
pub loads_before : {X : Type 0} (t v w : View) (opened : List Opened) (name : List ℕ) (G : (List ℕ → Option (List ℕ)) → Cause → Type 0) (A : (List ℕ → Option (List ℕ)) → X → Type 0) (r : Result X Cause)
    → Touches t v opened None None → Loads v v w name (G v.file) (A v.file) r → Loads t v w name (G t.file) (A t.file) r
loads_before t v w opened name G A (Ok x) p h = (h.0, (told_before t v opened (λ file. A file x) p h.1.0, h.1.1))
loads_before t v w opened name G A (Err e) p (rose, inl (touches, stops)) = (rose, inl (touches, open_before t v opened name e p stops))
loads_before t v w opened name G A (Err e) p (rose, inr (read, stops)) = (rose, inr (read, read_before t v opened G e p stops))

-- a file that is accepted is accepted as what follows of that
pub loads_as : {X : Type 0} (t v w : View) (name : List ℕ) (gives : Cause → Type 0) (A B : X → Type 0) (r : Result X Cause) → ((x : X) → A x → B x) → Loads t v w name gives A r → Loads t v w name gives B r
loads_as t v w name gives A B (Ok x) more h = (h.0, ((λ told. more x (h.1.0 told)), h.1.1))
loads_as t v w name gives A B (Err e) more h = h
