-- A file that is created, and pieces that are put into it.
use Rattle.std.proofs.Common.{◌≡◌, ℕ, inl, List, [], ◌∷◌, ◌++◌, take, Some, Result, Ok, Err, sym, ◌∙◌, subst}
use Rattle.std.specs.Prelude.{IsTrue, OnOk, OnErr, IfErr}
use Rattle.shelf_traits.specs.Count.{Rose}
use Rattle.shelf_traits.specs.Shelf.{View, WritesOn}
use Rattle.shelf_io.specs.Touching.{Opened, Touches}
use Rattle.shelf_io.proofs.Touching.{touches_put}
use Rattle.run_ends.specs.declared.cause.Cause.{Cause}
use Rattle.run_ends.specs.Stages.{write_slot}
use Rattle.run_ends.specs.Filing.{StoppedOver, HasCreated, Grows, GrowsByFront, HasText, HasFront, MakesFile}

-- a created file's text, once a piece was put into it
pub touches_grown : (u v w : View) (opened : List Opened) (name text piece : List ℕ) (slot : ℕ) → Touches u v opened (Some name) (Some text) → WritesOn v w slot → (IsTrue v.tells → (v.place slot).name ≡ name)
    → Grows v w slot piece → Touches u w opened (Some name) (Some (text ++ piece))
touches_grown u v w opened name text piece slot p q named more =
    touches_put u v w opened name text (text ++ piece) slot p q named (λ told.
    subst (λ (n : List ℕ). w.file n ≡ Some (text ++ piece)) (named told)
    (more told text (subst (λ (n : List ℕ). v.file n ≡ Some text) (sym (named told)) ((p.files (sym p.tells ∙ told)).0))))

-- what stopped past calls on which no count rose
pub stopped_after : (u v w : View) (e : Cause) → v.faults_out ≡ u.faults_out → v.faults_in ≡ u.faults_in → (IsTrue u.steady → IsTrue v.steady) → StoppedOver v w e → StoppedOver u w e
stopped_after u v w e out reads still s = record {
  kinds = s.kinds;
  fault = λ is. let failed = s.fault is in record { rose = subst (λ n. Rose n w.faults_out) out failed.rose; unsteady = λ steady. failed.unsteady (still steady) };
  settled = λ n. s.settled n ∙ out;
  reads = s.reads ∙ reads;
}

-- the created file got the whole text
pub text_made : (u v w : View) (name text : List ℕ) (slot : ℕ) → HasCreated u v name slot → WritesOn v w slot → Grows v w slot text → w.faults_out ≡ v.faults_out → HasText u w name text
text_made u v w name text slot c q more same = record {
  touches = touches_grown u v w (write_slot name ∷ []) name [] text slot c.touches q c.named more;
  reads = q.reads ∙ c.reads;
  writes = same ∙ c.writes;
}

-- it got a front of it
pub front_made : (u v w : View) (name text : List ℕ) (slot : ℕ) (e : Cause) → HasCreated u v name slot → WritesOn v w slot → GrowsByFront v w slot text → StoppedOver v w e → HasFront u w name text e
front_made u v w name text slot e c q (k, (within, more)) s = record {
  stopped = stopped_after u v w e c.writes c.reads c.touches.steady s;
  got = k;
  within = within;
  touches = touches_grown u v w (write_slot name ∷ []) name [] (take k text) slot c.touches q c.named more;
}

-- what putting the text came to, past the creation of its file
pub makes : (u v w : View) (name text : List ℕ) (slot : ℕ) (r : Result Unit Cause) → HasCreated u v name slot → WritesOn v w slot → OnOk r (Grows v w slot text) → OnOk r (w.faults_out ≡ v.faults_out)
    → OnErr r (GrowsByFront v w slot text) → IfErr r (StoppedOver v w) → MakesFile u w name text r
makes u v w name text slot (Ok x) c q more same front stopped = text_made u v w name text slot c q more same
makes u v w name text slot (Err e) c q more same front stopped = inl (front_made u v w name text slot e c q front stopped)
