-- Serving put together, one call after the other: a load that stops the work, one after which it goes on, and what is written at its end.
use Rattle.std.proofs.Common.{◌≡◌, ℕ, ◌≤◌, ◌⊎◌, inl, inr, List, [], ◌∷◌, take, Option, None, Some, Result, Ok, Err, refl, sym, ap, ◌∙◌, subst, arith}
use Rattle.std.specs.Prelude.{IsTrue, ⊤}
use Rattle.std.specs.Io.KnownBytes.{Appends}
use Rattle.std.proofs.KnownBytes.{Appends-nil, Appends-kept}
use Rattle.shelf_traits.specs.Count.{Rose, RoseWhere}
use Rattle.shelf_traits.specs.Shelf.{View}
use Rattle.run_ends.specs.declared.cause.Done.{Done}
use Rattle.run_ends.specs.declared.cause.Done.TheVariants as done
use Rattle.run_ends.specs.declared.cause.Cause.{Cause}
use Rattle.run_ends.specs.declared.cause.Cause.TheVariants as cause
use Rattle.run_ends.specs.Prefixes.{AppendsPrefix}
use Rattle.shelf_io.specs.Touching.{RoseOut}
use Rattle.run_ends.specs.Works.{Work, Told, Reads, Judges, Writes, HandsOn, StopsOpen, StopsRead, StopsJudge, StopsWrite, stopped, read_slot, after}
use Rattle.run_ends.specs.Loads.{HasRead, Loads}
use Rattle.run_ends.specs.Stages.{Makes, write_slot}
use Rattle.run_ends.specs.Filing.{HasText, HasFront, NotCreated}
use Rattle.run_ends.specs.Serving.{Stream, Served, Handed}
use Rattle.run_ends.proofs.Noting.{rose_before, rose_later}
use Rattle.shelf_io.proofs.Touching.{touches_after, touches_lifted, untouched}

not_opening : (v : View) (name : List ℕ) (e : Cause) → StopsOpen v name e → e ≡ cause.WriteFault → ⊥
not_opening v name cause.WriteFault s is = s
not_opening v name cause.ReadFault s is = cc
not_opening v name cause.Memory s is = cc
not_opening v name cause.Usage s is = s
not_opening v name (cause.Refused r) s is = s
not_opening v name (cause.Limit l) s is = s

not_reading : (v : View) (gives : Cause → Type 0) (e : Cause) → StopsRead v gives e → e ≡ cause.WriteFault → ⊥
not_reading v gives cause.WriteFault s is = s
not_reading v gives cause.ReadFault s is = cc
not_reading v gives cause.Memory s is = cc
not_reading v gives cause.Usage s is = s
not_reading v gives (cause.Refused r) s is = cc
not_reading v gives (cause.Limit l) s is = cc

-- the work stops over a file
pub stops : {X : Type 0} (t v w : View) (name : List ℕ) (gives : Cause → Type 0) (accepts : X → Type 0) (next : X → Work → Type 0) (writes : Option (List ℕ)) (out : Stream) (e : Cause)
    → Loads {X = X} t v w name gives accepts (Err e) → Served (Reads t name gives accepts next) writes v w out out [] (Err e)
stops t v w name gives accepts next writes out e (rose, inl (touches, s)) = record {
  work = stopped [] e;
  allowed = record { went = inl (e, (s, refl)) };
  ends = refl;
  closes = refl;
  out = Appends-nil out.taken;
  shelf = touches_lifted v w [] writes touches;
  read = λ is. let same : e ≡ cause.ReadFault = cc in rose.rose same;
  read_settled = λ n m o. rose.stays (λ is. n (ap Err is));
  write = λ is. let same : e ≡ cause.WriteFault = cc in absurd (not_opening t name e s same);
  write_settled = λ n. (refl, touches.counts_out);
  calm = λ is still steady. let same : e ≡ cause.WriteFault = cc in not_opening t name e s same;
  later = omega arith;
  steady = λ h. h;
}
stops t v w name gives accepts next writes out e (rose, inr (read, s)) = record {
  work = stopped (read_slot name read.taken ∷ []) e;
  allowed = record { went = inr (inl (e, (read.taken, (s, refl)))) };
  ends = refl;
  closes = refl;
  out = Appends-nil out.taken;
  shelf = touches_lifted v w (read_slot name read.taken ∷ []) writes read.touches;
  read = λ is. let same : e ≡ cause.ReadFault = cc in rose.rose same;
  read_settled = λ n m o. rose.stays (λ is. n (ap Err is));
  write = λ is. let same : e ≡ cause.WriteFault = cc in absurd (not_reading t gives e s same);
  write_settled = λ n. (refl, read.touches.counts_out);
  calm = λ is still steady. let same : e ≡ cause.WriteFault = cc in not_reading t gives e s same;
  later = omega arith;
  steady = λ h. h;
}

rose_out_before : (v u w : View) (writes : Option (List ℕ)) → u.faults_out ≡ v.faults_out → (IsTrue v.steady → IsTrue u.steady) → RoseOut u w writes → RoseOut v w writes
rose_out_before v u w None same still failed = failed
rose_out_before v u w (Some name) same still failed = record { rose = subst (λ n. Rose n w.faults_out) same failed.rose; unsteady = λ steady. failed.unsteady (still steady) }

-- the work goes on past a file
pub goes_on : {X : Type 0} (t v u w : View) (name : List ℕ) (gives : Cause → Type 0) (accepts : X → Type 0) (next : X → Work → Type 0) (x : X) (writes : Option (List ℕ)) (old new : Stream)
    (tails : List ℕ) (end : Result Done Cause) → HasRead v u name → Told t (accepts x) × (u.faults_in ≡ v.faults_in) → Served (next x) writes u w old new tails end
    → Served (Reads t name gives accepts next) writes v w old new tails end
goes_on t v u w name gives accepts next x writes old new tails end read (a, same) s = record {
  work = after (read_slot name read.taken) s.work;
  allowed = record { went = inr (inr (x, (read.taken, (s.work, (a, (s.allowed, refl)))))) };
  ends = s.ends;
  closes = s.closes;
  out = s.out;
  shelf = touches_after v u w (read_slot name read.taken) s.work.opened writes s.work.made read.touches s.shelf;
  read = λ is. rose_before v.faults_in u.faults_in w.faults_in read.touches.counts_in (s.read is);
  read_settled = λ n m o. s.read_settled n m o ∙ same;
  write = λ is. by_write (s.write is);
  write_settled = λ n. let kept = s.write_settled n in (kept.0, kept.1 ∙ read.touches.counts_out);
  calm = λ is still steady. s.calm is still (read.touches.steady steady);
  later = s.later;
  steady = s.steady;
}
  where
    by_write : Rose old.faults new.faults ⊎ RoseOut u w writes → Rose old.faults new.faults ⊎ RoseOut v w writes
    by_write (inl rose) = inl rose
    by_write (inr rose) = inr (rose_out_before v u w writes read.touches.counts_out read.touches.steady rose)

-- ends that are no fault of reading or writing
abbrev pub IsCalm : Result Done Cause → Type 0
IsCalm (Ok x) = ⊤
IsCalm (Err (cause.Refused r)) = ⊤
IsCalm (Err (cause.Limit l)) = ⊤
IsCalm (Err e) = ⊥

pub calm_read : (end : Result Done Cause) → IsCalm end → end ≡ Err cause.ReadFault → ⊥
calm_read (Ok x) c is = cc
calm_read (Err (cause.Refused r)) c is = cc
calm_read (Err (cause.Limit l)) c is = cc
calm_read (Err cause.Usage) c is = c
calm_read (Err cause.ReadFault) c is = c
calm_read (Err cause.WriteFault) c is = c
calm_read (Err cause.Memory) c is = c

pub calm_write : (end : Result Done Cause) → IsCalm end → end ≡ Err cause.WriteFault → ⊥
calm_write (Ok x) c is = cc
calm_write (Err (cause.Refused r)) c is = cc
calm_write (Err (cause.Limit l)) c is = cc
calm_write (Err cause.Usage) c is = c
calm_write (Err cause.ReadFault) c is = c
calm_write (Err cause.WriteFault) c is = c
calm_write (Err cause.Memory) c is = c

-- the whole text was written
pub wrote : (due : List ℕ → Result Done Cause → Type 0) (writes : Option (List ℕ)) (v : View) (old new : Stream) (text : List ℕ) (end : Result Done Cause)
    → due text end → IsCalm end → Appends old.taken new.taken text → new.faults ≡ old.faults → (IsTrue old.steady → IsTrue new.steady) → Served (Writes due) writes v v old new [] end
wrote due writes v old new text end d c a same still = record {
  work = record { opened = []; out = text; made = None; marks = []; tails = []; end = end };
  allowed = inl (text, (end, (d, refl)));
  ends = refl;
  closes = refl;
  out = a;
  shelf = untouched v writes;
  read = λ is. absurd (calm_read end c is);
  read_settled = λ n m o. refl;
  write = λ is. absurd (calm_write end c is);
  write_settled = λ n. (same, refl);
  calm = λ is steady calm. calm_write end c is;
  later = omega (arith, same);
  steady = still;
}

pub no_read : (e : Cause) → StopsWrite e → e ≡ cause.ReadFault → ⊥
no_read cause.WriteFault s is = cc
no_read cause.Memory s is = cc
no_read cause.ReadFault s is = s
no_read cause.Usage s is = s
no_read (cause.Refused r) s is = s
no_read (cause.Limit l) s is = s

-- what a put says of its count, by its cause
pub rises : {T : Type 0} (before now : ℕ) (e f : Cause) → before ≤ now → (◌≡◌ {A = Result T Cause} (Err e) (Err f) → Rose before now) → (¬ ◌≡◌ {A = Result T Cause} (Err e) (Err f) → now ≡ before)
    → RoseWhere (e ≡ f) before now
rises {T} before now e f later rose stays = record {
  later = later;
  rose = λ is. rose (ap Err is);
  stays = λ n. stays (λ is. let same : e ≡ f = cc in n same);
}

-- a front of the text was written
pub wrote_front : (due : List ℕ → Result Done Cause → Type 0) (writes : Option (List ℕ)) (v : View) (old new : Stream) (text : List ℕ) (end : Result Done Cause) (e : Cause)
    → due text end → StopsWrite e → AppendsPrefix old.taken new.taken text → RoseWhere (e ≡ cause.WriteFault) old.faults new.faults → (e ≡ cause.WriteFault → IsTrue old.steady → ⊥)
    → (IsTrue old.steady → IsTrue new.steady) → Served (Writes due) writes v v old new [] (Err e)
wrote_front due writes v old new text end e d s (k, (within, a)) rose calm still = record {
  work = record (stopped [] e) { out = take k text };
  allowed = inr (inl (text, (end, (k, (e, (d, (within, (s, refl))))))));
  ends = refl;
  closes = refl;
  out = a;
  shelf = untouched v writes;
  read = λ is. let same : e ≡ cause.ReadFault = cc in absurd (no_read e s same);
  read_settled = λ n m o. refl;
  write = λ is. let same : e ≡ cause.WriteFault = cc in inl (rose.rose same);
  write_settled = λ n. (rose.stays (λ is. n (ap Err is)), refl);
  calm = λ is steady files. let same : e ≡ cause.WriteFault = cc in calm same steady;
  later = rose.later;
  steady = still;
}

-- a file was made of a text that is due
pub made : (name : List ℕ) (due : List ℕ → Type 0) (v w : View) (out : Stream) (text : List ℕ) → due text → HasText v w name text → Served (Makes name due) (Some name) v w out out [] (Ok done.Whole)
made name due v w out text d h = record {
  work = record { opened = write_slot name ∷ []; out = []; made = Some text; marks = []; tails = []; end = Ok done.Whole };
  allowed = record { text = text; is_due = d; made = inl refl };
  ends = refl;
  closes = refl;
  out = Appends-nil out.taken;
  shelf = h.touches;
  read = λ is. absurd (calm_read (Ok done.Whole) tt is);
  read_settled = λ n m o. h.reads;
  write = λ is. absurd (calm_write (Ok done.Whole) tt is);
  write_settled = λ n. (refl, h.writes);
  calm = λ is still steady. calm_write (Ok done.Whole) tt is;
  later = omega arith;
  steady = λ still. still;
}

-- it got a front of the text, or was not created
pub not_made : (name : List ℕ) (due : List ℕ → Type 0) (v w : View) (out : Stream) (text : List ℕ) (e : Cause) → due text → HasFront v w name text e ⊎ NotCreated v w name e
    → Served (Makes name due) (Some name) v w out out [] (Err e)
not_made name due v w out text e d (inl h) = record {
  work = record (stopped (write_slot name ∷ []) e) { made = Some (take h.got text) };
  allowed = record { text = text; is_due = d; made = inr (inl (e, (h.got, (h.stopped.kinds, (h.within, refl))))) };
  ends = refl;
  closes = refl;
  out = Appends-nil out.taken;
  shelf = h.touches;
  read = λ is. let same : e ≡ cause.ReadFault = cc in absurd (no_read e h.stopped.kinds same);
  read_settled = λ n m o. h.stopped.reads;
  write = λ is. let same : e ≡ cause.WriteFault = cc in inr (h.stopped.fault same);
  write_settled = λ n. (refl, h.stopped.settled (λ is. n (ap Err is)));
  calm = λ is still steady. let same : e ≡ cause.WriteFault = cc in (h.stopped.fault same).unsteady steady;
  later = omega arith;
  steady = λ still. still;
}
not_made name due v w out text e d (inr h) = record {
  work = stopped [] e;
  allowed = record { text = text; is_due = d; made = inr (inr (e, (h.stopped.kinds, refl))) };
  ends = refl;
  closes = refl;
  out = Appends-nil out.taken;
  shelf = h.touches;
  read = λ is. let same : e ≡ cause.ReadFault = cc in absurd (no_read e h.stopped.kinds same);
  read_settled = λ n m o. h.stopped.reads;
  write = λ is. let same : e ≡ cause.WriteFault = cc in inr (h.stopped.fault same);
  write_settled = λ n. (refl, h.stopped.settled (λ is. n (ap Err is)));
  calm = λ is still steady. let same : e ≡ cause.WriteFault = cc in (h.stopped.fault same).unsteady steady;
  later = omega arith;
  steady = λ still. still;
}

-- work that stopped before anything was read or written
nothing_done : (allows : Work → Type 0) (writes : Option (List ℕ)) (v : View) (out : Stream) (e : Cause) → allows (stopped [] e) → (e ≡ cause.ReadFault → ⊥) → (e ≡ cause.WriteFault → ⊥)
    → Served allows writes v v out out [] (Err e)
nothing_done allows writes v out e a no_read no_write = record {
  work = stopped [] e;
  allowed = a;
  ends = refl;
  closes = refl;
  out = Appends-nil out.taken;
  shelf = untouched v writes;
  read = λ is. let same : e ≡ cause.ReadFault = cc in absurd (no_read same);
  read_settled = λ n m o. refl;
  write = λ is. let same : e ≡ cause.WriteFault = cc in absurd (no_write same);
  write_settled = λ n. (refl, refl);
  calm = λ is steady files. let same : e ≡ cause.WriteFault = cc in no_write same;
  later = omega arith;
  steady = λ h. h;
}

-- memory was wanting before anything was written
pub no_memory : (due : List ℕ → Result Done Cause → Type 0) (writes : Option (List ℕ)) (v : View) (out : Stream) → Served (Writes due) writes v v out out [] (Err cause.Memory)
no_memory due writes v out = nothing_done (Writes due) writes v out cause.Memory (inr (inr refl)) (λ is. cc) (λ is. cc)

not_judged : (gives : Cause → Type 0) (e : Cause) → StopsJudge gives e → (e ≡ cause.ReadFault → ⊥) × (e ≡ cause.WriteFault → ⊥)
not_judged gives cause.Memory s = (λ is. cc, λ is. cc)
not_judged gives (cause.Refused r) s = (λ is. cc, λ is. cc)
not_judged gives (cause.Limit l) s = (λ is. cc, λ is. cc)
not_judged gives cause.Usage s = absurd s
not_judged gives cause.ReadFault s = absurd s
not_judged gives cause.WriteFault s = absurd s

-- what was read gives a cause to end
pub judged_out : (gives : Cause → Type 0) (passes : Type 0) (next : Work → Type 0) (writes : Option (List ℕ)) (v : View) (out : Stream) (e : Cause) → StopsJudge gives e
    → Served (Judges gives passes next) writes v v out out [] (Err e)
judged_out gives passes next writes v out e s =
    let n = not_judged gives e s in
    nothing_done (Judges gives passes next) writes v out e (record { judged = inl (e, (s, refl)) }) n.0 n.1

-- what was read passes, and the work goes on
pub passed : (gives : Cause → Type 0) (passes : Type 0) (next : Work → Type 0) (writes : Option (List ℕ)) (v w : View) (old new : Stream) (tails : List ℕ) (end : Result Done Cause)
    → passes → Served next writes v w old new tails end → Served (Judges gives passes next) writes v w old new tails end
passed gives passes next writes v w old new tails end p s = record {
  work = s.work;
  allowed = record { judged = inr (p, s.allowed) };
  ends = s.ends;
  closes = s.closes;
  out = s.out;
  shelf = s.shelf;
  read = s.read;
  read_settled = s.read_settled;
  write = s.write;
  write_settled = s.write_settled;
  calm = s.calm;
  later = s.later;
  steady = s.steady;
}

-- words that are no command
pub no_command : (writes : Option (List ℕ)) (v : View) (out : Stream) → Served (λ work. work ≡ stopped [] cause.Usage) writes v v out out [] (Err cause.Usage)
no_command writes v out = nothing_done (λ work. work ≡ stopped [] cause.Usage) writes v out cause.Usage refl (λ is. cc) (λ is. cc)

-- out is handed on past the work
pub handed_on : (allows : Work → Type 0) (writes : Option (List ℕ)) (v w : View) (old mid new : Stream) (tails : List ℕ) (first last : Result Done Cause)
    → Served allows writes v w old mid tails first → Handed mid new first last → Served (HandsOn allows) writes v w old new tails last
handed_on allows writes v w old mid new tails first last s h = by h.ends
  where
    by_before : Rose old.faults mid.faults ⊎ RoseOut v w writes → Rose old.faults new.faults ⊎ RoseOut v w writes
    by_before (inl rose) = inl (rose_later old.faults mid.faults new.faults h.later rose)
    by_before (inr rose) = inr rose

    by_write : (first ≡ Err cause.WriteFault) ⊎ (Rose mid.faults new.faults × (IsTrue mid.steady → ⊥)) → Rose old.faults new.faults ⊎ RoseOut v w writes
    by_write (inl was) = by_before (s.write was)
    by_write (inr rose) = inl (rose_before old.faults mid.faults new.faults s.later rose.0)

    by_calm : IsTrue old.steady → IsTrue v.steady → (first ≡ Err cause.WriteFault) ⊎ (Rose mid.faults new.faults × (IsTrue mid.steady → ⊥)) → ⊥
    by_calm still steady (inl was) = s.calm was still steady
    by_calm still steady (inr rose) = rose.1 (s.steady still)

    by : (last ≡ first) ⊎ (last ≡ Err cause.WriteFault) → Served (HandsOn allows) writes v w old new tails last
    by (inl same) = record {
      work = s.work;
      allowed = inl s.allowed;
      ends = same ∙ s.ends;
      closes = s.closes;
      out = Appends-kept old.taken mid.taken new.taken s.work.out s.out h.bytes;
      shelf = s.shelf;
      read = λ is. s.read (sym same ∙ is);
      read_settled = λ n m o. s.read_settled (λ was. n (same ∙ was)) (λ was. m (same ∙ was)) (λ was. o (same ∙ was));
      write = λ is. by_write (h.write is);
      write_settled = λ n. let kept = s.write_settled (λ is. n (same ∙ is)) in (h.settled n ∙ kept.0, kept.1);
      calm = λ is still steady. by_calm still steady (h.write is);
      later = omega (arith, s.later, h.later);
      steady = λ still. h.steady (s.steady still);
    }
    by (inr is) = record {
      work = record s.work { end = Err cause.WriteFault };
      allowed = inr (s.work, (s.allowed, refl));
      ends = is;
      closes = s.closes;
      out = Appends-kept old.taken mid.taken new.taken s.work.out s.out h.bytes;
      shelf = s.shelf;
      read = λ fault. let no : ◌≡◌ {A = Result Done Cause} (Err cause.WriteFault) (Err cause.ReadFault) = sym is ∙ fault in absurd (cc);
      read_settled = λ n m o. absurd (m is);
      write = λ fault. by_write (h.write fault);
      write_settled = λ n. absurd (n is);
      calm = λ fault still steady. by_calm still steady (h.write fault);
      later = omega (arith, s.later, h.later);
      steady = λ still. h.steady (s.steady still);
    }
