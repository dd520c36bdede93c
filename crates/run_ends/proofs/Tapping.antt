-- Work that taps are told of, and how they are closed.
use Rattle.std.proofs.Common.{◌≡◌, ℕ, ◌⊎◌, inl, inr, List, [], ◌∷◌, ◌++◌, take, Option, None, Result, Ok, Err, refl, sym, ap, ◌∙◌, subst, arith}
use Rattle.std.specs.Prelude.{IsTrue}
use Rattle.std.specs.Io.KnownBytes.{Appends}
use Rattle.shelf_traits.specs.Count.{RoseWhere}
use Rattle.shelf_traits.specs.Shelf.{View}
use Rattle.shelf_io.proofs.Touching.{untouched}
use Rattle.run_ends.specs.declared.cause.Done.{Done}
use Rattle.run_ends.specs.declared.cause.Cause.{Cause}
use Rattle.run_ends.specs.declared.cause.Cause.TheVariants as cause
use Rattle.run_ends.specs.Works.{Work, StopsWrite, stopped}
use Rattle.run_ends.specs.Lines.{MarkedLine, WritesLines, IsShort, text_of, marks_of}
use Rattle.run_ends.specs.Stages.{Past, Opens, Closes, unclosed, IsClosed}
use Rattle.run_ends.specs.Serving.{Stream, Served, Tells}
use Rattle.run_ends.proofs.Serving.{IsCalm, calm_read, calm_write, no_read}

-- all lines were written, and the marks of all were told
pub wrote_lines : (due : List MarkedLine → Result Done Cause → Type 0) (writes : Option (List ℕ)) (v : View) (old new : Stream) (told : List ℕ → Type 0) (all : List MarkedLine) (end : Result Done Cause)
    → due all end → IsCalm end → Appends old.taken new.taken (text_of all) → new.faults ≡ old.faults → (IsTrue old.steady → IsTrue new.steady) → told (marks_of all) → Tells (WritesLines due) writes v v old new told end
wrote_lines due writes v old new told all end d c a same still t = record {
  served = record {
    work = record { opened = []; out = text_of all; made = None; marks = marks_of all; tails = []; end = end };
    allowed = record { went = inl (all, (end, (d, refl))) };
    ends = refl;
    closes = refl;
    out = a;
    shelf = untouched v writes;
    read = λ is. absurd (calm_read end c is);
    read_settled = λ n m o. refl;
    write = λ is. absurd (calm_write end c is);
    write_settled = λ n. (same, refl);
    calm = λ is steady calm. calm_write end c is;
    later = omega (arith, same);
    steady = still;
  };
  heard = λ n. t;
}

-- the lines were written as far as one of them, and at a write fault the marks of those before it were told
pub record CutLines (due : List MarkedLine → Result Done Cause → Type 0) (old new : Option (List ℕ)) (told : List ℕ → Type 0) (e : Cause) : Type 0 where
  pub before : List MarkedLine
  pub cut : MarkedLine
  pub rest : List MarkedLine
  pub end : Result Done Cause
  pub is_due : due (before ++ cut ∷ rest) end
  pub got : ℕ
  pub short : IsShort e got cut.text
  pub out : Appends old new (text_of before ++ take got cut.text)
  pub heard : e ≡ cause.WriteFault → told (marks_of before)

-- where writing stops, it is for a write fault, or for want of memory
pub stops_write : (e : Cause) → StopsWrite e → ¬ ◌≡◌ {A = Result Done Cause} (Err e) (Err cause.Memory) → e ≡ cause.WriteFault
stops_write cause.WriteFault s n = refl
stops_write cause.Memory s n = absurd (n refl)
stops_write cause.ReadFault s n = absurd s
stops_write cause.Usage s n = absurd s
stops_write (cause.Refused r) s n = absurd s
stops_write (cause.Limit l) s n = absurd s

pub cut_lines : (due : List MarkedLine → Result Done Cause → Type 0) (writes : Option (List ℕ)) (v : View) (old new : Stream) (told : List ℕ → Type 0) (e : Cause) → CutLines due old.taken new.taken told e
    → StopsWrite e → RoseWhere (e ≡ cause.WriteFault) old.faults new.faults → (e ≡ cause.WriteFault → IsTrue old.steady → ⊥) → (IsTrue old.steady → IsTrue new.steady) → Tells (WritesLines due) writes v v old new told (Err e)
cut_lines due writes v old new told e c s rose calm still = record {
  served = record {
    work = record (stopped [] e) { out = text_of c.before ++ take c.got c.cut.text; marks = marks_of c.before };
    allowed = record {
      went = inr (record { before = c.before; cut = c.cut; rest = c.rest; end = c.end; is_due = c.is_due; why = e; stops = s; got = c.got; short = c.short; marks = marks_of c.before; told = λ is. refl; came = refl });
    };
    ends = refl;
    closes = refl;
    out = c.out;
    shelf = untouched v writes;
    read = λ is. let same : e ≡ cause.ReadFault = cc in absurd (no_read e s same);
    read_settled = λ n m o. refl;
    write = λ is. let same : e ≡ cause.WriteFault = cc in inl (rose.rose same);
    write_settled = λ n. (rose.stays (λ is. n (ap Err is)), refl);
    calm = λ is steady files. let same : e ≡ cause.WriteFault = cc in calm same steady;
    later = rose.later;
    steady = still;
  };
  heard = λ n. c.heard (stops_write e s n);
}

-- ---- closing the taps

-- how taps were closed that were told such marks: their text is that past these; or memory was wanting, and there is none
abbrev pub IsClosing : (tails : List ℕ → List ℕ) → (told : List ℕ → Type 0) → (text : List ℕ) → (first last : Result Done Cause) → Type 0
IsClosing tails told text first last =
    ((¬ (first ≡ Err cause.Memory)) × ((last ≡ first) × ((marks : List ℕ) → told marks → text ≡ tails marks)))
    ⊎ ((text ≡ []) × (last ≡ unclosed first))

pub unclosed_cases : (end : Result Done Cause) → ((end ≡ Err cause.WriteFault) × (unclosed end ≡ end)) ⊎ ((¬ (end ≡ Err cause.WriteFault)) × (unclosed end ≡ Err cause.Memory))
unclosed_cases (Ok x) = inr (λ is. cc, refl)
unclosed_cases (Err cause.WriteFault) = inl (refl, refl)
unclosed_cases (Err cause.Memory) = inr (λ is. cc, refl)
unclosed_cases (Err cause.ReadFault) = inr (λ is. cc, refl)
unclosed_cases (Err cause.Usage) = inr (λ is. cc, refl)
unclosed_cases (Err (cause.Refused r)) = inr (λ is. cc, refl)
unclosed_cases (Err (cause.Limit l)) = inr (λ is. cc, refl)

-- an end that stays, with other tails
closed_same : (tails : List ℕ → List ℕ) (next : Work → Type 0) (writes : Option (List ℕ)) (v w : View) (old new : Stream) (text : List ℕ) (first last : Result Done Cause) (s : Served next writes v w old new [] first)
    → last ≡ first → IsClosed tails s.work (record s.work { tails = text }) → Served (Closes tails next) writes v w old new text last
closed_same tails next writes v w old new text first last s same closed = record {
  work = record s.work { tails = text };
  allowed = record { rest = s.work; went = s.allowed; closed = closed };
  ends = same ∙ s.ends;
  closes = refl;
  out = s.out;
  shelf = s.shelf;
  read = λ is. s.read (sym same ∙ is);
  read_settled = λ n m o. s.read_settled (λ is. n (same ∙ is)) (λ is. m (same ∙ is)) (λ is. o (same ∙ is));
  write = λ is. s.write (sym same ∙ is);
  write_settled = λ n. s.write_settled (λ is. n (same ∙ is));
  calm = λ is. s.calm (sym same ∙ is);
  later = s.later;
  steady = s.steady;
}

-- an end that turns to want of memory
closed_wanting : (tails : List ℕ → List ℕ) (next : Work → Type 0) (writes : Option (List ℕ)) (v w : View) (old new : Stream) (first last : Result Done Cause) (s : Served next writes v w old new [] first)
    → (¬ (first ≡ Err cause.WriteFault)) → last ≡ Err cause.Memory → IsClosed tails s.work (record s.work { tails = []; end = Err cause.Memory }) → Served (Closes tails next) writes v w old new [] last
closed_wanting tails next writes v w old new first last s unfailed want closed = record {
  work = record s.work { tails = []; end = Err cause.Memory };
  allowed = record { rest = s.work; went = s.allowed; closed = closed };
  ends = want;
  closes = refl;
  out = s.out;
  shelf = s.shelf;
  read = λ is. let no : ◌≡◌ {A = Result Done Cause} (Err cause.Memory) (Err cause.ReadFault) = sym want ∙ is in absurd (cc);
  read_settled = λ n m o. absurd (o want);
  write = λ is. let no : ◌≡◌ {A = Result Done Cause} (Err cause.Memory) (Err cause.WriteFault) = sym want ∙ is in absurd (cc);
  write_settled = λ n. s.write_settled unfailed;
  calm = λ is steady files. let no : ◌≡◌ {A = Result Done Cause} (Err cause.Memory) (Err cause.WriteFault) = sym want ∙ is in cc;
  later = s.later;
  steady = s.steady;
}

pub closed : (tails : List ℕ → List ℕ) (next : Work → Type 0) (writes : Option (List ℕ)) (v w : View) (old new : Stream) (told : List ℕ → Type 0) (text : List ℕ) (first last : Result Done Cause)
    → Tells next writes v w old new told first → IsClosing tails told text first last → Served (Closes tails next) writes v w old new text last
closed tails next writes v w old new told text first last t c = by c
  where
    s : Served next writes v w old new [] first
    s = t.served

    none : Served (Closes tails next) writes v w old new [] last → text ≡ [] → Served (Closes tails next) writes v w old new text last
    none r is = subst (λ l. Served (Closes tails next) writes v w old new l last) (sym is) r

    by_end : last ≡ unclosed first → ((first ≡ Err cause.WriteFault) × (unclosed first ≡ first)) ⊎ ((¬ (first ≡ Err cause.WriteFault)) × (unclosed first ≡ Err cause.Memory)) → Served (Closes tails next) writes v w old new [] last
    by_end is (inl (fault, same)) =
        let end : s.work.end ≡ unclosed s.work.end = sym s.ends ∙ sym same ∙ ap unclosed s.ends in
        closed_same tails next writes v w old new [] first last s (is ∙ same) (inr (ap (λ e. record s.work { tails = []; end = e }) end))
    by_end is (inr (unfailed, want)) =
        let end : Err cause.Memory ≡ unclosed s.work.end = sym want ∙ ap unclosed s.ends in
        closed_wanting tails next writes v w old new first last s unfailed (is ∙ want) (inr (ap (λ e. record s.work { tails = []; end = e }) end))

    by : IsClosing tails told text first last → Served (Closes tails next) writes v w old new text last
    by (inl (n, (same, is))) =
        closed_same tails next writes v w old new text first last s same (inl (λ want. n (s.ends ∙ want), ap (λ l. record s.work { tails = l }) (is s.work.marks (t.heard n))))
    by (inr (gone, is)) = none (by_end is (unclosed_cases first)) gone

-- taps that are closed past the opening of a file are closed by the work that goes on past it
pub opened_closed : (v : View) (name : List ℕ) (tails : List ℕ → List ℕ) (next : Work → Type 0) (work : Work) → Closes tails (Past name next) work → Opens v name (Closes tails next) work
opened_closed v name tails next work c = record { went = inr (by c.went c.closed) }
  where
    by : Past name next c.rest → IsClosed tails c.rest work → Past name (Closes tails next) work
    by (taken, (rest, (n, is))) (inl (m, shut)) =
        (taken, (record rest { tails = tails rest.marks }, (record { rest = rest; went = n; closed = inl (λ want. m (ap (λ (k : Work). k.end) is ∙ want), refl) }, shut ∙ ap (λ (k : Work). record k { tails = tails k.marks }) is)))
    by (taken, (rest, (n, is))) (inr shut) =
        (taken, (record rest { tails = []; end = unclosed rest.end }, (record { rest = rest; went = n; closed = inr refl }, shut ∙ ap (λ (k : Work). record k { tails = []; end = unclosed k.end }) is)))

-- what one relation allows, another allows
pub served_as : (allows more : Work → Type 0) (writes : Option (List ℕ)) (v w : View) (old new : Stream) (tails : List ℕ) (end : Result Done Cause) → ((work : Work) → allows work → more work)
    → Served allows writes v w old new tails end → Served more writes v w old new tails end
served_as allows more writes v w old new tails end f s = record {
  work = s.work;
  allowed = f s.work s.allowed;
  ends = s.ends;
  closes = s.closes;
  out = s.out;
  shelf = s.shelf;
  read = s.read;
  read_settled = s.read_settled;
  write = s.write;
  write_settled = s.write_settled;
  calm = s.calm;
  later = s.later;
  steady = s.steady;
}
