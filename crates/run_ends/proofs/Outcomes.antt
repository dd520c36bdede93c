-- What out got and how work ended, by its parts.
use Rattle.std.proofs.Common.{◌≡◌, ℕ, ◌≤◌, ◌⊎◌, inl, inr, List, [], ◌∷◌, ◌++◌, length, take, None, Result, Ok, Err, sym, subst}
use Rattle.shelf_traits.specs.Shelf.{View}
use Rattle.run_ends.specs.declared.cause.Done.{Done}
use Rattle.run_ends.specs.declared.cause.Cause.{Cause}
use Rattle.run_ends.specs.declared.cause.Cause.TheVariants as cause
use Rattle.run_ends.specs.Works.{Work, Told, Reads, Judges, Writes, HandsOn, StopsOpen, StopsRead, StopsJudge, StopsWrite, stopped, Went}
use Rattle.run_ends.specs.Stages.{Past, Opens, Closes, Takes, IsClosed, unclosed}
use Rattle.run_ends.specs.Lines.{MarkedLine, WritesLines, StoppedWithin, text_of, marks_of}

pub reads_out : {X : Type 0} (v : View) (name : List ℕ) (gives : Cause → Type 0) (accepts : X → Type 0) (next : X → Work → Type 0) (P : Result Done Cause → List ℕ → Type 0) (work : Work)
    → ((e : Cause) → StopsOpen v name e → P (Err e) []) → ((e : Cause) → StopsRead v gives e → P (Err e) []) → ((x : X) (rest : Work) → Told v (accepts x) → next x rest → P rest.end rest.out)
    → Reads v name gives accepts next work → P work.end work.out
reads_out {X} v name gives accepts next P work opening reading go r = by r.went
  where
    by : Went v name gives accepts next work → P work.end work.out
    by (inl (e, (s, is))) = subst (λ (k : Work). P k.end k.out) (sym is) (opening e s)
    by (inr (inl (e, (taken, (s, is))))) = subst (λ (k : Work). P k.end k.out) (sym is) (reading e s)
    by (inr (inr (x, (taken, (rest, (a, (n, is))))))) = subst (λ (k : Work). P k.end k.out) (sym is) (go x rest a n)

pub judges_out : (gives : Cause → Type 0) (passes : Type 0) (next : Work → Type 0) (P : Result Done Cause → List ℕ → Type 0) (work : Work)
    → ((e : Cause) → StopsJudge gives e → P (Err e) []) → (passes → next work → P work.end work.out) → Judges gives passes next work → P work.end work.out
judges_out gives passes next P work stop go j = by j.judged
  where
    by : ((e : Cause) × (StopsJudge gives e × (work ≡ stopped [] e))) ⊎ (passes × next work) → P work.end work.out
    by (inl (e, (s, is))) = subst (λ (k : Work). P k.end k.out) (sym is) (stop e s)
    by (inr (p, n)) = go p n

pub writes_out : (due : List ℕ → Result Done Cause → Type 0) (P : Result Done Cause → List ℕ → Type 0) (work : Work) → ((text : List ℕ) (end : Result Done Cause) → due text end → P end text)
    → ((e : Cause) (text : List ℕ) (end : Result Done Cause) (k : ℕ) → due text end → k ≤ length text → StopsWrite e → P (Err e) (take k text)) → P (Err cause.Memory) [] → Writes due work → P work.end work.out
writes_out due P work whole stop none (inl (text, (end, (d, is)))) = subst (λ (k : Work). P k.end k.out) (sym is) (whole text end d)
writes_out due P work whole stop none (inr (inl (text, (end, (k, (e, (d, (within, (s, is))))))))) = subst (λ (k : Work). P k.end k.out) (sym is) (stop e text end k d within s)
writes_out due P work whole stop none (inr (inr is)) = subst (λ (k : Work). P k.end k.out) (sym is) none

pub hands_out : (next : Work → Type 0) (P : Result Done Cause → List ℕ → Type 0) (work : Work) → ((rest : Work) → next rest → P rest.end rest.out) → ((end : Result Done Cause) (out : List ℕ) → P end out → P (Err cause.WriteFault) out)
    → HandsOn next work → P work.end work.out
hands_out next P work as_before cut (inl n) = as_before work n
hands_out next P work as_before cut (inr (rest, (n, is))) = subst (λ (k : Work). P k.end k.out) (sym is) (cut rest.end rest.out (as_before rest n))

-- ---- taps

pub opens_out : (v : View) (name : List ℕ) (next : Work → Type 0) (P : Result Done Cause → List ℕ → Type 0) (work : Work)
    → ((e : Cause) → StopsOpen v name e → P (Err e) []) → ((rest : Work) → next rest → P rest.end rest.out) → Opens v name next work → P work.end work.out
opens_out v name next P work opening go r = by r.went
  where
    by : ((e : Cause) × (StopsOpen v name e × (work ≡ stopped [] e))) ⊎ Past name next work → P work.end work.out
    by (inl (e, (s, is))) = subst (λ (k : Work). P k.end k.out) (sym is) (opening e s)
    by (inr (taken, (rest, (n, is)))) = subst (λ (k : Work). P k.end k.out) (sym is) (go rest n)

pub takes_out : {X : Type 0} (v : View) (gives : Cause → Type 0) (accepts : X → Type 0) (next : X → Work → Type 0) (P : Result Done Cause → List ℕ → Type 0) (work : Work)
    → ((e : Cause) → StopsRead v gives e → P (Err e) []) → ((x : X) → Told v (accepts x) → next x work → P work.end work.out) → Takes v gives accepts next work → P work.end work.out
takes_out {X} v gives accepts next P work reading go r = by r.went
  where
    by : ((e : Cause) × (StopsRead v gives e × (work ≡ stopped [] e))) ⊎ ((x : X) × (Told v (accepts x) × next x work)) → P work.end work.out
    by (inl (e, (s, is))) = subst (λ (k : Work). P k.end k.out) (sym is) (reading e s)
    by (inr (x, (a, n))) = go x a n

-- what is so of an end and of its want of memory is so where taps could not be closed
unclosed_out : (P : Result Done Cause → List ℕ → Type 0) (end : Result Done Cause) (out : List ℕ) → P end out → P (Err cause.Memory) out → P (unclosed end) out
unclosed_out P (Ok x) out p m = m
unclosed_out P (Err cause.WriteFault) out p m = p
unclosed_out P (Err cause.Memory) out p m = m
unclosed_out P (Err cause.ReadFault) out p m = m
unclosed_out P (Err cause.Usage) out p m = m
unclosed_out P (Err (cause.Refused r)) out p m = m
unclosed_out P (Err (cause.Limit l)) out p m = m

pub closes_out : (tails : List ℕ → List ℕ) (next : Work → Type 0) (P : Result Done Cause → List ℕ → Type 0) (work : Work) → ((rest : Work) → next rest → P rest.end rest.out)
    → ((end : Result Done Cause) (out : List ℕ) → P end out → P (Err cause.Memory) out) → Closes tails next work → P work.end work.out
closes_out tails next P work as_before memory c = by c.closed
  where
    by : IsClosed tails c.rest work → P work.end work.out
    by (inl (n, is)) = subst (λ (k : Work). P k.end k.out) (sym is) (as_before c.rest c.went)
    by (inr is) = subst (λ (k : Work). P k.end k.out) (sym is) (unclosed_out P c.rest.end c.rest.out (as_before c.rest c.went) (memory c.rest.end c.rest.out (as_before c.rest c.went)))

pub lines_out : (due : List MarkedLine → Result Done Cause → Type 0) (P : Result Done Cause → List ℕ → Type 0) (work : Work) → ((all : List MarkedLine) (end : Result Done Cause) → due all end → P end (text_of all))
    → ((e : Cause) (before : List MarkedLine) (cut : MarkedLine) (rest : List MarkedLine) (end : Result Done Cause) (k : ℕ) → due (before ++ cut ∷ rest) end → StopsWrite e → P (Err e) (text_of before ++ take k cut.text))
    → WritesLines due work → P work.end work.out
lines_out due P work whole stop r = by r.went
  where
    by : ((all : List MarkedLine) × ((end : Result Done Cause) × (due all end × (work ≡ record { opened = []; out = text_of all; made = None; marks = marks_of all; tails = []; end = end })))) ⊎ StoppedWithin due work
        → P work.end work.out
    by (inl (all, (end, (d, is)))) = subst (λ (k : Work). P k.end k.out) (sym is) (whole all end d)
    by (inr s) = subst (λ (k : Work). P k.end k.out) (sym s.came) (stop s.why s.before s.cut s.rest s.end s.got s.is_due s.stops)
