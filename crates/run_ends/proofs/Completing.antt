-- How work ends, by its parts.
use Rattle.std.proofs.Common.{◌≡◌, ℕ, ◌⊎◌, inl, inr, List, [], None, Some, Result, Ok, Err, sym, ◌∙◌, subst}
use Rattle.std.specs.Prelude.{IsTrue}
use Rattle.shelf_traits.specs.Shelf.{View}
use Rattle.run_ends.specs.declared.cause.Done.{Done}
use Rattle.run_ends.specs.declared.cause.Done.TheVariants as done
use Rattle.run_ends.specs.declared.cause.Cause.{Cause}
use Rattle.run_ends.specs.declared.cause.Cause.TheVariants as cause
use Rattle.run_ends.specs.Works.{Work, Told, Reads, Judges, Writes, HandsOn, StopsOpen, StopsRead, StopsJudge, StopsWrite, stopped, Went}
use Rattle.run_ends.specs.Stages.{Makes, HasMade, Past, Opens, Closes, Takes, IsClosed, unclosed}
use Rattle.run_ends.specs.Lines.{MarkedLine, WritesLines, StoppedWithin, text_of, marks_of}

-- a fact of the end, by the ways in which a file can go
pub reads_end : {X : Type 0} (v : View) (name : List ℕ) (gives : Cause → Type 0) (accepts : X → Type 0) (next : X → Work → Type 0) (P : Result Done Cause → Type 0) (work : Work)
    → ((e : Cause) → StopsOpen v name e → P (Err e)) → ((e : Cause) → StopsRead v gives e → P (Err e)) → ((x : X) (rest : Work) → Told v (accepts x) → next x rest → P rest.end)
    → Reads v name gives accepts next work → P work.end
reads_end {X} v name gives accepts next P work opening reading go r = by r.went
  where
    by : Went v name gives accepts next work → P work.end
    by (inl (e, (s, is))) = subst (λ (k : Work). P k.end) (sym is) (opening e s)
    by (inr (inl (e, (taken, (s, is))))) = subst (λ (k : Work). P k.end) (sym is) (reading e s)
    by (inr (inr (x, (taken, (rest, (a, (n, is))))))) = subst (λ (k : Work). P k.end) (sym is) (go x rest a n)

-- by what was judged
pub judges_end : (gives : Cause → Type 0) (passes : Type 0) (next : Work → Type 0) (P : Result Done Cause → Type 0) (work : Work)
    → ((e : Cause) → StopsJudge gives e → P (Err e)) → (passes → next work → P work.end) → Judges gives passes next work → P work.end
judges_end gives passes next P work stop go j = by j.judged
  where
    by : ((e : Cause) × (StopsJudge gives e × (work ≡ stopped [] e))) ⊎ (passes × next work) → P work.end
    by (inl (e, (s, is))) = subst (λ (k : Work). P k.end) (sym is) (stop e s)
    by (inr (p, n)) = go p n

pub writes_end : (due : List ℕ → Result Done Cause → Type 0) (P : Result Done Cause → Type 0) (work : Work) → ((text : List ℕ) (end : Result Done Cause) → due text end → P end)
    → ((e : Cause) → StopsWrite e → P (Err e)) → Writes due work → P work.end
writes_end due P work whole stop (inl (text, (end, (d, is)))) = subst (λ (k : Work). P k.end) (sym is) (whole text end d)
writes_end due P work whole stop (inr (inl (text, (end, (k, (e, (d, (within, (s, is))))))))) = subst (λ (k : Work). P k.end) (sym is) (stop e s)
writes_end due P work whole stop (inr (inr is)) = subst (λ (k : Work). P k.end) (sym is) (stop cause.Memory tt)

pub hands_end : (next : Work → Type 0) (P : Result Done Cause → Type 0) (work : Work) → ((rest : Work) → next rest → P rest.end) → P (Err cause.WriteFault) → HandsOn next work → P work.end
hands_end next P work as_before cut (inl n) = as_before work n
hands_end next P work as_before cut (inr (rest, (n, is))) = subst (λ (k : Work). P k.end) (sym is) cut

-- a file that is there, and accepted, over a steady shelf: the work goes on with its value, or wants memory
pub reads_ready : {X : Type 0} (v : View) (name : List ℕ) (gives : Cause → Type 0) (accepts : X → Type 0) (next : X → Work → Type 0) (P : Result Done Cause → Type 0) (bytes : List ℕ) (x : X) (work : Work)
    → IsTrue v.tells → IsTrue v.steady → v.file name ≡ Some bytes → ((e : Cause) → gives e → ⊥) → ((y : X) → accepts y → y ≡ x) → P (Err cause.Memory) → ((rest : Work) → next x rest → P rest.end)
    → Reads v name gives accepts next work → P work.end
reads_ready v name gives accepts next P bytes x work told steady there none one memory go r =
    reads_end v name gives accepts next P work opening reading (λ y rest a n. go rest (subst (λ z. next z rest) (one y (a told)) n)) r
  where
    opening : (e : Cause) → StopsOpen v name e → P (Err e)
    opening cause.ReadFault s = let gone : Some bytes ≡ None = sym there ∙ s told steady in absurd (cc)
    opening cause.Memory s = memory
    opening cause.Usage s = absurd s
    opening (cause.Refused r) s = absurd s
    opening (cause.Limit l) s = absurd s
    opening cause.WriteFault s = absurd s

    reading : (e : Cause) → StopsRead v gives e → P (Err e)
    reading cause.ReadFault s = absurd (s steady)
    reading cause.Memory s = memory
    reading cause.Usage s = absurd s
    reading (cause.Refused r) s = absurd (none (cause.Refused r) (s told))
    reading (cause.Limit l) s = absurd (none (cause.Limit l) (s told))
    reading cause.WriteFault s = absurd s

-- what gives no cause passes, or wants memory
pub judges_ready : (gives : Cause → Type 0) (passes : Type 0) (next : Work → Type 0) (P : Result Done Cause → Type 0) (work : Work)
    → ((e : Cause) → gives e → ⊥) → P (Err cause.Memory) → (next work → P work.end) → Judges gives passes next work → P work.end
judges_ready gives passes next P work none memory go j = judges_end gives passes next P work stop (λ p n. go n) j
  where
    stop : (e : Cause) → StopsJudge gives e → P (Err e)
    stop cause.Memory s = memory
    stop cause.Usage s = absurd s
    stop (cause.Refused r) s = absurd (none (cause.Refused r) s)
    stop (cause.Limit l) s = absurd (none (cause.Limit l) s)
    stop cause.ReadFault s = absurd s
    stop cause.WriteFault s = absurd s

-- no work ends for usage

pub open_not_usage : (v : View) (name : List ℕ) (e : Cause) → StopsOpen v name e → e ≡ cause.Usage → ⊥
open_not_usage v name cause.Usage s is = s
open_not_usage v name cause.ReadFault s is = cc
open_not_usage v name cause.Memory s is = cc
open_not_usage v name cause.WriteFault s is = s
open_not_usage v name (cause.Refused r) s is = s
open_not_usage v name (cause.Limit l) s is = s

pub read_not_usage : (v : View) (gives : Cause → Type 0) (e : Cause) → StopsRead v gives e → e ≡ cause.Usage → ⊥
read_not_usage v gives cause.Usage s is = s
read_not_usage v gives cause.ReadFault s is = cc
read_not_usage v gives cause.Memory s is = cc
read_not_usage v gives cause.WriteFault s is = s
read_not_usage v gives (cause.Refused r) s is = cc
read_not_usage v gives (cause.Limit l) s is = cc

pub judge_not_usage : (gives : Cause → Type 0) (e : Cause) → StopsJudge gives e → e ≡ cause.Usage → ⊥
judge_not_usage gives cause.Usage s is = s
judge_not_usage gives cause.ReadFault s is = s
judge_not_usage gives cause.Memory s is = cc
judge_not_usage gives cause.WriteFault s is = s
judge_not_usage gives (cause.Refused r) s is = cc
judge_not_usage gives (cause.Limit l) s is = cc

pub write_not_usage : (e : Cause) → StopsWrite e → e ≡ cause.Usage → ⊥
write_not_usage cause.Usage s is = s
write_not_usage cause.ReadFault s is = s
write_not_usage cause.Memory s is = cc
write_not_usage cause.WriteFault s is = cc
write_not_usage (cause.Refused r) s is = s
write_not_usage (cause.Limit l) s is = s

not_cause : (e : Cause) → (e ≡ cause.Usage → ⊥) → ◌≡◌ {A = Result Done Cause} (Err e) (Err cause.Usage) → ⊥
not_cause e n is = let same : e ≡ cause.Usage = cc in n same

pub reads_not_usage : {X : Type 0} (v : View) (name : List ℕ) (gives : Cause → Type 0) (accepts : X → Type 0) (next : X → Work → Type 0) (work : Work)
    → ((x : X) (rest : Work) → next x rest → rest.end ≡ Err cause.Usage → ⊥) → Reads v name gives accepts next work → work.end ≡ Err cause.Usage → ⊥
reads_not_usage v name gives accepts next work go r =
    reads_end v name gives accepts next (λ end. end ≡ Err cause.Usage → ⊥) work (λ e s. not_cause e (open_not_usage v name e s)) (λ e s. not_cause e (read_not_usage v gives e s)) (λ x rest a n. go x rest n) r

pub writes_not_usage : (due : List ℕ → Result Done Cause → Type 0) (work : Work) → ((text : List ℕ) (end : Result Done Cause) → due text end → end ≡ Err cause.Usage → ⊥) → Writes due work → work.end ≡ Err cause.Usage → ⊥
writes_not_usage due work whole r = writes_end due (λ end. end ≡ Err cause.Usage → ⊥) work whole (λ e s. not_cause e (write_not_usage e s)) r

-- a file that is made of a text
pub makes_end : (name : List ℕ) (due : List ℕ → Type 0) (P : Result Done Cause → Type 0) (work : Work) → P (Ok done.Whole) → ((e : Cause) → StopsWrite e → P (Err e)) → Makes name due work → P work.end
makes_end name due P work whole stop m = by m.made
  where
    by : HasMade name m.text work → P work.end
    by (inl is) = subst (λ (k : Work). P k.end) (sym is) whole
    by (inr (inl (e, (k, (s, (within, is)))))) = subst (λ (k : Work). P k.end) (sym is) (stop e s)
    by (inr (inr (e, (s, is)))) = subst (λ (k : Work). P k.end) (sym is) (stop e s)

-- ---- taps

-- a file that is opened
pub opens_end : (v : View) (name : List ℕ) (next : Work → Type 0) (P : Result Done Cause → Type 0) (work : Work)
    → ((e : Cause) → StopsOpen v name e → P (Err e)) → ((rest : Work) → next rest → P rest.end) → Opens v name next work → P work.end
opens_end v name next P work opening go r = by r.went
  where
    by : ((e : Cause) × (StopsOpen v name e × (work ≡ stopped [] e))) ⊎ Past name next work → P work.end
    by (inl (e, (s, is))) = subst (λ (k : Work). P k.end) (sym is) (opening e s)
    by (inr (taken, (rest, (n, is)))) = subst (λ (k : Work). P k.end) (sym is) (go rest n)

-- and then taken
pub takes_end : {X : Type 0} (v : View) (gives : Cause → Type 0) (accepts : X → Type 0) (next : X → Work → Type 0) (P : Result Done Cause → Type 0) (work : Work)
    → ((e : Cause) → StopsRead v gives e → P (Err e)) → ((x : X) → Told v (accepts x) → next x work → P work.end) → Takes v gives accepts next work → P work.end
takes_end {X} v gives accepts next P work reading go r = by r.went
  where
    by : ((e : Cause) × (StopsRead v gives e × (work ≡ stopped [] e))) ⊎ ((x : X) × (Told v (accepts x) × next x work)) → P work.end
    by (inl (e, (s, is))) = subst (λ (k : Work). P k.end) (sym is) (reading e s)
    by (inr (x, (a, n))) = go x a n

unclosed_end : (P : Result Done Cause → Type 0) (end : Result Done Cause) → P end → P (Err cause.Memory) → P (unclosed end)
unclosed_end P (Ok x) p m = m
unclosed_end P (Err cause.WriteFault) p m = p
unclosed_end P (Err cause.Memory) p m = m
unclosed_end P (Err cause.ReadFault) p m = m
unclosed_end P (Err cause.Usage) p m = m
unclosed_end P (Err (cause.Refused r)) p m = m
unclosed_end P (Err (cause.Limit l)) p m = m

-- taps that are closed
pub closes_end : (tails : List ℕ → List ℕ) (next : Work → Type 0) (P : Result Done Cause → Type 0) (work : Work) → ((rest : Work) → next rest → P rest.end) → P (Err cause.Memory) → Closes tails next work → P work.end
closes_end tails next P work as_before memory c = by c.closed
  where
    by : IsClosed tails c.rest work → P work.end
    by (inl (n, is)) = subst (λ (k : Work). P k.end) (sym is) (as_before c.rest c.went)
    by (inr is) = subst (λ (k : Work). P k.end) (sym is) (unclosed_end P c.rest.end (as_before c.rest c.went) memory)

-- lines that taps are told of
pub lines_end : (due : List MarkedLine → Result Done Cause → Type 0) (P : Result Done Cause → Type 0) (work : Work) → ((all : List MarkedLine) (end : Result Done Cause) → due all end → P end)
    → ((e : Cause) → StopsWrite e → P (Err e)) → WritesLines due work → P work.end
lines_end due P work whole stop r = by r.went
  where
    by : ((all : List MarkedLine) × ((end : Result Done Cause) × (due all end × (work ≡ record { opened = []; out = text_of all; made = None; marks = marks_of all; tails = []; end = end })))) ⊎ StoppedWithin due work → P work.end
    by (inl (all, (end, (d, is)))) = subst (λ (k : Work). P k.end) (sym is) (whole all end d)
    by (inr s) = subst (λ (k : Work). P k.end) (sym s.came) (stop s.why s.stops)
