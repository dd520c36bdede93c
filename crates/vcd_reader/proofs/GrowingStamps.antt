-- Closed stamps stay, and more come after them.
use Rattle.std.proofs.Common.{◌≡◌, ℕ, List, [], ◌∷◌, ◌++◌, Option, Some, None, refl, ap, sym, ◌∙◌, append_assoc}
use Rattle.std.specs.Prelude.{fold}
use Rattle.wheel_types.specs.declared.instant.Instant.{Instant}
use Rattle.capture_core.specs.declared.capture.Stamp.{Stamp}
use Rattle.capture_core.specs.declared.capture.VcdFault.{VcdFault}
use Rattle.capture_core.specs.declared.capture.Watch.{Watch}
use Rattle.capture_core.specs.Stamps.{instants_of}
use Rattle.capture_core.proofs.InstantsAt.{begin-alike}
use Rattle.vcd_header.specs.declared.signals.Signals.{Signals}
use Rattle.vcd_reader.specs.declared.token.Token.{Token}
use Rattle.vcd_reader.specs.Answers.{AreFirst}
use Rattle.vcd_reader.specs.Dumps.{after_token, at_end, at_last, after_last, closed_of, fault_of, reading_of, so_far, whole, with_end}
use Rattle.vcd_reader.specs.Readings.{Body, Reading, between, inside, changes, wanting, skipping, refused}
use Rattle.vcd_reader.specs.Tokens.{begun, ended_from, last_open}
use Rattle.vcd_reader.proofs.Pieces.{reading_of-append}
use Rattle.vcd_reader.proofs.Steps.{HoldsAfter, HoldsBeyond, HoldsInHeader, after_text-holds}

-- the later stamps end with the earlier ones
pub record Grows (earlier later : List Stamp) : Type 0 where
  pub more : List Stamp
  pub all : later ≡ more ++ earlier

pub grows_none : (closed : List Stamp) → Grows closed closed
grows_none closed = record { more = []; all = refl }

pub grows_twice : (a b c : List Stamp) → Grows a b → Grows b c → Grows a c
grows_twice a b c g h = record { more = h.more ++ g.more; all = h.all ∙ ap (λ (x : List Stamp). h.more ++ x) g.all ∙ sym (append_assoc h.more g.more a) }

after_body : (b : Body) → HoldsAfter (λ r. Grows b.closed (closed_of r)) b
after_body b = record {
  same = grows_none b.closed;
  later = λ time fits later. record { more = b.now ∷ []; all = refl };
  changed = λ level code. grows_none b.closed;
  wants = λ level. grows_none b.closed;
  skips = grows_none b.closed;
  refused = λ fault. grows_none b.closed;
}

in_header : HoldsInHeader (λ r. Grows [] (closed_of r))
in_header = record {
  between = λ h. grows_none [];
  inside = λ h s words. grows_none [];
  first = λ scale signals. grows_none [];
  refused = λ fault. grows_none [];
}

beyond : (r : Reading) → HoldsBeyond (λ next. Grows (closed_of r) (closed_of next)) r
beyond (between h) = in_header
beyond (inside h s words) = in_header
beyond (changes b) = after_body b
beyond (wanting b level) = after_body b
beyond (skipping b) = after_body b
beyond (refused closed fault) = grows_none closed

pub after_token-grows : (wanted : Signals) (r : Reading) (t : Token) → Grows (closed_of r) (closed_of (after_token wanted r t))
after_token-grows wanted r t = after_text-holds (λ next. Grows (closed_of r) (closed_of next)) wanted r t.text t.at (beyond r)

pub tokens-grow : (wanted : Signals) (r : Reading) (ts : List Token) → Grows (closed_of r) (closed_of (fold (after_token wanted) r ts))
tokens-grow wanted r [] = grows_none (closed_of r)
tokens-grow wanted r (t ∷ ts) = grows_twice _ _ _ (after_token-grows wanted r t) (tokens-grow wanted (after_token wanted r t) ts)

-- a longer stream has at least the closed stamps of the shorter
pub longer-grows : (wanted : Signals) (bytes more : List ℕ) → Grows (so_far wanted bytes).closed (so_far wanted (bytes ++ more)).closed
longer-grows wanted bytes more =
    rw (reading_of-append wanted bytes more) (tokens-grow wanted (reading_of wanted bytes) (ended_from (last_open bytes) more))

pub at_end-grows : (r : Reading) (length : ℕ) → Grows (closed_of r) (at_end r length).closed
at_end-grows (changes b) length = record { more = b.now ∷ []; all = refl }
at_end-grows (refused closed fault) length = grows_none closed
at_end-grows (between h) length = grows_none []
at_end-grows (inside h s words) length = grows_none []
at_end-grows (wanting b level) length = grows_none b.closed
at_end-grows (skipping b) length = grows_none b.closed

pub at_last-grows : (fault : Option VcdFault) (next : Reading) (at length : ℕ) → Grows (closed_of next) (at_last fault next at length).closed
at_last-grows (Some fault) next at length = grows_none (closed_of next)
at_last-grows None next at length = at_end-grows next length

after_last-grows : (fault : Option VcdFault) (wanted : Signals) (r : Reading) (t : Token) (length : ℕ)
    → Grows (closed_of r) (after_last fault r (after_token wanted r t) t.at length).closed
after_last-grows (Some fault) wanted r t length = at_end-grows r length
after_last-grows None wanted r t length =
    grows_twice _ _ _ (after_token-grows wanted r t) (at_last-grows (fault_of (after_token wanted r t)) (after_token wanted r t) t.at length)

with_end-grows : (wanted : Signals) (r : Reading) (ts : List Token) (length : ℕ) → Grows (closed_of r) (with_end wanted r ts length).closed
with_end-grows wanted r [] length = at_end-grows r length
with_end-grows wanted r (t ∷ more) length = after_last-grows (fault_of r) wanted r t length

-- so has the whole file
pub whole-grows : (wanted : Signals) (bytes : List ℕ) → Grows (so_far wanted bytes).closed (whole wanted bytes).closed
whole-grows wanted bytes = with_end-grows wanted (reading_of wanted bytes) (begun (last_open bytes)) _

-- the instants of the earlier stamps come first
pub more-begin : (watch : Watch) (earlier later : List Stamp) → Grows earlier later → (more : List Instant) × (instants_of watch later ≡ instants_of watch earlier ++ more)
more-begin watch earlier later g =
    let alike = begin-alike watch g.more earlier in (alike.0, ap (instants_of watch) g.all ∙ alike.1)

-- the instants of stamps between
pub first_between : (watch : Watch) (these : List Instant) (before mid all : List Stamp) → Grows before mid → Grows mid all → instants_of watch mid ≡ these
    → AreFirst (instants_of watch before) these (instants_of watch all)
first_between watch these before mid all g h is_these =
    let since = more-begin watch before mid g in
    let rest = more-begin watch mid all h in
    record { since = since.0; rest = rest.0; at_least = sym is_these ∙ since.1; first = rest.1 ∙ ap (λ (x : List Instant). x ++ rest.0) is_these }
