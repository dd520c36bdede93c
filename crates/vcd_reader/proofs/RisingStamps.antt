-- The times of a dump's stamps rise, and are at most a billion seconds.
use Rattle.std.proofs.Common.{◌≡◌, ℕ, ◌^◌, ◌≤◌, ℤ, ◌<ℤ◌, true, false, List, [], ◌∷◌, Option, Some, None, refl, arith}
use Rattle.std.specs.Prelude.{fold, int_lt, nat_lt, pos, unsigned_abs}
use Rattle.std.proofs.lemmas.Int.{ints}
use Rattle.std.proofs.lemmas.Bool.Decides.{nat_tests}
use Rattle.capture_core.specs.declared.capture.Stamp.{Stamp}
use Rattle.capture_core.specs.declared.capture.End.TheVariants.{Clean}
use Rattle.capture_core.specs.declared.capture.Given.{Given}
use Rattle.capture_core.specs.declared.capture.VcdFault.{VcdFault}
use Rattle.capture_core.specs.Stamps.{IsRising, nothing}
use Rattle.capture_core.proofs.Bounded.{AreBounded, capture-within}
use Rattle.capture_core.proofs.RisingInstants.{capture-rises}
use Rattle.vcd_header.specs.declared.signals.Signals.{Signals}
use Rattle.vcd_reader.specs.declared.token.Token.{Token}
use Rattle.vcd_reader.specs.Dumps.{after_last, after_token, at_end, at_last, fault_of, reading_of, whole, with_end}
use Rattle.vcd_header.specs.Headers.{empty_header}
use Rattle.vcd_reader.specs.Laws.{InstantsRise, InstantsWithin, StampsRise}
use Rattle.vcd_reader.specs.Readings.{Body, Reading, between, inside, changes, wanting, skipping, refused}
use Rattle.vcd_header.specs.Signals.{wanted_by}
use Rattle.vcd_reader.specs.Tokens.{begun, ended, last_open}
use Rattle.vcd_header.specs.Values.{given_by}
use Rattle.vcd_reader.proofs.Steps.{HoldsAfter, HoldsBeyond, HoldsInHeader, after_text-holds}

-- times rise, and none is more than a billion seconds
abbrev pub AreTimes : List Stamp → Type 0
AreTimes stamps = IsRising stamps × AreBounded (10 ^ 24) stamps

-- so do those of all stamps, the open one too
abbrev pub HaveTimes : Reading → Type 0
HaveTimes (between h) = Unit {0}
HaveTimes (inside h s words) = Unit {0}
HaveTimes (changes b) = AreTimes (b.now ∷ b.closed)
HaveTimes (wanting b level) = AreTimes (b.now ∷ b.closed)
HaveTimes (skipping b) = AreTimes (b.now ∷ b.closed)
HaveTimes (refused closed fault) = AreTimes closed

is_later : (a b : ℤ) → int_lt a b ≡ true → a <ℤ b
is_later a b h = grind (arith, ints)

is_within : (time : ℕ) → nat_lt (10 ^ 24) time ≡ false → unsigned_abs (pos time) ≤ 10 ^ 24
is_within time h = grind (arith, nat_tests)

first_times : (given : Given) → AreTimes (record { time = pos 0; given = given } ∷ [])
first_times given = (tt, (omega arith, tt))

but_last : (s : Stamp) (closed : List Stamp) → AreTimes (s ∷ closed) → AreTimes closed
but_last s [] h = (tt, tt)
but_last s (r ∷ closed) h = (h.0.1, h.1.1)

other_levels : (s : Stamp) (given : Given) (closed : List Stamp) → AreTimes (s ∷ closed) → AreTimes (record { time = s.time; given = given } ∷ closed)
other_levels s given [] h = (tt, (h.1.0, tt))
other_levels s given (r ∷ closed) h = ((h.0.0, h.0.1), (h.1.0, h.1.1))

after_body : (b : Body) → AreTimes (b.now ∷ b.closed) → HoldsAfter HaveTimes b
after_body b h = record {
  same = h;
  later = λ time fits later. ((is_later b.now.time (pos time) later, h.0), (is_within time fits, h.1));
  changed = λ level code. other_levels b.now (given_by b.signals level code b.now.given) b.closed h;
  wants = λ level. h;
  skips = h;
  refused = λ fault. but_last b.now b.closed h;
}

in_header : HoldsInHeader HaveTimes
in_header = record {
  between = λ h. tt;
  inside = λ h s words. tt;
  first = λ scale signals. first_times nothing;
  refused = λ fault. (tt, tt);
}

beyond : (r : Reading) → HaveTimes r → HoldsBeyond HaveTimes r
beyond (between h) k = in_header
beyond (inside h s words) k = in_header
beyond (changes b) k = after_body b k
beyond (wanting b level) k = after_body b k
beyond (skipping b) k = after_body b k
beyond (refused closed fault) k = k

tokens_have : (wanted : Signals) (r : Reading) (ts : List Token) → HaveTimes r → HaveTimes (fold (after_token wanted) r ts)
tokens_have wanted r [] h = h
tokens_have wanted r (t ∷ ts) h = tokens_have wanted (after_token wanted r t) ts (after_text-holds HaveTimes wanted r t.text t.at (beyond r h))

closed_have : (r : Reading) (length : ℕ) → HaveTimes r → AreTimes (at_end r length).closed
closed_have (between h) length k = (tt, tt)
closed_have (inside h s words) length k = (tt, tt)
closed_have (changes b) length k = k
closed_have (wanting b level) length k = but_last b.now b.closed k
closed_have (skipping b) length k = but_last b.now b.closed k
closed_have (refused closed fault) length k = k

at_last-has : (fault : Option VcdFault) (next : Reading) (at length : ℕ) → fault_of next ≡ fault → HaveTimes next → AreTimes (at_last fault next at length).closed
at_last-has (Some fault) (between h) at length is k = (tt, tt)
at_last-has (Some fault) (inside h s words) at length is k = (tt, tt)
at_last-has (Some fault) (changes b) at length is k = but_last b.now b.closed k
at_last-has (Some fault) (wanting b level) at length is k = but_last b.now b.closed k
at_last-has (Some fault) (skipping b) at length is k = but_last b.now b.closed k
at_last-has (Some fault) (refused closed due) at length is k = k
at_last-has None next at length is k = closed_have next length k

with_end-has : (wanted : Signals) (r : Reading) (ts : List Token) (length : ℕ) → HaveTimes r → AreTimes (with_end wanted r ts length).closed
with_end-has wanted r [] length h = closed_have r length h
with_end-has wanted r (t ∷ more) length h = by (fault_of r)
  where
    by : (fault : Option VcdFault) → AreTimes (after_last fault r (after_token wanted r t) t.at length).closed
    by (Some fault) = closed_have r length h
    by None = at_last-has (fault_of (after_token wanted r t)) (after_token wanted r t) t.at length refl (after_text-holds HaveTimes wanted r t.text t.at (beyond r h))

whole_has : (wanted : Signals) (bytes : List ℕ) → AreTimes (whole wanted bytes).closed
whole_has wanted bytes = with_end-has wanted (reading_of wanted bytes) (begun (last_open bytes)) _ (tokens_have wanted (between empty_header) (ended bytes) tt)

pub stamps_rise : StampsRise
stamps_rise names watch bytes = (whole_has (wanted_by names watch) bytes).0

pub instants_rise : InstantsRise
instants_rise names watch bytes = capture-rises watch (record { stamps = (whole (wanted_by names watch) bytes).closed; end = Clean }) (stamps_rise names watch bytes)

pub instants_within : InstantsWithin
instants_within names watch bytes =
    capture-within (10 ^ 24) watch (record { stamps = (whole (wanted_by names watch) bytes).closed; end = Clean }) (whole_has (wanted_by names watch) bytes).1
