-- The closed stamps of a dump are all of its stamps, or all but the last.
use Rattle.std.proofs.Common.{◌≡◌, ℕ, ◌≤◌, List, [], ◌∷◌, ◌++◌, drop, length, refl, ap, arith}
use Rattle.std.specs.Prelude.{fold}
use Rattle.capture_core.specs.declared.capture.Stamp.{Stamp}
use Rattle.capture_core.specs.Captures.{closed_stamps}
use Rattle.capture_core.specs.Stamps.{instants_of}
use Rattle.vcd_header.specs.declared.signals.Signals.{Signals}
use Rattle.vcd_header.specs.Headers.{empty_header}
use Rattle.vcd_header.specs.Signals.{wanted_by}
use Rattle.vcd_reader.specs.declared.token.Token.{Token}
use Rattle.vcd_reader.specs.Dumps.{after_token, at_end, at_last, closed_of, end_of, fault_of, fault_of_file, with_end}
use Rattle.vcd_reader.specs.OpenStamps.{stamps_after, stamps_from, DumpsAreCaptures, LastStampIsOpen}
use Rattle.vcd_reader.specs.Readings.{Body, Reading, between, inside, changes, wanting, skipping, refused}
use Rattle.vcd_reader.specs.Tokens.{begun, ended, last_open}
use Rattle.vcd_reader.proofs.Steps.{HoldsAfter, HoldsBeyond, HoldsInHeader, after_text-holds}

-- where a token has led, the closed stamps are all but the last
abbrev LastIsOpen : List Stamp → Reading → Type 0
LastIsOpen before r = closed_of r ≡ drop 1 (stamps_after before r)

in_header : HoldsInHeader (LastIsOpen [])
in_header = record {
  between = λ h. refl;
  inside = λ h s words. refl;
  first = λ scale signals. refl;
  refused = λ fault. refl;
}

after_body : (b : Body) → HoldsAfter (LastIsOpen (b.now ∷ b.closed)) b
after_body b = record {
  same = refl;
  later = λ time fits later. refl;
  changed = λ level code. refl;
  wants = λ level. refl;
  skips = refl;
  refused = λ fault. refl;
}

beyond : (before : List Stamp) (r : Reading) → LastIsOpen before r → HoldsBeyond (LastIsOpen (stamps_after before r)) r
beyond before (between h) is = in_header
beyond before (inside h s words) is = in_header
beyond before (changes b) is = after_body b
beyond before (wanting b level) is = after_body b
beyond before (skipping b) is = after_body b
beyond before (refused closed fault) is = is

-- so they are after one more token
next-open : (wanted : Signals) (before : List Stamp) (r : Reading) (t : Token) → LastIsOpen before r → LastIsOpen (stamps_after before r) (after_token wanted r t)
next-open wanted before r t is = after_text-holds (LastIsOpen (stamps_after before r)) wanted r t.text t.at (beyond before r is)

tokens-open : (wanted : Signals) (before : List Stamp) (r : Reading) (ts : List Token) → LastIsOpen before r
    → closed_of (fold (after_token wanted) r ts) ≡ drop 1 (stamps_from wanted before r ts)
tokens-open wanted before r [] is = is
tokens-open wanted before r (t ∷ ts) is = tokens-open wanted (stamps_after before r) (after_token wanted r t) ts (next-open wanted before r t is)

-- the end of a file closes the last stamp between two changes
ended-open : (before : List Stamp) (r : Reading) (length : ℕ) → LastIsOpen before r
    → (at_end r length).closed ≡ closed_stamps (end_of (at_end r length).fault) (stamps_after before r)
ended-open before (between h) length is = is
ended-open before (inside h s words) length is = is
ended-open before (changes b) length is = refl
ended-open before (wanting b level) length is = is
ended-open before (skipping b) length is = is
ended-open before (refused closed fault) length is = is

-- so does the end behind a last token
last-open : (before : List Stamp) (next : Reading) (at length : ℕ) → LastIsOpen before next
    → (at_last (fault_of next) next at length).closed ≡ closed_stamps (end_of (at_last (fault_of next) next at length).fault) (stamps_after before next)
last-open before (between h) at length is = is
last-open before (inside h s words) at length is = is
last-open before (changes b) at length is = refl
last-open before (wanting b level) at length is = is
last-open before (skipping b) at length is = is
last-open before (refused closed fault) at length is = is

-- the end of a file with a last token, if there is one
with-last : (wanted : Signals) (before : List Stamp) (r : Reading) (last : List Token) (size : ℕ) → length last ≤ 1 → LastIsOpen before r
    → (with_end wanted r last size).closed ≡ closed_stamps (end_of (with_end wanted r last size).fault) (stamps_from wanted before r last)
with-last wanted before r [] size few is = ended-open before r size is
with-last wanted before (between h) (t ∷ []) size few is = last-open [] (after_token wanted (between h) t) t.at size (next-open wanted before (between h) t is)
with-last wanted before (inside h s words) (t ∷ []) size few is = last-open [] (after_token wanted (inside h s words) t) t.at size (next-open wanted before (inside h s words) t is)
with-last wanted before (changes b) (t ∷ []) size few is = last-open (b.now ∷ b.closed) (after_token wanted (changes b) t) t.at size (next-open wanted before (changes b) t is)
with-last wanted before (wanting b level) (t ∷ []) size few is = last-open (b.now ∷ b.closed) (after_token wanted (wanting b level) t) t.at size (next-open wanted before (wanting b level) t is)
with-last wanted before (skipping b) (t ∷ []) size few is = last-open (b.now ∷ b.closed) (after_token wanted (skipping b) t) t.at size (next-open wanted before (skipping b) t is)
with-last wanted before (refused closed fault) (t ∷ []) size few is = is
with-last wanted before r (t ∷ u ∷ more) size few is = absurd (omega arith)

-- and with tokens before it
with-tokens : (wanted : Signals) (before : List Stamp) (r : Reading) (ts last : List Token) (size : ℕ) → length last ≤ 1 → LastIsOpen before r
    → (with_end wanted (fold (after_token wanted) r ts) last size).closed
    ≡ closed_stamps (end_of (with_end wanted (fold (after_token wanted) r ts) last size).fault) (stamps_from wanted before r (ts ++ last))
with-tokens wanted before r [] last size few is = with-last wanted before r last size few is
with-tokens wanted before r (t ∷ ts) last size few is =
    with-tokens wanted (stamps_after before r) (after_token wanted r t) ts last size few (next-open wanted before r t is)

-- at most one token is begun
begun-few : (t : Token) → length (begun t) ≤ 1
begun-few t = few t.text t.at where
  few : (text : List ℕ) (at : ℕ) → length (begun (record { text = text; at = at })) ≤ 1
  few [] at = omega arith
  few (b ∷ bytes) at = omega arith

pub dumps-are_captures : DumpsAreCaptures
dumps-are_captures names watch bytes =
    ap (λ closed. record { instants = instants_of watch closed; end = end_of (fault_of_file names watch bytes) })
    (with-tokens (wanted_by names watch) [] (between empty_header) (ended bytes) (begun (last_open bytes)) (length bytes) (begun-few (last_open bytes)) refl)

pub last_stamp-open : LastStampIsOpen
last_stamp-open wanted bytes = tokens-open wanted [] (between empty_header) (ended bytes) refl
