-- What holds after each token, wherever tokens have led.
use Rattle.std.proofs.Common.{◌≡◌, ℕ, ◌^◌, ◌*◌, ◌==◌, ◌||◌, Bool, true, false, cond, List, [], ◌∷◌, length, Option, Some, None, refl}
use Rattle.std.specs.Prelude.{nat_lt, int_lt, pos, Result, Ok, Err}
use Rattle.std.specs.List.{list_all}
use Rattle.capture_core.specs.declared.capture.VcdFault.{VcdFault}
use Rattle.capture_core.specs.declared.capture.VcdFault.TheVariants.{BadToken, NoTimescale, TimeFalls, TimeTooLarge}
use Rattle.vcd_header.specs.declared.section.Section.{Section}
use Rattle.vcd_header.specs.declared.signals.Signals.{Signals}
use Rattle.vcd_reader.specs.Changes.{after_change, at_later, at_time, change_token, code_token, other_token, real_token, time_token, vector_token}
use Rattle.vcd_reader.specs.Dumps.{after_text}
use Rattle.vcd_header.specs.Headers.{Header, Var, section_begun, with_section, word_fits}
use Rattle.vcd_reader.specs.Readings.{Body, Reading, between, inside, changes, wanting, skipping, refused, between_if, changes_if, first_body, header_ended, inside_if, is_last, section_token}
use Rattle.vcd_header.specs.Signals.{signals_of}
use Rattle.capture_core.specs.Numerals.{is_digit, number}
use Rattle.vcd_header.specs.Texts.{is_code_byte, is_end}
use Rattle.vcd_header.specs.Values.{is_idle, is_value, last_of, level_of}

-- it holds of all that a token of the header may lead to
pub record HoldsInHeader (P : Reading → Type 0) : Type 0 where
  pub between : (h : Header) → P (between h)
  pub inside : (h : Header) (s : Section) (words : List (List ℕ)) → P (inside h s words)
  pub first : (scale : ℕ) (signals : Signals) → P (changes (first_body scale signals))
  pub refused : (fault : VcdFault) → P (refused [] fault)

-- it holds of all that a token of the changes may lead to
pub record HoldsAfter (P : Reading → Type 0) (b : Body) : Type 0 where
  pub same : P (changes b)
  pub later : (time : ℕ) → nat_lt (10 ^ 24) time ≡ false → int_lt b.now.time (pos time) ≡ true → P (changes (at_later b time))
  pub changed : (level : Option Bool) (code : List ℕ) → P (changes (after_change b level code))
  pub wants : (level : Option Bool) → P (wanting b level)
  pub skips : P (skipping b)
  pub refused : (fault : VcdFault) → P (refused b.closed fault)

-- it holds of all that a token after this reading may lead to
abbrev pub HoldsBeyond : (Reading → Type 0) → Reading → Type 0
HoldsBeyond P (between h) = HoldsInHeader P
HoldsBeyond P (inside h s words) = HoldsInHeader P
HoldsBeyond P (changes b) = HoldsAfter P b
HoldsBeyond P (wanting b level) = HoldsAfter P b
HoldsBeyond P (skipping b) = HoldsAfter P b
HoldsBeyond P (refused closed fault) = P (refused closed fault)

either : (P : Reading → Type 0) (t : Bool) (x y : Reading) → P x → P y → P (cond t x y)
either P true x y in_x in_y = in_x
either P false x y in_x in_y = in_y

-- ---- the header

inside_if-holds : (P : Reading → Type 0) → HoldsInHeader P → (h : Header) (s : Option Section) (at : ℕ) → P (inside_if h s at)
inside_if-holds P k h None at = k.refused (BadToken at)
inside_if-holds P k h (Some s) at = k.inside h s []

between_if-holds : (P : Reading → Type 0) → HoldsInHeader P → (h : Option Header) (at : ℕ) → P (between_if h at)
between_if-holds P k None at = k.refused (BadToken at)
between_if-holds P k (Some h) at = k.between h

changes_if-holds : (P : Reading → Type 0) → HoldsInHeader P → (scale : ℕ) (found : Result Signals VcdFault) → P (changes_if scale found)
changes_if-holds P k scale (Ok signals) = k.first scale signals
changes_if-holds P k scale (Err fault) = k.refused fault

header_ended-holds : (P : Reading → Type 0) → HoldsInHeader P → (wanted : Signals) (vars : List Var) (scale : Option ℕ) → P (header_ended wanted vars scale)
header_ended-holds P k wanted vars None = k.refused NoTimescale
header_ended-holds P k wanted vars (Some scale) = changes_if-holds P k scale (signals_of wanted vars)

section_token-holds : (P : Reading → Type 0) → HoldsInHeader P → (wanted : Signals) (h : Header) (s : Section) (words : List (List ℕ)) (text : List ℕ) (at : ℕ)
    → P (section_token wanted h s words text at)
section_token-holds P k wanted h s words text at =
    either P (is_end text) _ _
    (either P (is_last s) _ _ (header_ended-holds P k wanted h.vars h.scale) (between_if-holds P k (with_section h s words) at))
    (either P (word_fits s (length words) text) _ _ (k.inside h s _) (k.refused (BadToken at)))

-- ---- the changes

at_time-holds : (P : Reading → Type 0) (b : Body) → HoldsAfter P b → (time at : ℕ) → P (at_time b time at)
at_time-holds P b k time at = by (nat_lt (10 ^ 24) time) refl (int_lt b.now.time (pos time)) refl
  where
    by : (x : Bool) → nat_lt (10 ^ 24) time ≡ x → (z : Bool) → int_lt b.now.time (pos time) ≡ z
        → P (cond x (refused b.closed (TimeTooLarge at)) (cond (int_lt (pos time) b.now.time) (refused b.closed (TimeFalls at)) (cond z (changes (at_later b time)) (changes b))))
    by true large z later = k.refused (TimeTooLarge at)
    by false fits true later = either P (int_lt (pos time) b.now.time) _ _ (k.refused (TimeFalls at)) (k.later time fits later)
    by false fits false same = either P (int_lt (pos time) b.now.time) _ _ (k.refused (TimeFalls at)) k.same

time_token-holds : (P : Reading → Type 0) (b : Body) → HoldsAfter P b → (digits : List ℕ) (at : ℕ) → P (time_token b digits at)
time_token-holds P b k [] at = k.refused (BadToken at)
time_token-holds P b k (d ∷ digits) at =
    either P (list_all is_digit (d ∷ digits)) _ _ (at_time-holds P b k (number (d ∷ digits) * b.scale) at) (k.refused (BadToken at))

code_token-holds : (P : Reading → Type 0) (b : Body) → HoldsAfter P b → (level : Option Bool) (code : List ℕ) (at : ℕ) → P (code_token b level code at)
code_token-holds P b k level [] at = k.refused (BadToken at)
code_token-holds P b k level (c ∷ code) at = either P (list_all is_code_byte (c ∷ code)) _ _ (k.changed level (c ∷ code)) (k.refused (BadToken at))

vector_token-holds : (P : Reading → Type 0) (b : Body) → HoldsAfter P b → (values : List ℕ) (at : ℕ) → P (vector_token b values at)
vector_token-holds P b k [] at = k.refused (BadToken at)
vector_token-holds P b k (v ∷ values) at = either P (list_all is_value (v ∷ values)) _ _ (k.wants (level_of (last_of values v))) (k.refused (BadToken at))

real_token-holds : (P : Reading → Type 0) (b : Body) → HoldsAfter P b → (bytes : List ℕ) (at : ℕ) → P (real_token b bytes at)
real_token-holds P b k [] at = k.refused (BadToken at)
real_token-holds P b k (c ∷ bytes) at = k.wants None

other_token-holds : (P : Reading → Type 0) (b : Body) → HoldsAfter P b → (c : ℕ) (rest text : List ℕ) (at : ℕ) → P (other_token b c rest text at)
other_token-holds P b k c rest text at =
    either P ((c == 98) || (c == 66)) _ _ (vector_token-holds P b k rest at)
    (either P ((c == 114) || (c == 82)) _ _ (real_token-holds P b k rest at)
    (either P ((c == 115) || (c == 83)) _ _ (k.wants None)
    (either P (c == 36) _ _ (either P (is_idle text) _ _ k.same k.skips) (k.refused (BadToken at)))))

change_token-holds : (P : Reading → Type 0) (b : Body) → HoldsAfter P b → (text : List ℕ) (at : ℕ) → P (change_token b text at)
change_token-holds P b k [] at = k.refused (BadToken at)
change_token-holds P b k (c ∷ rest) at =
    either P (c == 35) _ _ (time_token-holds P b k rest at)
    (either P (is_value c) _ _ (code_token-holds P b k (level_of c) rest at) (other_token-holds P b k c rest (c ∷ rest) at))

-- ---- both

pub after_text-holds : (P : Reading → Type 0) (wanted : Signals) (r : Reading) (text : List ℕ) (at : ℕ) → HoldsBeyond P r → P (after_text wanted r text at)
after_text-holds P wanted (between h) text at k = inside_if-holds P k h (section_begun h text) at
after_text-holds P wanted (inside h s words) text at k = section_token-holds P k wanted h s words text at
after_text-holds P wanted (changes b) text at k = change_token-holds P b k text at
after_text-holds P wanted (wanting b level) text at k = code_token-holds P b k level text at
after_text-holds P wanted (skipping b) text at k = either P (is_end text) _ _ k.same k.skips
after_text-holds P wanted (refused closed fault) text at k = k
