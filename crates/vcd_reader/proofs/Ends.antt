-- The end of a stream.
use Rattle.std.proofs.Common.{◌≡◌, ◌≤◌, ℕ, List, [], ◌∷◌, ◌++◌, length, refl, ap, sym, ◌∙◌, None, Ok, arith, Bool, true, false, cond, subst}
use Rattle.std.specs.declared.option.Option.{Option}
use Rattle.wheel_types.specs.declared.instant.Instant.{Instant}
use Rattle.capture_core.specs.declared.capture.Watch.{Watch}
use Rattle.capture_core.specs.declared.capture.VcdFault.{VcdFault}
use Rattle.capture_core.specs.Stamps.{instant_at, instants_of, known_after, with_last}
use Rattle.vcd_reader.specs.declared.token.Token.{Token}
use Rattle.vcd_header.specs.declared.signals.Signals.{Signals}
use Rattle.vcd_reader.specs.declared.changes.Changes.{Changes}
use Rattle.vcd_reader.specs.declared.phase.Phase.TheVariants as phase
use Rattle.vcd_reader.specs.Answers.{AreFirst}
use Rattle.vcd_reader.specs.Tokens.{begun}
use Rattle.vcd_reader.specs.Readings.{Body, Reading, between, inside, changes, wanting, skipping, refused}
use Rattle.vcd_reader.specs.Dumps.{Outcome, after_token, at_end, after_last, at_last, closed_of, reading_of, so_far, with_end, whole, fault_of}
use Rattle.vcd_reader.specs.Standing.{Keeps, Brings}
use Rattle.vcd_reader.specs.Streams.{Ends, StopsAtEnd, Follows}
use Rattle.vcd_reader.specs.declared.stream.Stream.{Stream}
use Rattle.vcd_reader.proofs.GrowingStamps.{Grows, after_token-grows, at_last-grows, first_between, grows_none, whole-grows}
use Rattle.vcd_reader.proofs.Keeping.{waits_more}

pub begun-empty : (t : Token) → length t.text ≡ 0 → begun t ≡ []
begun-empty t none = begun_none t.text t none where
  begun_none : (text : List ℕ) (t : Token) → length text ≡ 0 → begun (record { text = text; at = t.at }) ≡ []
  begun_none [] t none = refl
  begun_none (b ∷ bytes) t none = absurd (omega arith)

pub begun-some : (t : Token) → 1 ≤ length t.text → begun t ≡ t ∷ []
begun-some t some = begun_one t.text t.at some where
  begun_one : (text : List ℕ) (at : ℕ) → 1 ≤ length text → begun (record { text = text; at = at }) ≡ record { text = text; at = at } ∷ []
  begun_one [] at some = absurd (omega arith)
  begun_one (b ∷ bytes) at some = refl

-- between two changes the end is clean, and closes the open stamp
pub ends_clean : (watch : Watch) (handed waiting later : List Instant) (c : Changes) (r : Reading) (o : Option Instant) (len : ℕ)
    → Brings watch handed waiting phase.Between c r → ((b : Body) → Keeps watch handed waiting c b → o ≡ instant_at watch (known_after b.closed) b.now) → later ≡ with_last waiting o
    → Ends watch handed later (Ok tt) (at_end r len)
ends_clean watch handed waiting later c (changes b) o len k is_last is_later =
    record { tells = refl; waits = waits_more watch watch handed waiting later b.closed b.now o k.waits refl (is_last b k) is_later }
ends_clean watch handed waiting later c (between h) o len k is_last is_later = absurd k
ends_clean watch handed waiting later c (inside h s words) o len k is_last is_later = absurd k
ends_clean watch handed waiting later c (wanting b level) o len k is_last is_later = absurd k
ends_clean watch handed waiting later c (skipping b) o len k is_last is_later = absurd k
ends_clean watch handed waiting later c (refused closed f) o len k is_last is_later = absurd k

-- no token is open at the end
pub whole-empty : (wanted : Signals) (bytes : List ℕ) (s : Stream) → Follows s bytes → begun s.run ≡ []
    → at_end (reading_of wanted bytes) s.read ≡ whole wanted bytes
whole-empty wanted bytes s follows none =
    ap (at_end (reading_of wanted bytes)) follows.count
    ∙ ap (λ (ts : List Token). with_end wanted (reading_of wanted bytes) ts (length bytes)) (sym none ∙ ap begun follows.run)

-- the last token is read as one
pub whole-last : (wanted : Signals) (bytes : List ℕ) (s : Stream) (next : Reading) → Follows s bytes → begun s.run ≡ s.run ∷ []
    → fault_of (reading_of wanted bytes) ≡ None → next ≡ after_token wanted (reading_of wanted bytes) s.run
    → at_last (fault_of next) next s.run.at s.read ≡ whole wanted bytes
whole-last wanted bytes s next follows some sound is_next =
    ap (at_last (fault_of next) next s.run.at) follows.count
    ∙ ap (λ (n : Reading). at_last (fault_of n) n s.run.at (length bytes)) is_next
    ∙ sym (ap (λ (o : Option VcdFault). after_last o (reading_of wanted bytes) (after_token wanted (reading_of wanted bytes) s.run) s.run.at (length bytes)) sound)
    ∙ ap (λ (ts : List Token). with_end wanted (reading_of wanted bytes) ts (length bytes)) (sym some ∙ ap begun follows.run)

-- where memory ran out before the last token, the instants are those of the stream so far
pub first_before : (wanted : Signals) (watch : Watch) (bytes : List ℕ) (these : List Instant) → instants_of watch (so_far wanted bytes).closed ≡ these
    → AreFirst (instants_of watch (so_far wanted bytes).closed) these (instants_of watch (whole wanted bytes).closed)
first_before wanted watch bytes these is_these = first_between watch these _ _ _ (grows_none (so_far wanted bytes).closed) (whole-grows wanted bytes) is_these

-- and where it ran out after it, those with the token
pub first_at_end : (wanted : Signals) (watch : Watch) (handed waiting : List Instant) (bytes : List ℕ) (s : Stream) (next : Reading) → Follows s bytes → begun s.run ≡ s.run ∷ []
    → fault_of (reading_of wanted bytes) ≡ None → next ≡ after_token wanted (reading_of wanted bytes) s.run
    → StopsAtEnd watch handed waiting (reading_of wanted bytes) next
    → AreFirst (instants_of watch (so_far wanted bytes).closed) (handed ++ waiting) (instants_of watch (whole wanted bytes).closed)
first_at_end wanted watch handed waiting bytes s next follows some sound is_next stops = by stops.early stops.instants
  where
    by : (early : Bool) → instants_of watch (closed_of (cond early (reading_of wanted bytes) next)) ≡ handed ++ waiting
        → AreFirst (instants_of watch (so_far wanted bytes).closed) (handed ++ waiting) (instants_of watch (whole wanted bytes).closed)
    by true these = first_before wanted watch bytes (handed ++ waiting) these
    by false these =
        let before : Grows (so_far wanted bytes).closed (closed_of next) = rw is_next (after_token-grows wanted (reading_of wanted bytes) s.run) in
        let after : Grows (closed_of next) (whole wanted bytes).closed
        = subst (λ (o : Outcome). Grows (closed_of next) o.closed) (whole-last wanted bytes s next follows some sound is_next) (at_last-grows (fault_of next) next s.run.at s.read) in
        first_between watch (handed ++ waiting) (so_far wanted bytes).closed (closed_of next) (whole wanted bytes).closed before after these
