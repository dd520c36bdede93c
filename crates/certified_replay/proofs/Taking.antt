-- A file that is opened, and taken later on.
use Rattle.std.proofs.Common.{◌≡◌, ℕ, ◌<◌, ◌≤◌, ◌^◌, ◌⊎◌, inl, inr, List, [], ◌∷◌, length, drop, Option, None, Some, unwrap_or, refl, sym, ◌∙◌, ap, subst}
use Rattle.std.specs.Prelude.{IsTrue, IsSome}
use Rattle.shelf_traits.specs.Shelf.{View, Position, ReadsOn, left_at}
use Rattle.shelf_io.specs.Touching.{Opened, Touches}
use Rattle.shelf_io.proofs.Touching.{touches_read}
use Rattle.wheel_types.specs.declared.parts.WheelParts.{WheelParts}
use Rattle.capture_core.specs.declared.capture.Capture.{Capture}
use Rattle.command_words.specs.Options.{Options}
use Rattle.run_ends.specs.declared.cause.Cause.{Cause}
use Rattle.run_ends.specs.declared.cause.Cause.TheVariants as cause
use Rattle.run_ends.specs.declared.cause.Limit.TheVariants as limit
use Rattle.run_ends.specs.Works.{Work, Told, StopsOpen, StopsRead, stopped, read_slot}
use Rattle.run_ends.specs.Stages.{Past, Opens, Closes, Takes}
use Rattle.run_files.specs.Causes.{FileGives}
use Rattle.run_files.specs.Files.{Holds, IsTooLong}
use Rattle.named_captures.specs.Captures.{HasNamedCapture, IsCapture}
use Rattle.certified_replay.specs.Openings.{HasOpened, StopsTaking, IsTaken}

-- all of a file is left of a slot
pub record IsLeft (v x : View) (name : List ℕ) (slot : ℕ) : Type 0 where
  pub tells : x.tells ≡ v.tells
  pub steady : IsTrue v.steady → IsTrue x.steady
  pub there : IsTrue v.tells → IsSome (v.file name)
  pub whole : IsTrue v.tells → left_at x slot ≡ unwrap_or (v.file name) []

pub left_whole : (v x : View) (name : List ℕ) (slot : ℕ) → x.place slot ≡ (let p : Position = record { name = name; at = 0 } in p) → x.file name ≡ v.file name → left_at x slot ≡ unwrap_or (v.file name) []
left_whole v x name slot place same = ap (λ (p : Position). left_of p) place ∙ ap (λ (f : Option (List ℕ)). unwrap_or f []) same
  where
    left_of : Position → List ℕ
    left_of p = drop p.at (unwrap_or (x.file p.name) [])

-- the place of a slot that was opened
opened_place : (v u : View) (name : List ℕ) (slot : ℕ) → HasOpened v u name slot → IsTrue v.tells → u.place slot ≡ (let p : Position = record { name = name; at = 0 } in p)
opened_place v u name slot h told = subst (λ (s : ℕ). u.place s ≡ (let p : Position = record { name = name; at = 0 } in p)) (sym h.next) (h.touches.stand told).0

pub opened_left : (v u : View) (name : List ℕ) (slot : ℕ) → HasOpened v u name slot → IsLeft v u name slot
opened_left v u name slot h = record {
  tells = h.touches.tells;
  steady = h.touches.steady;
  there = h.there;
  whole = λ told. left_whole v u name slot (opened_place v u name slot h told) (ap (λ (file : List ℕ → Option (List ℕ)). file name) (h.touches.files told));
}

-- what opening a file and reading it leaves
pub touches_taken : (v u y : View) (name : List ℕ) (slot : ℕ) → HasOpened v u name slot → ReadsOn u y slot → (IsTrue u.tells → (y.place slot).name ≡ (u.place slot).name) → Touches v y (read_slot name (y.place slot).at ∷ []) None None
touches_taken v u y name slot h keeps same =
    touches_read v u y name 0 (y.place slot).at [] None None h.touches (subst (ReadsOn u y) h.next keeps)
    (λ told.
    let at : u.place slot ≡ (let p : Position = record { name = name; at = 0 } in p) = opened_place v u name slot h (sym h.touches.tells ∙ told) in
    subst (λ (s : ℕ). y.place s ≡ (let p : Position = record { name = name; at = (y.place slot).at } in p)) h.next
    (ap (λ (n : List ℕ). let p : Position = record { name = n; at = (y.place slot).at } in p) (same told ∙ ap (λ (p : Position). p.name) at)))

too_long_by : (file : List ℕ → Option (List ℕ)) (name : List ℕ) (f : Option (List ℕ)) → file name ≡ f → IsSome f → 2 ^ 28 < length (unwrap_or f []) → IsTooLong file name
too_long_by file name None is some long = absurd (cc)
too_long_by file name (Some bytes) is some long = (bytes, (is, long))

holds_by : (file : List ℕ → Option (List ℕ)) (name : List ℕ) (f : Option (List ℕ)) → file name ≡ f → IsSome f → length (unwrap_or f []) ≤ 2 ^ 28 → Holds file name (unwrap_or f [])
holds_by file name None is some short = absurd (cc)
holds_by file name (Some bytes) is some short = record { there = is; short = short }

pub stops_reading : (v x : View) (capture : List ℕ) (source : ℕ) (e : Cause) → IsLeft v x capture source → StopsTaking x source e → StopsRead v (FileGives v.file capture) e
stops_reading v x capture source cause.ReadFault b s = λ steady. s (b.steady steady)
stops_reading v x capture source cause.Memory b s = tt
stops_reading v x capture source (cause.Limit limit.File) b s = λ told.
    too_long_by v.file capture (v.file capture) refl (b.there told) (subst (λ (l : List ℕ). 2 ^ 28 < length l) (b.whole told) (s (b.tells ∙ told)))
stops_reading v x capture source (cause.Limit limit.Places) b s = absurd s
stops_reading v x capture source (cause.Limit (limit.States n)) b s = absurd s
stops_reading v x capture source (cause.Limit limit.Edges) b s = absurd s
stops_reading v x capture source (cause.Refused r) b s = absurd s
stops_reading v x capture source cause.Usage b s = absurd s
stops_reading v x capture source cause.WriteFault b s = absurd s

pub accepted : (v x : View) (w : WheelParts) (capture : List ℕ) (o : Options) (c : Capture) (source : ℕ) → IsLeft v x capture source → IsTaken x source w o c → Told v (HasNamedCapture v.file capture w o c)
accepted v x w capture o c source b k = λ told.
    let left = b.whole told in
    let told_too = b.tells ∙ told in
    record {
      bytes = unwrap_or (v.file capture) [];
      holds = holds_by v.file capture (v.file capture) refl (b.there told) (subst (λ (l : List ℕ). length l ≤ 2 ^ 28) left (k.short told_too));
      read = subst (λ (l : List ℕ). IsCapture w o l c) left (k.read told_too);
    }

-- ---- past the model

open_before : (t v : View) (opened : List Opened) (name : List ℕ) (e : Cause) → Touches t v opened None None → StopsOpen v name e → StopsOpen t name e
open_before t v opened name cause.ReadFault p h = λ told steady. subst (λ file. file name ≡ None) (p.files told) (h (p.tells ∙ told) (p.steady steady))
open_before t v opened name cause.Memory p h = h
open_before t v opened name cause.Usage p h = h
open_before t v opened name (cause.Refused r) p h = h
open_before t v opened name (cause.Limit l) p h = h
open_before t v opened name cause.WriteFault p h = h

read_before : (t v : View) (opened : List Opened) (name : List ℕ) (e : Cause) → Touches t v opened None None → StopsRead v (FileGives v.file name) e → StopsRead t (FileGives t.file name) e
read_before t v opened name cause.ReadFault p h = λ steady. h (p.steady steady)
read_before t v opened name cause.Memory p h = h
read_before t v opened name cause.Usage p h = h
read_before t v opened name (cause.Refused r) p h = λ told. absurd (h (p.tells ∙ told))
read_before t v opened name (cause.Limit l) p h = λ told. subst (λ file. FileGives file name (cause.Limit l)) (p.files told) (h (p.tells ∙ told))
read_before t v opened name cause.WriteFault p h = h

-- what is so of taking a file is so over a shelf that has its files from before
pub takes_before : (t v : View) (opened : List Opened) (w : WheelParts) (capture : List ℕ) (o : Options) (next : Capture → Work → Type 0) (work : Work) → Touches t v opened None None
    → Takes v (FileGives v.file capture) (HasNamedCapture v.file capture w o) next work → Takes t (FileGives t.file capture) (HasNamedCapture t.file capture w o) next work
takes_before t v opened w capture o next work p r = record { went = by r.went }
  where
    by : ((e : Cause) × (StopsRead v (FileGives v.file capture) e × (work ≡ stopped [] e))) ⊎ ((c : Capture) × (Told v (HasNamedCapture v.file capture w o c) × next c work))
        → ((e : Cause) × (StopsRead t (FileGives t.file capture) e × (work ≡ stopped [] e))) ⊎ ((c : Capture) × (Told t (HasNamedCapture t.file capture w o c) × next c work))
    by (inl (e, (s, is))) = inl (e, (read_before t v opened capture e p s, is))
    by (inr (c, (a, n))) = inr (c, (λ told. subst (λ file. HasNamedCapture file capture w o c) (p.files told) (a (p.tells ∙ told)), n))

-- and of opening one, and closing the taps past that
pub opens_before : (t v : View) (opened : List Opened) (capture : List ℕ) (tails : List ℕ → List ℕ) (next more : Work → Type 0) (work : Work) → Touches t v opened None None → ((rest : Work) → next rest → more rest)
    → Opens v capture (Closes tails next) work → Opens t capture (Closes tails more) work
opens_before t v opened capture tails next more work p f r = record { went = by r.went }
  where
    by : ((e : Cause) × (StopsOpen v capture e × (work ≡ stopped [] e))) ⊎ Past capture (Closes tails next) work → ((e : Cause) × (StopsOpen t capture e × (work ≡ stopped [] e))) ⊎ Past capture (Closes tails more) work
    by (inl (e, (s, is))) = inl (e, (open_before t v opened capture e p s, is))
    by (inr (taken, (rest, (n, is)))) = inr (taken, (rest, (record { rest = n.rest; went = f n.rest n.went; closed = n.closed }, is)))
