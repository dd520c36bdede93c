-- Work that taps are told of, from the opening of the capture to the closing of the taps.
use Rattle.std.proofs.Common.{◌≡◌, ℕ, ◌⊎◌, inl, inr, List, [], Option, Result, Err, refl, sym, ◌∙◌, ap, subst, arith}
use Rattle.std.proofs.KnownBytes.{Appends-nil}
use Rattle.shelf_traits.specs.Shelf.{View}
use Rattle.shelf_io.proofs.Touching.{touches_lifted}
use Rattle.tap_board.specs.Meanings.{Meaning, told_all, tails_of, tails_after}
use Rattle.run_ends.specs.declared.cause.Done.{Done}
use Rattle.run_ends.specs.declared.cause.Cause.{Cause}
use Rattle.run_ends.specs.declared.cause.Cause.TheVariants as cause
use Rattle.run_ends.specs.Works.{Work, StopsOpen, stopped}
use Rattle.run_ends.specs.Stages.{Past, Opens, Closes, unclosed}
use Rattle.run_ends.specs.Serving.{Stream, Served, Tells}
use Rattle.run_ends.proofs.Tapping.{IsClosing, closed, opened_closed, served_as}
use Rattle.certified_replay.specs.Openings.{NotOpened}

-- what closing a board comes to, whose live taps are these
abbrev pub IsShut : (live : List Meaning) (text : List ℕ) (first last : Result Done Cause) → Type 0
IsShut live text first last = ((¬ (first ≡ Err cause.Memory)) × ((last ≡ first) × (text ≡ tails_of live))) ⊎ ((text ≡ []) × (last ≡ unclosed first))

closing : (taps start live : List Meaning) (text : List ℕ) (first last : Result Done Cause) → start ≡ taps → IsShut live text first last → IsClosing (tails_after taps) (λ marks. live ≡ told_all marks start) text first last
closing taps start live text first last new (inl (n, (same, is))) = inl (n, (same, λ marks heard. is ∙ ap tails_of (heard ∙ ap (told_all marks) new)))
closing taps start live text first last new (inr gone) = inr gone

-- a capture that is opened, work past that of which the taps are told, and their closing
pub told_work : (v w : View) (name : List ℕ) (next : Work → Type 0) (writes : Option (List ℕ)) (old new : Stream) (taps start live : List Meaning) (text : List ℕ) (first last : Result Done Cause) → start ≡ taps
    → Tells (Past name next) writes v w old new (λ marks. live ≡ told_all marks start) first → IsShut live text first last → Served (Opens v name (Closes (tails_after taps) next)) writes v w old new text last
told_work v w name next writes old new taps start live text first last is t shut =
    served_as (Closes (tails_after taps) (Past name next)) (Opens v name (Closes (tails_after taps) next)) writes v w old new text last (opened_closed v name (tails_after taps) next)
    (closed (tails_after taps) (Past name next) writes v w old new (λ marks. live ≡ told_all marks start) text first last t (closing taps start live text first last is shut))

-- work that ends without tails
pub untold : (allows : Work → Type 0) (writes : Option (List ℕ)) (v w : View) (old new : Stream) (tails : List ℕ) (first last : Result Done Cause) → last ≡ first → tails ≡ [] → Served allows writes v w old new [] first
    → Served allows writes v w old new tails last
untold allows writes v w old new tails first last same none s = subst (λ l. Served allows writes v w old new l last) (sym none) (subst (Served allows writes v w old new []) (sym same) s)

not_opening : (v : View) (name : List ℕ) (e : Cause) → StopsOpen v name e → e ≡ cause.WriteFault → ⊥
not_opening v name cause.WriteFault s is = s
not_opening v name cause.ReadFault s is = cc
not_opening v name cause.Memory s is = cc
not_opening v name cause.Usage s is = s
not_opening v name (cause.Refused r) s is = s
not_opening v name (cause.Limit l) s is = s

-- a capture that is not opened
pub not_opened : (v x : View) (name : List ℕ) (next : Work → Type 0) (writes : Option (List ℕ)) (out : Stream) (e : Cause) → NotOpened v x name e → Served (Opens v name next) writes v x out out [] (Err e)
not_opened v x name next writes out e n = record {
  work = stopped [] e;
  allowed = record { went = inl (e, (n.stops, refl)) };
  ends = refl;
  closes = refl;
  out = Appends-nil out.taken;
  shelf = touches_lifted v x [] writes n.touches;
  read = λ is. let same : e ≡ cause.ReadFault = cc in n.reads.rose same;
  read_settled = λ a b m. n.reads.stays (λ is. a (ap Err is));
  write = λ is. let same : e ≡ cause.WriteFault = cc in absurd (not_opening v name e n.stops same);
  write_settled = λ a. (refl, n.touches.counts_out);
  calm = λ is still steady. let same : e ≡ cause.WriteFault = cc in not_opening v name e n.stops same;
  later = omega arith;
  steady = λ h. h;
}
