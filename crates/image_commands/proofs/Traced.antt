-- Lines that were written, whole or in front, and how the work ends then.
use Rattle.std.proofs.Common.{◌≡◌, ℕ, List, [], None, Ok, Err, refl}
use Rattle.std.specs.Prelude.{IsTrue}
use Rattle.std.specs.Io.KnownBytes.{Appends}
use Rattle.shelf_traits.specs.Count.{RoseWhere}
use Rattle.shelf_traits.specs.Shelf.{View}
use Rattle.wheel_types.specs.declared.instant.Instant.{Instant}
use Rattle.run_ends.specs.declared.cause.Cause.{Cause}
use Rattle.run_ends.specs.declared.cause.Cause.TheVariants as cause
use Rattle.run_ends.specs.declared.cause.Done.TheVariants as done
use Rattle.run_ends.specs.Prefixes.{AppendsPrefix}
use Rattle.run_ends.specs.Works.{Writes, StopsWrite}
use Rattle.run_ends.specs.Serving.{Stream, Served}
use Rattle.run_ends.proofs.Serving.{wrote, wrote_front}
use Rattle.image_commands.specs.Trace.{IsTraced, trace_text}

-- all lines
pub trace_whole : (v : View) (old new : Stream) (b : List ℕ) (is : List Instant) → Appends old.taken new.taken (trace_text b is) → new.faults ≡ old.faults → (IsTrue old.steady → IsTrue new.steady)
    → Served (Writes (IsTraced b is)) None v v old new [] (Ok done.Whole)
trace_whole v old new b is grown same steady = wrote (IsTraced b is) None v old new (trace_text b is) (Ok done.Whole) (refl, refl) tt grown same steady

-- a front of them
pub trace_front : (v : View) (old new : Stream) (b : List ℕ) (is : List Instant) (e : Cause) → AppendsPrefix old.taken new.taken (trace_text b is) → StopsWrite e
    → RoseWhere (e ≡ cause.WriteFault) old.faults new.faults → (e ≡ cause.WriteFault → IsTrue old.steady → ⊥) → (IsTrue old.steady → IsTrue new.steady)
    → Served (Writes (IsTraced b is)) None v v old new [] (Err e)
trace_front v old new b is e front stops rose calm steady = wrote_front (IsTraced b is) None v old new (trace_text b is) (Ok done.Whole) e (refl, refl) stops front rose calm steady
