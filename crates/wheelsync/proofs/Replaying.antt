-- A replay past the opening of its capture.
use Rattle.std.proofs.Common.{◌≡◌, ℕ, inl, inr, List, [], None, Result, Err, refl, ◌∙◌, ap, subst, arith}
use Rattle.std.specs.Prelude.{IsTrue}
use Rattle.std.proofs.KnownBytes.{Appends-nil}
use Rattle.shelf_traits.specs.Count.{Rose, RoseWhere}
use Rattle.shelf_traits.specs.Shelf.{View, ReadsOn}
use Rattle.shelf_io.specs.Touching.{Opened, Touches}
use Rattle.shelf_io.proofs.Touching.{touches_after}
use Rattle.wheel_types.specs.declared.parts.WheelParts.{WheelParts}
use Rattle.capture_core.specs.declared.capture.Capture.{Capture}
use Rattle.command_words.specs.Options.{Options}
use Rattle.run_ends.specs.declared.cause.Done.{Done}
use Rattle.run_ends.specs.declared.cause.Cause.{Cause}
use Rattle.run_ends.specs.declared.cause.Cause.TheVariants as cause
use Rattle.run_ends.specs.Works.{Work, stopped, read_slot, after}
use Rattle.run_ends.specs.Lines.{WritesLines}
use Rattle.run_ends.specs.Stages.{Past}
use Rattle.run_ends.specs.Serving.{Stream, Tells}
use Rattle.run_ends.proofs.Noting.{rose_before}
use Rattle.certified_replay.specs.Openings.{HasOpened, StopsTaking, IsTaken}
use Rattle.certified_replay.proofs.Taking.{opened_left, stops_reading, accepted, touches_taken, takes_before, opens_before}
use Rattle.wheelsync.specs.Replay.{IsReplayPast, IsReplayOver, IsReported}

not_taking : (v : View) (slot : ℕ) (e : Cause) → StopsTaking v slot e → e ≡ cause.WriteFault → ⊥
not_taking v slot cause.WriteFault s is = s
not_taking v slot cause.ReadFault s is = cc
not_taking v slot cause.Memory s is = cc
not_taking v slot cause.Usage s is = s
not_taking v slot (cause.Refused r) s is = s
not_taking v slot (cause.Limit l) s is = cc

-- the capture is not taken
pub not_taken : (v u y : View) (w : WheelParts) (name : List ℕ) (o : Options) (out : Stream) (told : List ℕ → Type 0) (slot : ℕ) (e : Cause) → HasOpened v u name slot → ReadsOn u y slot
    → (IsTrue u.tells → (y.place slot).name ≡ (u.place slot).name) → RoseWhere (e ≡ cause.ReadFault) u.faults_in y.faults_in → StopsTaking u slot e → told [] → Tells (Past name (IsReplayPast v w name o)) None v y out out told (Err e)
not_taken v u y w name o out told slot e h keeps same r s t =
    let touches = touches_taken v u y name slot h keeps same in
    record {
      served = record {
        work = after (read_slot name (y.place slot).at) (stopped [] e);
        allowed = ((y.place slot).at, (stopped [] e, (record { went = inl (e, (stops_reading v u name slot e (opened_left v u name slot h) s, refl)) }, refl)));
        ends = refl;
        closes = refl;
        out = Appends-nil out.taken;
        shelf = touches;
        read = λ is. let fault : e ≡ cause.ReadFault = cc in subst (λ n. Rose n y.faults_in) h.reads (r.rose fault);
        read_settled = λ n m k. r.stays (λ is. n (ap Err is)) ∙ h.reads;
        write = λ is. let fault : e ≡ cause.WriteFault = cc in absurd (not_taking u slot e s fault);
        write_settled = λ n. (refl, touches.counts_out);
        calm = λ is still steady. let fault : e ≡ cause.WriteFault = cc in not_taking u slot e s fault;
        later = omega arith;
        steady = λ k. k;
      };
      heard = λ n. t;
    }

-- it is taken, and its report is written
pub taken : (v u y : View) (w : WheelParts) (name : List ℕ) (o : Options) (c : Capture) (old new : Stream) (told : List ℕ → Type 0) (slot : ℕ) (end : Result Done Cause) → HasOpened v u name slot → ReadsOn u y slot
    → (IsTrue u.tells → (y.place slot).name ≡ (u.place slot).name) → IsTaken u slot w o c → y.faults_in ≡ u.faults_in → Tells (WritesLines (IsReported w c)) None y y old new told end
    → Tells (Past name (IsReplayPast v w name o)) None v y old new told end
taken v u y w name o c old new told slot end h keeps same k settled t =
    let touches = touches_taken v u y name slot h keeps same in
    let s = t.served in
    record {
      served = record {
        work = after (read_slot name (y.place slot).at) t.served.work;
        allowed = ((y.place slot).at, (t.served.work, (record { went = inr (c, (accepted v u w name o c slot (opened_left v u name slot h) k, t.served.allowed)) }, refl)));
        ends = s.ends;
        closes = s.closes;
        out = s.out;
        shelf = touches_after v y y (read_slot name (y.place slot).at) t.served.work.opened None t.served.work.made touches t.served.shelf;
        read = λ is. rose_before v.faults_in y.faults_in y.faults_in touches.counts_in (s.read is);
        read_settled = λ n m b. s.read_settled n m b ∙ settled ∙ h.reads;
        write = s.write;
        write_settled = λ n. ((s.write_settled n).0, touches.counts_out);
        calm = λ is still steady. s.calm is still (touches.steady steady);
        later = s.later;
        steady = s.steady;
      };
      heard = t.heard;
    }

-- what is so of the rest is so of files that were told before
pub over_before : (t v : View) (opened : List Opened) (tails : List ℕ → List ℕ) (w : WheelParts) (name : List ℕ) (o : Options) (work : Work) → Touches t v opened None None → IsReplayOver v tails w name o work → IsReplayOver t tails w name o work
over_before t v opened tails w name o work p r =
    opens_before t v opened name tails (IsReplayPast v w name o) (IsReplayPast t w name o) work p (λ rest n. takes_before t v opened w name o (λ c. WritesLines (IsReported w c)) rest p n) r
