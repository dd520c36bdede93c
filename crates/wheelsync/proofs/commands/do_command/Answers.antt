use Rattle.std.proofs.Common.{◌≡◌, ◌≢◌, ℕ, List, Option, IfSome, [], sym, subst, None, Some}
use Rattle.std.specs.Prelude.{Result}
use Rattle.std.specs.Option.{option_map}
use Rattle.command_words.specs.declared.words.Command.{Command}
use Rattle.command_words.specs.Options.{Options}
use Rattle.command_words.specs.Words.{Replay, AreApart, AsksGaps, order_of, writes_of}
use Rattle.shelf_traits.specs.Shelf.{View}
use Rattle.tap_board.specs.Meanings.{Meaning}
use Rattle.run_ends.specs.declared.cause.Cause.{Cause}
use Rattle.run_ends.specs.declared.cause.Done.{Done}
use Rattle.run_ends.specs.Serving.{Stream, Served}
use Rattle.certified_replay.proofs.Shutting.{untold}
use Rattle.wheelsync.specs.Commands.{IsCommand}
use Rattle.wheelsync.proofs.commands.do_command.Goals as goal

-- what the work comes to, by the command
as_command : (v w : View) (taps : List Meaning) (old new : Stream) (tails : List ℕ) (end : Result Done Cause) (command found : Command) → command ≡ found
    → Served (IsCommand v taps (order_of found)) (writes_of (order_of found)) v w old new tails end → Served (IsCommand v taps (order_of command)) (writes_of (order_of command)) v w old new tails end
as_command v w taps old new tails end command found is s = subst (λ (k : Command). Served (IsCommand v taps (order_of k)) (writes_of (order_of k)) v w old new tails end) (sym is) s

-- and where it tells no taps
without : (v w : View) (taps : List Meaning) (old new : Stream) (tails : List ℕ) (first last : Result Done Cause) (command found : Command) → command ≡ found → last ≡ first → tails ≡ []
    → Served (IsCommand v taps (order_of found)) (writes_of (order_of found)) v w old new [] first → Served (IsCommand v taps (order_of command)) (writes_of (order_of command)) v w old new tails last
without v w taps old new tails first last command found is same none s =
    as_command v w taps old new tails last command found is (untold (IsCommand v taps (order_of found)) (writes_of (order_of found)) v w old new tails first last same none s)

-- the capture and the certificate's file have different names
capture_apart : {S : Type 0} (text : S → List ℕ) (model capture : List ℕ) (cert : Option S) (o : Options) → AreApart (Replay model capture (option_map text cert) o) → IfSome cert (λ s. capture ≢ text s)
capture_apart text model capture None o h = tt
capture_apart text model capture (Some s) o h = h.1

pub replay_with-requires : goal.replay_with-requires
replay_with-requires g c = record {
  apart = capture_apart (λ s. s.now) c.in-Replay.model.now c.in-Replay.capture.now c.in-Replay.cert _ (subst (λ (k : Command). AreApart (order_of k)) c.in-Replay.is c.requires.apart);
}

pub stim_file-end-requires : goal.stim_file-end-requires
stim_file-end-requires g c =
    let h = subst (λ (k : Command). AsksGaps (order_of k)) c.in-Stim.is c.requires.gaps in
    record { some = h.some; few = h.most }

pub self_test-requires : goal.self_test-requires
self_test-requires g c =
    let h = subst (λ (k : Command). AsksGaps (order_of k)) c.in-SelfTest.is c.requires.gaps in
    record { some = h.some; few = h.most }

pub returns-in-Replay : goal.returns-in-Replay
returns-in-Replay g c = as_command _ _ _ _ _ _ _ _ _ c.in-Replay.is c.replay_with.ensures

pub returns-in-Import : goal.returns-in-Import
returns-in-Import g c = let after = c.without_tails in without _ _ _ _ _ _ _ _ _ _ c.in-Import.is after.ensures.end after.ensures.tails c.import.ensures

pub returns-in-Size : goal.returns-in-Size
returns-in-Size g c = let after = c.without_tails-in-Size in without _ _ _ _ _ _ _ _ _ _ c.in-Size.is after.ensures.end after.ensures.tails c.size.ensures

pub returns-in-Compile : goal.returns-in-Compile
returns-in-Compile g c = let after = c.without_tails-in-Compile in without _ _ _ _ _ _ _ _ _ _ c.in-Compile.is after.ensures.end after.ensures.tails (c.compile_file.ensures _)

pub returns-in-Check : goal.returns-in-Check
returns-in-Check g c = let after = c.without_tails-in-Check in without _ _ _ _ _ _ _ _ _ _ c.in-Check.is after.ensures.end after.ensures.tails c.check_files-end.ensures

pub returns-in-Audit : goal.returns-in-Audit
returns-in-Audit g c = let after = c.without_tails-in-Audit in without _ _ _ _ _ _ _ _ _ _ c.in-Audit.is after.ensures.end after.ensures.tails c.audit_file.ensures

pub returns-in-Trace : goal.returns-in-Trace
returns-in-Trace g c = let after = c.without_tails-in-Trace in without _ _ _ _ _ _ _ _ _ _ c.in-Trace.is after.ensures.end after.ensures.tails c.trace_file-end.ensures

pub returns-in-Stim : goal.returns-in-Stim
returns-in-Stim g c = let after = c.without_tails-in-Stim in without _ _ _ _ _ _ _ _ _ _ c.in-Stim.is after.ensures.end after.ensures.tails (c.stim_file-end.ensures _)

pub returns-in-SelfTest : goal.returns-in-SelfTest
returns-in-SelfTest g c = let after = c.without_tails-in-SelfTest in without _ _ _ _ _ _ _ _ _ _ c.in-SelfTest.is after.ensures.end after.ensures.tails c.self_test.ensures
