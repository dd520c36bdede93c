-- What follows of a run from what its work may come to.
use Rattle.std.proofs.Common.{◌≡◌, ℕ, ◌⊎◌, inl, inr, List, Option, None, Some, IfSome, Result, Ok, Err, refl, sym, ◌∙◌, ap, subst, ◌≤◌}
use Rattle.std.specs.Prelude.{IsTrue, option_and_then}
use Rattle.shelf_traits.specs.Count.{Rose}
use Rattle.shelf_traits.specs.Shelf.{View}
use Rattle.shelf_io.specs.Touching.{RoseOut}
use Rattle.capture_core.specs.declared.capture.End.{End}
use Rattle.capture_core.specs.declared.capture.End.TheVariants.{Clean, Csv, Vcd}
use Rattle.command_words.specs.Options.{Options}
use Rattle.command_words.specs.Words.{Order, Replay, Import, Size, Compile, Check, Audit, Trace, Stim, SelfTest, writes_of}
use Rattle.run_ends.specs.declared.cause.Done.{Done}
use Rattle.run_ends.specs.declared.cause.Done.TheVariants as done
use Rattle.run_ends.specs.declared.cause.Cause.{Cause}
use Rattle.run_ends.specs.declared.cause.Cause.TheVariants as cause
use Rattle.run_ends.specs.declared.status.Status.{Status}
use Rattle.run_ends.specs.declared.status.Status.TheVariants as status
use Rattle.run_ends.specs.Statuses.{status_of}
use Rattle.run_ends.specs.Finishing.{HasNoted, FailedNote, notes_text}
use Rattle.run_ends.specs.Works.{Work, Judges, Writes, StopsOpen, StopsRead, StopsWrite}
use Rattle.run_ends.specs.Lines.{WritesLines}
use Rattle.run_ends.specs.Stages.{Closes}
use Rattle.capture_core.specs.declared.capture.Capture.{Capture}
use Rattle.tap_board.specs.Meanings.{Meaning, tails_after}
use Rattle.run_ends.specs.Serving.{Stream, Served, Ran, NoneFailed, WentOut}
use Rattle.run_files.specs.Causes.{FileGives, ModelGives, SourceGives, ended_by}
use Rattle.run_files.specs.Files.{HasPlacedWheel, HasTable}
use Rattle.wheelsync.specs.Complete.{AreAccepted, AreReady, IsDenied, IsDue}
use Rattle.wheel_types.specs.declared.parts.WheelParts.{WheelParts}
use Rattle.table_models.proofs.Ending.{model_ends, model_not_usage}
use Rattle.check_command.proofs.Answered.{EndsIn, check_ends, check_not_usage, valid_ends, invalid_ends}
use Rattle.run_files.proofs.Ready.{model_gives_none, file_gives_none, source_gives_none, file_has_one_wheel, file_has_one_table}
use Rattle.named_captures.specs.Captures.{HasNamedCapture}
use Rattle.named_captures.proofs.FileNames.{file_has_one_capture}
use Rattle.run_ends.proofs.Noting.{due_or_memory}
use Rattle.run_ends.proofs.Completing.{reads_end, judges_end, writes_end, opens_end, closes_end, takes_end, lines_end, hands_end, reads_ready, judges_ready, open_not_usage, read_not_usage, judge_not_usage, write_not_usage}
use Rattle.certified_replay.proofs.Ending.{certified_ends, certified_not_usage}
use Rattle.wheelsync.specs.Replay.{IsReplay, IsReplayed, IsReplayOver, IsReplayPast, IsReported}
use Rattle.wheelsync.specs.Import.{IsImport}
use Rattle.table_commands.specs.States.{HasFewStates, FamilyGives}
use Rattle.compile_command.proofs.Compiling.{compile_ends, compile_not_usage}
use Rattle.table_commands.specs.Size.{IsSize, IsSized}
use Rattle.table_commands.proofs.OneFamily.{family_gives_none}
use Rattle.image_commands.proofs.Ready.{audit_ends, trace_ends, audit_not_usage, trace_not_usage}
use Rattle.stimulus_commands.proofs.Ready.{stim_ends, self_ends, stim_not_usage, self_not_usage}
use Rattle.wheelsync.specs.Commands.{IsCommand, IsWork}
use Rattle.wheelsync.proofs.Endings.{IsSlotsLine}

-- the work is done, or wanted memory, or a write failed
abbrev pub IsSettled : Result Done Cause → Type 0
IsSettled end = EndsIn done.Whole end

settled_stop : (e : Cause) → StopsWrite e → IsSettled (Err e)
settled_stop cause.WriteFault s = inr (inr refl)
settled_stop cause.Memory s = inr (inl refl)
settled_stop cause.Usage s = absurd s
settled_stop cause.ReadFault s = absurd s
settled_stop (cause.Refused r) s = absurd s
settled_stop (cause.Limit l) s = absurd s

-- over accepted files and a steady shelf
replay_over_settles : (v : View) (tails : List ℕ → List ℕ) (m c : List ℕ) (o : Options) (w : WheelParts) (k : Capture) (work : Work) → IsTrue v.tells → IsTrue v.steady → AreAccepted v.file m c o w k → IsReplayOver v tails w c o work → IsSettled work.end
replay_over_settles v tails m c o w k work told steady a r =
    opens_end v c (Closes tails (IsReplayPast v w c o)) IsSettled work opening
    (λ more q.
    closes_end tails (IsReplayPast v w c o) IsSettled more
    (λ last p.
    takes_end v (FileGives v.file c) (HasNamedCapture v.file c w o) (λ d. WritesLines (IsReported w d)) IsSettled last reading
    (λ d h t. lines_end (IsReported w d) IsSettled last (λ all end g. inl (g.1 ∙ ap ended_by (ap (λ (e : Capture). e.end) (file_has_one_capture v.file c w o d k (h told) a.files.capture_file) ∙ a.clean))) settled_stop t) p)
    (inr (inl refl)) q)
    r
  where
    opening : (e : Cause) → StopsOpen v c e → IsSettled (Err e)
    opening cause.ReadFault s = let gone : Some a.files.capture_file.bytes ≡ None = sym a.files.capture_file.holds.there ∙ s told steady in absurd (cc)
    opening cause.Memory s = inr (inl refl)
    opening cause.Usage s = absurd s
    opening (cause.Refused x) s = absurd s
    opening (cause.Limit l) s = absurd s
    opening cause.WriteFault s = absurd s

    reading : (e : Cause) → StopsRead v (FileGives v.file c) e → IsSettled (Err e)
    reading cause.ReadFault s = absurd (s steady)
    reading cause.Memory s = inr (inl refl)
    reading cause.Usage s = absurd s
    reading (cause.Refused x) s = absurd (file_gives_none v.file c a.files.capture_file.bytes a.files.capture_file.holds (cause.Refused x) (s told))
    reading (cause.Limit l) s = absurd (file_gives_none v.file c a.files.capture_file.bytes a.files.capture_file.holds (cause.Limit l) (s told))
    reading cause.WriteFault s = absurd s

replay_settles : (v : View) (tails : List ℕ → List ℕ) (m c : List ℕ) (o : Options) (work : Work) → IsTrue v.tells → IsTrue v.steady → AreReady v.file (Replay m c None o) → IsReplay v tails m c o work → IsSettled work.end
replay_settles v tails m c o work told steady (w, (k, a)) r =
    model_ends IsSettled v m w (λ u. IsReplayOver v tails u c o) work told steady a.files.model_file (inr (inl refl))
    (λ rest n. replay_over_settles v tails m c o w k rest told steady a n) r

replayed_settles : (v : View) (tails : List ℕ → List ℕ) (m c : List ℕ) (f : Option (List ℕ)) (o : Options) (work : Work) → IsTrue v.tells → IsTrue v.steady → AreReady v.file (Replay m c f o) → IsReplayed v tails m c f o work → IsSettled work.end
replayed_settles v tails m c None o work told steady ready r = replay_settles v tails m c o work told steady ready r
replayed_settles v tails m c (Some f) o work told steady (w, (k, a)) r =
    certified_ends IsSettled v tails m c f o w k work told steady a.files.model_file a.files.capture_file (inl (ap ended_by a.clean)) (inr (inl refl)) (inr (inr refl)) r

import_settles : (v : View) (source name : List ℕ) (work : Work) → IsTrue v.tells → IsTrue v.steady → AreReady v.file (Import source name) → IsImport v source name work → IsSettled work.end
import_settles v source name work told steady (slots, h) r =
    reads_ready v source (SourceGives v.file source name) (HasTable v.file source name) (λ slots. Writes (IsSlotsLine slots)) IsSettled h.bytes slots work told steady h.holds.there
    (source_gives_none v.file source name slots h) (λ other k. file_has_one_table v.file source name other slots k h) (inr (inl refl))
    (λ last p. writes_end (IsSlotsLine slots) IsSettled last (λ text end d. inl d.1) settled_stop p) r

size_settles : (v : View) (wheel : List ℕ) (work : Work) → IsTrue v.tells → IsTrue v.steady → AreReady v.file (Size wheel) → IsSize v wheel work → IsSettled work.end
size_settles v wheel work told steady (w, h) r =
    reads_ready v wheel (ModelGives v.file wheel) (HasPlacedWheel v.file wheel) (λ w. Judges (FamilyGives w) (HasFewStates w) (Writes (IsSized w))) IsSettled
    h.wheel_file.wheel.bytes w work told steady h.wheel_file.wheel.holds.there (model_gives_none v.file wheel w h.wheel_file)
    (λ u k. file_has_one_wheel v.file wheel u w k.wheel h.wheel_file.wheel) (inr (inl refl))
    (λ rest n.
    judges_ready (FamilyGives w) (HasFewStates w) (Writes (IsSized w)) IsSettled rest (family_gives_none w h.few) (inr (inl refl))
    (λ p. writes_end (IsSized w) IsSettled rest (λ text end d. inl d.1.1.1) settled_stop p) n)
    r

settles : (v : View) (taps : List Meaning) (order : Order) (work : Work) → IsTrue v.tells → IsTrue v.steady → AreReady v.file order → IsCommand v taps order work → IsSettled work.end
settles v taps (Replay m c f o) work told steady ready r = replayed_settles v (tails_after taps) m c f o work told steady ready r
settles v taps (Import source name) work told steady ready r = import_settles v source name work told steady ready r
settles v taps (Size wheel) work told steady ready r = size_settles v wheel work told steady ready r
settles v taps (Compile wheel image) work told steady (w, h) r = compile_ends IsSettled v wheel image w work told steady h.wheel_file h.few (inl refl) (inr (inl refl)) (inr (inr refl)) r
settles v taps (Check wheel capture report cert o) work told steady (w, (c, (rs, (cs, (h, valid))))) r =
    check_ends done.Whole v wheel capture report cert o w c rs cs work told steady h (valid_ends w c rs cs valid) r
settles v taps (Audit image) work told steady (b, (h, sound)) r = audit_ends IsSettled v image b work told steady h sound (inl refl) (inr (inl refl)) (inr (inr refl)) r
settles v taps (Trace image capture o) work told steady (b, (c, h)) r = trace_ends IsSettled v image capture o b c work told steady h (inl refl) (inr (inl refl)) (inr (inr refl)) r
settles v taps (Stim wheel form seed gaps file) work told steady (w, (h, has)) r =
    stim_ends IsSettled v wheel form seed gaps file w work told steady h has (inl refl) (inr (inl refl)) (inr (inr refl)) r
settles v taps (SelfTest wheel seed gaps) work told steady (w, (h, has)) r =
    self_ends IsSettled v wheel seed gaps w work told steady h.wheel_file h.few has (inl refl) (inr (inl refl)) (inr (inr refl)) r

denied : (v : View) (taps : List Meaning) (order : Order) (work : Work) → IsTrue v.tells → IsTrue v.steady → IsDenied v.file order → IsCommand v taps order work → EndsIn done.No work.end
denied v taps (Check wheel capture report cert o) work told steady (w, (c, (rs, (cs, (h, not_valid))))) r =
    check_ends done.No v wheel capture report cert o w c rs cs work told steady h (invalid_ends w c rs cs not_valid) r
denied v taps (Replay m c f o) work told steady d r = absurd d
denied v taps (Import source name) work told steady d r = absurd d
denied v taps (Size wheel) work told steady d r = absurd d
denied v taps (Compile wheel image) work told steady d r = absurd d
denied v taps (Audit image) work told steady d r = absurd d
denied v taps (Trace image capture o) work told steady d r = absurd d
denied v taps (Stim wheel form seed gaps file) work told steady d r = absurd d
denied v taps (SelfTest wheel seed gaps) work told steady d r = absurd d

-- and where out is handed on past the work
work_ends : (x : Done) (v : View) (taps : List Meaning) (order : Order) (work : Work) → ((rest : Work) → IsCommand v taps order rest → EndsIn x rest.end) → IsWork v taps (Some order) work → EndsIn x work.end
work_ends x v taps order work by r = hands_end (IsCommand v taps order) (EndsIn x) work by (inr (inr refl)) r

-- where no write fails the status is that of the work that is done
by_ended : (x : Done) (v w : View) (allows : Work → Type 0) (writes : Option (List ℕ)) (out new notes after : Stream) (s : Status) → (r : Ran allows writes v w out new notes after s) → IsTrue v.steady
    → NoneFailed out new → NoneFailed notes after → EndsIn x r.served.work.end → (s ≡ status_of (Ok x)) ⊎ (s ≡ status.Memory)
by_ended x v w allows writes out new notes after s r steady a b settled = by settled
  where
    not_noted : NoneFailed notes after → FailedNote notes.faults after.faults (IsTrue notes.steady) → ⊥
    not_noted (inl still) f = f.unsteady still
    not_noted (inr none) f = none f.rose

    not_filed : (writes : Option (List ℕ)) → RoseOut v w writes → ⊥
    not_filed None failed = failed
    not_filed (Some name) failed = failed.unsteady steady

    not_written : NoneFailed out new → Rose out.faults new.faults ⊎ RoseOut v w writes → r.end ≡ Err cause.WriteFault → ⊥
    not_written (inl still) rose is = r.served.calm is still steady
    not_written (inr none) (inl rose) is = none rose
    not_written (inr none) (inr failed) is = not_filed writes failed

    due : (s ≡ status_of r.end) ⊎ (s ≡ status.Memory)
    due = due_or_memory (FailedNote notes.faults after.faults (IsTrue notes.steady)) notes.taken after.taken (notes_text r.end r.tails) (status_of r.end) s (not_noted b) r.noted

    by_due : (t : Status) → status_of r.end ≡ t → (s ≡ status_of r.end) ⊎ (s ≡ status.Memory) → (s ≡ t) ⊎ (s ≡ status.Memory)
    by_due t is (inl same) = inl (same ∙ is)
    by_due t is (inr m) = inr m

    memory_only : (s ≡ status.Memory) ⊎ (s ≡ status.Memory) → (s ≡ status_of (Ok x)) ⊎ (s ≡ status.Memory)
    memory_only (inl m) = inr m
    memory_only (inr m) = inr m

    by : EndsIn x r.served.work.end → (s ≡ status_of (Ok x)) ⊎ (s ≡ status.Memory)
    by (inl is) = by_due (status_of (Ok x)) (ap status_of (r.served.ends ∙ is)) due
    by (inr (inl is)) = memory_only (by_due status.Memory (ap status_of (r.served.ends ∙ is)) due)
    by (inr (inr is)) = let fault = r.served.ends ∙ is in absurd (not_written a (r.served.write fault) fault)

-- a run is complete
pub completes : (v w : View) (taps : List Meaning) (order : Option Order) (out new notes after : Stream) (s : Status) → Ran (IsWork v taps order) (option_and_then writes_of order) v w out new notes after s → IsTrue v.tells → IsTrue v.steady
    → NoneFailed out new → NoneFailed notes after → IfSome order (λ order. IsDue v.file order s)
completes v w taps None out new notes after s r told steady a b = tt
completes v w taps (Some order) out new notes after s r told steady a b = (
  λ ready. by_ended done.Whole v w (IsWork v taps (Some order)) (writes_of order) out new notes after s r steady a b (work_ends done.Whole v taps order r.served.work (λ rest n. settles v taps order rest told steady ready n) r.served.allowed),
  λ no. by_ended done.No v w (IsWork v taps (Some order)) (writes_of order) out new notes after s r steady a b (work_ends done.No v taps order r.served.work (λ rest n. denied v taps order rest told steady no n) r.served.allowed),
)

-- ---- usage

ended_not_usage : (end : End) → ended_by end ≡ Err cause.Usage → ⊥
ended_not_usage Clean is = cc
ended_not_usage (Csv fault) is = cc
ended_not_usage (Vcd fault) is = cc

not_cause : (e : Cause) → (e ≡ cause.Usage → ⊥) → ◌≡◌ {A = Result Done Cause} (Err e) (Err cause.Usage) → ⊥
not_cause e n is = let same : e ≡ cause.Usage = cc in n same

replay_not_usage : (v : View) (tails : List ℕ → List ℕ) (m c : List ℕ) (o : Options) (work : Work) → IsReplay v tails m c o work → work.end ≡ Err cause.Usage → ⊥
replay_not_usage v tails m c o work r =
    model_not_usage v m (λ w. IsReplayOver v tails w c o) work
    (λ w rest n.
    opens_end v c (Closes tails (IsReplayPast v w c o)) (λ end. end ≡ Err cause.Usage → ⊥) rest (λ e s. not_cause e (open_not_usage v c e s))
    (λ more q.
    closes_end tails (IsReplayPast v w c o) (λ end. end ≡ Err cause.Usage → ⊥) more
    (λ last p.
    takes_end v (FileGives v.file c) (HasNamedCapture v.file c w o) (λ k. WritesLines (IsReported w k)) (λ end. end ≡ Err cause.Usage → ⊥) last (λ e s. not_cause e (read_not_usage v (FileGives v.file c) e s))
    (λ k b t. lines_end (IsReported w k) (λ end. end ≡ Err cause.Usage → ⊥) last (λ all end d is. ended_not_usage k.end (sym d.1 ∙ is)) (λ e s. not_cause e (write_not_usage e s)) t) p)
    (λ is. cc) q) n)
    r

replayed_not_usage : (v : View) (tails : List ℕ → List ℕ) (m c : List ℕ) (f : Option (List ℕ)) (o : Options) (work : Work) → IsReplayed v tails m c f o work → work.end ≡ Err cause.Usage → ⊥
replayed_not_usage v tails m c None o work r = replay_not_usage v tails m c o work r
replayed_not_usage v tails m c (Some f) o work r = certified_not_usage v tails m c f o work r

import_not_usage : (v : View) (source name : List ℕ) (work : Work) → IsImport v source name work → work.end ≡ Err cause.Usage → ⊥
import_not_usage v source name work r =
    reads_end v source (SourceGives v.file source name) (HasTable v.file source name) (λ slots. Writes (IsSlotsLine slots)) (λ end. end ≡ Err cause.Usage → ⊥) work
    (λ e s. not_cause e (open_not_usage v source e s)) (λ e s. not_cause e (read_not_usage v (SourceGives v.file source name) e s))
    (λ slots last a p. writes_end (IsSlotsLine slots) (λ end. end ≡ Err cause.Usage → ⊥) last (λ text end d is. let no : ◌≡◌ {A = Result Done Cause} (Ok done.Whole) (Err cause.Usage) = sym d.1 ∙ is in cc) (λ e s. not_cause e (write_not_usage e s)) p)
    r

not_done_for_usage : (end : Result Done Cause) → end ≡ Ok done.Whole → end ≡ Err cause.Usage → ⊥
not_done_for_usage end whole is = let no : ◌≡◌ {A = Result Done Cause} (Ok done.Whole) (Err cause.Usage) = sym whole ∙ is in cc

size_not_usage : (v : View) (wheel : List ℕ) (work : Work) → IsSize v wheel work → work.end ≡ Err cause.Usage → ⊥
size_not_usage v wheel work r =
    reads_end v wheel (ModelGives v.file wheel) (HasPlacedWheel v.file wheel) (λ w. Judges (FamilyGives w) (HasFewStates w) (Writes (IsSized w))) (λ end. end ≡ Err cause.Usage → ⊥) work
    (λ e s. not_cause e (open_not_usage v wheel e s)) (λ e s. not_cause e (read_not_usage v (ModelGives v.file wheel) e s))
    (λ w rest a n.
    judges_end (FamilyGives w) (HasFewStates w) (Writes (IsSized w)) (λ end. end ≡ Err cause.Usage → ⊥) rest (λ e s. not_cause e (judge_not_usage (FamilyGives w) e s))
    (λ few p. writes_end (IsSized w) (λ end. end ≡ Err cause.Usage → ⊥) rest (λ text end d. not_done_for_usage end d.1.1.1) (λ e s. not_cause e (write_not_usage e s)) p) n)
    r

command_not_usage : (v : View) (taps : List Meaning) (order : Order) (work : Work) → IsCommand v taps order work → work.end ≡ Err cause.Usage → ⊥
command_not_usage v taps (Replay m c f o) work r = replayed_not_usage v (tails_after taps) m c f o work r
command_not_usage v taps (Import source name) work r = import_not_usage v source name work r
command_not_usage v taps (Size wheel) work r = size_not_usage v wheel work r
command_not_usage v taps (Compile wheel image) work r = compile_not_usage v wheel image work r
command_not_usage v taps (Check wheel capture report cert o) work r = check_not_usage v wheel capture report cert o work r
command_not_usage v taps (Audit image) work r = audit_not_usage v image work r
command_not_usage v taps (Trace image capture o) work r = trace_not_usage v image capture o work r
command_not_usage v taps (Stim wheel form seed gaps file) work r = stim_not_usage v wheel form seed gaps file work r
command_not_usage v taps (SelfTest wheel seed gaps) work r = self_not_usage v wheel seed gaps work r

work_not_usage : (v : View) (taps : List Meaning) (order : Order) (work : Work) → IsWork v taps (Some order) work → work.end ≡ Err cause.Usage → ⊥
work_not_usage v taps order work r =
    hands_end (IsCommand v taps order) (λ end. end ≡ Err cause.Usage → ⊥) work (λ rest n. command_not_usage v taps order rest n) (not_cause cause.WriteFault (λ is. cc)) r

usage_end : (end : Result Done Cause) → status_of end ≡ status.Usage → end ≡ Err cause.Usage
usage_end (Ok done.Whole) is = absurd (cc)
usage_end (Ok done.No) is = absurd (cc)
usage_end (Err cause.Usage) is = refl
usage_end (Err (cause.Refused r)) is = absurd (cc)
usage_end (Err (cause.Limit l)) is = absurd (cc)
usage_end (Err cause.ReadFault) is = absurd (cc)
usage_end (Err cause.WriteFault) is = absurd (cc)
usage_end (Err cause.Memory) is = absurd (cc)

noted_usage : (failed : Type 0) (old new : Option (List ℕ)) (text : List ℕ) (end : Result Done Cause) (s : Status) → HasNoted failed old new text (status_of end) s → s ≡ status.Usage → end ≡ Err cause.Usage
noted_usage failed old new text end s (inl (same, a)) is = usage_end end (sym same ∙ is)
noted_usage failed old new text end s (inr (inl (same, a))) is = absurd (cc)
noted_usage failed old new text end s (inr (inr (same, a))) is = absurd (cc)

-- usage comes only where the words are no command
pub usage_alone : (v w : View) (taps : List Meaning) (order : Option Order) (out new notes after : Stream) (s : Status) → Ran (IsWork v taps order) (option_and_then writes_of order) v w out new notes after s → s ≡ status.Usage → order ≡ None
usage_alone v w taps None out new notes after s r is = refl
usage_alone v w taps (Some order) out new notes after s r is =
    absurd (work_not_usage v taps order r.served.work r.served.allowed (sym r.served.ends ∙ noted_usage (FailedNote notes.faults after.faults (IsTrue notes.steady)) notes.taken after.taken (notes_text r.end r.tails) r.end s r.noted is))

-- ---- writes that went through

-- where they did, the work did not end for a write fault
pub end_went_out : (failed : Type 0) (old new : Option (List ℕ)) (text : List ℕ) (end : Result Done Cause) (s : Status) → HasNoted failed old new text (status_of end) s → WentOut s → end ≡ Err cause.WriteFault → ⊥
end_went_out failed old new text end s (inl (same, a)) out is = out.0 (same ∙ ap status_of is)
end_went_out failed old new text end s (inr (inl (same, a))) out is = out.0 same
end_went_out failed old new text end s (inr (inr (same, a))) out is = out.1 same

-- ---- what serving and its end come to

-- the command was served, and notes got its line and its tails
pub ran_by : (allows : Work → Type 0) (writes : Option (List ℕ)) (v w : View) (out new notes after : Stream) (end : Result Done Cause) (tails text : List ℕ) (s : Status) → text ≡ tails → Served allows writes v w out new tails end
    → HasNoted (FailedNote notes.faults after.faults (IsTrue notes.steady)) notes.taken after.taken (notes_text end text) (status_of end) s → (¬ (s ≡ status.WriteFault) → after.faults ≡ notes.faults)
    → (IsTrue notes.steady → after.faults ≡ notes.faults) → notes.faults ≤ after.faults → Ran allows writes v w out new notes after s
ran_by allows writes v w out new notes after end tails text s same served noted settled calm later = record {
  end = end;
  tails = tails;
  served = served;
  noted = subst (λ l. HasNoted (FailedNote notes.faults after.faults (IsTrue notes.steady)) notes.taken after.taken (notes_text end l) (status_of end) s) same noted;
  settled = settled;
  calm = calm;
  later = later;
}
