-- Over a wheel that is accepted and a steady shelf the commands are done, or want memory, or a write fails.
use Rattle.std.proofs.Common.{◌≡◌, ℕ, ◌<◌, ◌⊎◌, inl, inr, List, Result, Ok, Err, sym, ◌∙◌, subst, arith}
use Rattle.std.specs.Prelude.{ℤ, ◌≤ℤ◌, ◌<ℤ◌, IsTrue}
use Rattle.std.proofs.lemmas.Int.{ints}
use Rattle.shelf_traits.specs.Shelf.{View}
use Rattle.wheel_types.specs.declared.channel.Channel.{Channel}
use Rattle.wheel_types.specs.declared.parts.WheelParts.{WheelParts}
use Rattle.wheel_types.specs.Edges.{edge_count}
use Rattle.stimulus.specs.Causes.{HasFewEdges, HasManyEdges}
use Rattle.stimulus.specs.Gaps.{crank_angle, HasTimes, IsStuck}
use Rattle.stimulus.specs.Cams.{cam_angle}
use Rattle.stimulus.specs.Drawn.{IsCamCount, IsEdgeCount}
use Rattle.run_ends.specs.declared.cause.Done.{Done}
use Rattle.run_ends.specs.declared.cause.Done.TheVariants as done
use Rattle.run_ends.specs.declared.cause.Cause.{Cause}
use Rattle.run_ends.specs.declared.cause.Cause.TheVariants as cause
use Rattle.run_ends.specs.declared.cause.Limit.TheVariants as limit
use Rattle.run_ends.specs.declared.cause.Refusal.TheVariants as refusal
use Rattle.run_ends.specs.Works.{Work, Judges, Writes, StopsWrite}
use Rattle.run_ends.specs.Stages.{Makes}
use Rattle.run_ends.proofs.Completing.{reads_ready, judges_ready, judges_end, makes_end, writes_end, reads_not_usage, writes_not_usage, judge_not_usage, write_not_usage}
use Rattle.run_files.specs.Causes.{ModelGives, WheelGives}
use Rattle.run_files.specs.Files.{HasWheel, HasPlacedWheel}
use Rattle.run_files.proofs.Ready.{model_gives_none, wheel_gives_none, file_has_one_wheel}
use Rattle.table_commands.specs.States.{HasFewStates, FamilyGives}
use Rattle.table_commands.proofs.OneFamily.{family_gives_none}
use Rattle.command_words.specs.declared.numbers.Form.{Form}
use Rattle.stimulus_commands.specs.Stimuli.{HasStimulus, StimGives}
use Rattle.stimulus_commands.specs.Stim.{IsStim, IsStimText}
use Rattle.stimulus_commands.specs.SelfTest.{IsSelfTest, IsSelfTested}

-- a gap that is stuck has no time
not_stuck : (w : WheelParts) (seed gaps gap low high : ℕ) → HasTimes w seed gaps → IsStuck w seed gaps gap low high → ⊥
not_stuck w seed gaps gap low high times s = omega (arith, times gap s.within, s.low_is, s.high_is, s.none)

some_or_none : (n : ℕ) → (0 < n) ⊎ (n ≡ 0)
some_or_none n = grind arith

below_or_above : (m n : ℕ) → (m < n) ⊎ ((m ≡ n) ⊎ (n < m))
below_or_above m n = grind arith

not_both : (x y : ℤ) → x <ℤ y → y ≤ℤ x → ⊥
not_both x y h k = omega (arith, ints, h, k)

-- a cam has one count of edges
one_cam : (w : WheelParts) (c : Channel) (seed gaps m n : ℕ) → IsCamCount w c seed gaps m → IsCamCount w c seed gaps n → m ≡ n
one_cam w c seed gaps m n h k = by (some_or_none (edge_count w c))
  where
    by_order : 0 < edge_count w c → (m < n) ⊎ ((m ≡ n) ⊎ (n < m)) → m ≡ n
    by_order some (inl l) = absurd (not_both (cam_angle w c seed m) (crank_angle w seed gaps) (k.before m l) (h.from some))
    by_order some (inr (inl e)) = e
    by_order some (inr (inr l)) = absurd (not_both (cam_angle w c seed n) (crank_angle w seed gaps) (h.before n l) (k.from some))

    by : (0 < edge_count w c) ⊎ (edge_count w c ≡ 0) → m ≡ n
    by (inl some) = by_order some (below_or_above m n)
    by (inr e) = h.absent e ∙ sym (k.absent e)

-- and a stimulus one count of all its edges
one_count : (w : WheelParts) (seed gaps m n : ℕ) → IsEdgeCount w seed gaps m → IsEdgeCount w seed gaps n → m ≡ n
one_count w seed gaps m n h k =
    let a = one_cam w _ seed gaps h.cam1 k.cam1 h.first k.first in
    let b = one_cam w _ seed gaps h.cam2 k.cam2 h.second k.second in
    omega (arith, a, b, h.all, k.all)

not_many : (w : WheelParts) (seed gaps : ℕ) → HasFewEdges w seed gaps → HasManyEdges w seed gaps → ⊥
not_many w seed gaps (m, (count, few)) (n, (other, many)) = let e = one_count w seed gaps m n count other in omega (arith, e, few, many)

-- a wheel that has a stimulus gives no cause
pub stim_gives_none : (w : WheelParts) (seed gaps : ℕ) → HasStimulus w seed gaps → (e : Cause) → StimGives w seed gaps e → ⊥
stim_gives_none w seed gaps h (cause.Refused (refusal.Stuck gap low high)) g = not_stuck w seed gaps gap low high h.0 g
stim_gives_none w seed gaps h (cause.Limit limit.Edges) g = not_many w seed gaps h.1 g.1
stim_gives_none w seed gaps h (cause.Refused (refusal.Wheel no_wheel)) g = g
stim_gives_none w seed gaps h (cause.Refused (refusal.Table fault)) g = g
stim_gives_none w seed gaps h (cause.Refused (refusal.Csv fault)) g = g
stim_gives_none w seed gaps h (cause.Refused (refusal.Vcd fault)) g = g
stim_gives_none w seed gaps h (cause.Refused (refusal.Image fault)) g = g
stim_gives_none w seed gaps h (cause.Refused (refusal.Audit not_sound)) g = g
stim_gives_none w seed gaps h (cause.Refused (refusal.Report at)) g = g
stim_gives_none w seed gaps h (cause.Refused (refusal.Certificate at)) g = g
stim_gives_none w seed gaps h (cause.Limit limit.Places) g = g
stim_gives_none w seed gaps h (cause.Limit limit.File) g = g
stim_gives_none w seed gaps h (cause.Limit (limit.States most)) g = g
stim_gives_none w seed gaps h cause.Usage g = g
stim_gives_none w seed gaps h cause.ReadFault g = g
stim_gives_none w seed gaps h cause.WriteFault g = g
stim_gives_none w seed gaps h cause.Memory g = g

-- where writing stops
stop : (P : Result Done Cause → Type 0) → P (Err cause.Memory) → P (Err cause.WriteFault) → (e : Cause) → StopsWrite e → P (Err e)
stop P memory fault cause.WriteFault s = fault
stop P memory fault cause.Memory s = memory
stop P memory fault cause.Usage s = absurd s
stop P memory fault cause.ReadFault s = absurd s
stop P memory fault (cause.Refused r) s = absurd s
stop P memory fault (cause.Limit l) s = absurd s

-- over a wheel that has a stimulus and a steady shelf a stim is done, or wants memory, or a write fails
pub stim_ends : (P : Result Done Cause → Type 0) (v : View) (wheel : List ℕ) (form : Form) (seed gaps : ℕ) (file : List ℕ) (w : WheelParts) (work : Work) → IsTrue v.tells → IsTrue v.steady
    → HasWheel v.file wheel w → HasStimulus w seed gaps → P (Ok done.Whole) → P (Err cause.Memory) → P (Err cause.WriteFault) → IsStim v wheel form seed gaps file work → P work.end
stim_ends P v wheel form seed gaps file w work told steady h has whole memory fault r =
    reads_ready v wheel (WheelGives v.file wheel) (HasWheel v.file wheel) (λ w. Judges (StimGives w seed gaps) (HasStimulus w seed gaps) (Makes file (IsStimText w form seed gaps))) P
    h.bytes w work told steady h.holds.there (wheel_gives_none v.file wheel w h) (λ u k. file_has_one_wheel v.file wheel u w k h) memory
    (λ rest n.
    judges_ready (StimGives w seed gaps) (HasStimulus w seed gaps) (Makes file (IsStimText w form seed gaps)) P rest (stim_gives_none w seed gaps has) memory
    (λ p. makes_end file (IsStimText w form seed gaps) P rest whole (stop P memory fault) p) n)
    r

-- where that wheel has few enough places and states, a self is done, or wants memory, or a write fails
pub self_ends : (P : Result Done Cause → Type 0) (v : View) (wheel : List ℕ) (seed gaps : ℕ) (w : WheelParts) (work : Work) → IsTrue v.tells → IsTrue v.steady
    → HasPlacedWheel v.file wheel w → HasFewStates w → HasStimulus w seed gaps → P (Ok done.Whole) → P (Err cause.Memory) → P (Err cause.WriteFault) → IsSelfTest v wheel seed gaps work → P work.end
self_ends P v wheel seed gaps w work told steady h few has whole memory fault r =
    reads_ready v wheel (ModelGives v.file wheel) (HasPlacedWheel v.file wheel)
    (λ w. Judges (FamilyGives w) (HasFewStates w) (Judges (StimGives w seed gaps) (HasStimulus w seed gaps) (Writes (IsSelfTested w seed gaps)))) P
    h.wheel.bytes w work told steady h.wheel.holds.there (model_gives_none v.file wheel w h) (λ u k. file_has_one_wheel v.file wheel u w k.wheel h.wheel) memory
    (λ rest n.
    judges_ready (FamilyGives w) (HasFewStates w) (Judges (StimGives w seed gaps) (HasStimulus w seed gaps) (Writes (IsSelfTested w seed gaps))) P rest (family_gives_none w few) memory
    (λ p.
    judges_ready (StimGives w seed gaps) (HasStimulus w seed gaps) (Writes (IsSelfTested w seed gaps)) P rest (stim_gives_none w seed gaps has) memory
    (λ q. writes_end (IsSelfTested w seed gaps) P rest (λ text end d. subst P (sym d.1.1.1) whole) (stop P memory fault) q) p) n)
    r

not_cause : (e : Cause) → (e ≡ cause.Usage → ⊥) → ◌≡◌ {A = Result Done Cause} (Err e) (Err cause.Usage) → ⊥
not_cause e n is = let same : e ≡ cause.Usage = cc in n same

not_whole : (end : Result Done Cause) → end ≡ Ok done.Whole → end ≡ Err cause.Usage → ⊥
not_whole end is usage = cc

abbrev NotUsage : Result Done Cause → Type 0
NotUsage end = end ≡ Err cause.Usage → ⊥

-- no stim ends for usage
pub stim_not_usage : (v : View) (wheel : List ℕ) (form : Form) (seed gaps : ℕ) (file : List ℕ) (work : Work) → IsStim v wheel form seed gaps file work → work.end ≡ Err cause.Usage → ⊥
stim_not_usage v wheel form seed gaps file work r =
    reads_not_usage v wheel (WheelGives v.file wheel) (HasWheel v.file wheel) (λ w. Judges (StimGives w seed gaps) (HasStimulus w seed gaps) (Makes file (IsStimText w form seed gaps))) work
    (λ w rest n.
    judges_end (StimGives w seed gaps) (HasStimulus w seed gaps) (Makes file (IsStimText w form seed gaps)) NotUsage rest (λ e s. not_cause e (judge_not_usage (StimGives w seed gaps) e s))
    (λ has p. makes_end file (IsStimText w form seed gaps) NotUsage rest (λ is. cc) (λ e s. not_cause e (write_not_usage e s)) p) n)
    r

-- no self ends for usage
pub self_not_usage : (v : View) (wheel : List ℕ) (seed gaps : ℕ) (work : Work) → IsSelfTest v wheel seed gaps work → work.end ≡ Err cause.Usage → ⊥
self_not_usage v wheel seed gaps work r =
    reads_not_usage v wheel (ModelGives v.file wheel) (HasPlacedWheel v.file wheel)
    (λ w. Judges (FamilyGives w) (HasFewStates w) (Judges (StimGives w seed gaps) (HasStimulus w seed gaps) (Writes (IsSelfTested w seed gaps)))) work
    (λ w rest n.
    judges_end (FamilyGives w) (HasFewStates w) (Judges (StimGives w seed gaps) (HasStimulus w seed gaps) (Writes (IsSelfTested w seed gaps))) NotUsage rest
    (λ e s. not_cause e (judge_not_usage (FamilyGives w) e s))
    (λ few p.
    judges_end (StimGives w seed gaps) (HasStimulus w seed gaps) (Writes (IsSelfTested w seed gaps)) NotUsage rest (λ e s. not_cause e (judge_not_usage (StimGives w seed gaps) e s))
    (λ has q. writes_not_usage (IsSelfTested w seed gaps) rest (λ text end d. not_whole end d.1.1.1) q) p) n)
    r
