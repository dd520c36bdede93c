-- The instants of a stimulus, one after the other.
use Rattle.std.proofs.Common.{◌≡◌, ℕ, suc, ◌<◌, ◌⊎◌, inl, inr, List, [], ◌∷◌, ◌++◌, ℤ, pos, ◌+ℤ◌, ◌≤ℤ◌, ◌<ℤ◌, refl, sym, ap, subst, arith, add-one}
use Rattle.std.proofs.lemmas.Int.{ints}
use Rattle.std.specs.Prelude.{Option, Some, None}
use Rattle.wheel_types.specs.declared.channel.Pol.{Pol}
use Rattle.wheel_types.specs.declared.channel.Channel.{Channel}
use Rattle.wheel_types.specs.declared.channel.Channel.TheVariants.{Crank, Cam1, Cam2}
use Rattle.wheel_types.specs.declared.instant.Instant.{Instant}
use Rattle.wheel_types.specs.declared.parts.WheelParts.{WheelParts}
use Rattle.wheel_types.specs.Wheels.{IsWheel}
use Rattle.wheel_types.specs.Edges.{edge_count, pol_of}
use Rattle.wheel_types.specs.Verdicts.{IsRising}
use Rattle.stimulus.specs.Gaps.{crank_edge, crank_angle, crank_time, HasTimes}
use Rattle.stimulus.specs.Cams.{cam_angle, IsInGap, time_in}
use Rattle.stimulus.specs.CamsOf.{Takes}
use Rattle.stimulus_files.specs.Changes.{edges_on}
use Rattle.stimulus.specs.Drawn.{IsStimulus}
use Rattle.stimulus.specs.MadeTo.{HasPassed, IsMadeTo}
use Rattle.stimulus.proofs.CrankMoves.{split}
use Rattle.stimulus.proofs.DrawnEdges.{across, none_at_first}
use Rattle.stimulus.proofs.Existing.{stimuli_exist}
use Rattle.stimulus.proofs.Given.{AllBefore, IsInstant, rising-last, before-push, crank_edges, cam_edges, drawn_edges, none_before}
use Rattle.stimulus.proofs.Instants.{clock}
use Rattle.stimulus.proofs.OneOnly.{edges_rise, same_edges, turned}
use Rattle.stimulus_files.proofs.SameInstants.{rises, same_instants}
use Rattle.stimulus.proofs.Times.{at_edge, before_end, crank_later, edge_in_gap, times_rise}

rises_to : (a b : ℕ) → a < b → pos a <ℤ pos b
rises_to a b h = omega (arith, ints, h)

through : (a b c : ℤ) → a <ℤ b → b <ℤ c → a <ℤ c
through a b c h k = omega (arith, ints)

-- the time of a crank edge
pub crank_clock : (w : WheelParts) (seed i : ℕ) → pos (crank_time w seed i) ≡ clock w seed i (crank_angle w seed i)
crank_clock w seed i = ap pos (sym (at_edge w seed i))

-- a cam that passes an edge in the gap, or none
passed_in : (w : WheelParts) (c : Channel) (seed m k n : ℕ) (x y : ℤ) (o : Option Pol) → IsInGap w seed m y → Takes w c seed k y o n
    → (edge_count w c ≡ 0 → k ≡ 0) → ((j : ℕ) → j < k → cam_angle w c seed j <ℤ crank_angle w seed (suc m)) → (0 < edge_count w c → y <ℤ cam_angle w c seed n)
    → HasPassed w c seed m n y
passed_in w c seed m k n x y None gap t absent before clear =
    subst (λ i. (0 < edge_count w c → y <ℤ cam_angle w c seed i) → HasPassed w c seed m i y) (sym t) (λ h. record { absent = absent; before = before; ahead = h }) clear
passed_in w c seed m k n x y (Some p) gap t absent before clear = record { absent = none t.0; before = more t.1 t.3; ahead = clear }
  where
    none : 0 < edge_count w c → edge_count w c ≡ 0 → n ≡ 0
    none h e = absurd (omega (arith, h, e))

    at_end : cam_angle w c seed k ≡ y → cam_angle w c seed k <ℤ crank_angle w seed (suc m)
    at_end e = subst (λ z. z <ℤ crank_angle w seed (suc m)) (sym e) (subst (λ i. y <ℤ crank_angle w seed i) (add-one m) gap.before)

    more : cam_angle w c seed k ≡ y → n ≡ suc k → (j : ℕ) → j < n → cam_angle w c seed j <ℤ crank_angle w seed (suc m)
    more e f j l = by (split j k (omega (arith, l, f)))
      where
        by : (j < k) ⊎ (j ≡ k) → cam_angle w c seed j <ℤ crank_angle w seed (suc m)
        by (inl h) = before j h
        by (inr q) = subst (λ i. cam_angle w c seed i <ℤ crank_angle w seed (suc m)) (sym q) (at_end e)

-- the first instant
pub first_made : (w : WheelParts) (seed n1 n2 : ℕ) (b c : Option Pol) (i : Instant) → IsWheel w
    → Takes w Cam1 seed 0 (crank_angle w seed 0) b n1 → Takes w Cam2 seed 0 (crank_angle w seed 0) c n2
    → (0 < edge_count w Cam1 → crank_angle w seed 0 <ℤ cam_angle w Cam1 seed n1) → (0 < edge_count w Cam2 → crank_angle w seed 0 <ℤ cam_angle w Cam2 seed n2)
    → IsInstant i (clock w seed 0 (crank_angle w seed 0)) (Some (pol_of w Crank (crank_edge w seed 0))) b c
    → IsMadeTo w seed 0 n1 n2 (crank_angle w seed 0) (i ∷ [])
first_made w seed n1 n2 b c i wheel one two clear1 clear2 k =
    let x = crank_angle w seed 0 in
    let gap = edge_in_gap w seed 0 wheel in
    record {
      gap = gap;
      cam1 = passed_in w Cam1 seed 0 0 n1 x x b gap one (λ _. refl) (none Cam1) clear1;
      cam2 = passed_in w Cam2 seed 0 0 n2 x x c gap two (λ _. refl) (none Cam2) clear2;
      rise = λ j d h. absurd (omega (arith, h));
      last = λ t h. (subst (λ u. u <ℤ t) (sym k.time) h, tt);
      edges = λ d e. crank_edges d w seed 0 0 0 n1 n2 b c [] i e wheel one two k (none_before w Cam1 seed) (none_before w Cam2 seed) (none_at_first d w seed e);
    }
  where
    none : (d : Channel) (j : ℕ) → j < 0 → cam_angle w d seed j <ℤ crank_angle w seed 1
    none d j h = absurd (omega (arith, h))

-- the next one, of cams alone
pub cams_made : (w : WheelParts) (seed m k1 k2 n1 n2 : ℕ) (x y : ℤ) (b c : Option Pol) (is : List Instant) (i : Instant) → IsWheel w → HasTimes w seed (suc m)
    → IsMadeTo w seed m k1 k2 x is → IsInGap w seed m y → x <ℤ y → Takes w Cam1 seed k1 y b n1 → Takes w Cam2 seed k2 y c n2
    → (0 < edge_count w Cam1 → y <ℤ cam_angle w Cam1 seed n1) → (0 < edge_count w Cam2 → y <ℤ cam_angle w Cam2 seed n2) → IsInstant i (clock w seed m y) None b c
    → IsMadeTo w seed m n1 n2 y (is ++ i ∷ [])
cams_made w seed m k1 k2 n1 n2 x y b c is i wheel timed g gap further one two clear1 clear2 k =
    let later : clock w seed m x <ℤ clock w seed m y = rises_to (time_in w seed m x) (time_in w seed m y) (times_rise w seed m m x y wheel (timed m (omega arith)) g.gap gap further) in
    record {
      gap = gap;
      cam1 = passed_in w Cam1 seed m k1 n1 x y b gap one g.cam1.absent g.cam1.before clear1;
      cam2 = passed_in w Cam2 seed m k2 n2 x y c gap two g.cam2.absent g.cam2.before clear2;
      rise = rising-last is i g.rise (subst (λ u. AllBefore u is) (sym k.time) (g.last (clock w seed m y) later));
      last = λ u h. before-push u is i (g.last u (through (clock w seed m x) (clock w seed m y) u later h)) (subst (λ v. v <ℤ u) (sym k.time) h);
      edges = λ d e. cam_edges d w seed m k1 k2 n1 n2 y b c is i e wheel gap one two k (g.edges d e);
    }

-- the next one, of the crank with the cams at its angle
pub crank_made : (w : WheelParts) (seed m k1 k2 n1 n2 : ℕ) (x : ℤ) (b c : Option Pol) (is : List Instant) (i : Instant) → IsWheel w → HasTimes w seed (suc m)
    → IsMadeTo w seed m k1 k2 x is → Takes w Cam1 seed k1 (crank_angle w seed (suc m)) b n1 → Takes w Cam2 seed k2 (crank_angle w seed (suc m)) c n2
    → (0 < edge_count w Cam1 → crank_angle w seed (suc m) <ℤ cam_angle w Cam1 seed n1) → (0 < edge_count w Cam2 → crank_angle w seed (suc m) <ℤ cam_angle w Cam2 seed n2)
    → IsInstant i (clock w seed (suc m) (crank_angle w seed (suc m))) (Some (pol_of w Crank (crank_edge w seed (suc m)))) b c
    → IsMadeTo w seed (suc m) n1 n2 (crank_angle w seed (suc m)) (is ++ i ∷ [])
crank_made w seed m k1 k2 n1 n2 x b c is i wheel timed g one two clear1 clear2 k =
    let y = crank_angle w seed (suc m) in
    let gap = edge_in_gap w seed (suc m) wheel in
    let end : time_in w seed m x < crank_time w seed (suc m) = before_end w seed m x wheel (timed m (omega arith)) g.gap in
    let later : clock w seed m x <ℤ clock w seed (suc m) y = subst (λ t. clock w seed m x <ℤ t) (crank_clock w seed (suc m)) (rises_to (time_in w seed m x) (crank_time w seed (suc m)) end) in
    record {
      gap = gap;
      cam1 = passed_in w Cam1 seed (suc m) k1 n1 x y b gap one g.cam1.absent (on Cam1 k1 g.cam1.before) clear1;
      cam2 = passed_in w Cam2 seed (suc m) k2 n2 x y c gap two g.cam2.absent (on Cam2 k2 g.cam2.before) clear2;
      rise = rising-last is i g.rise (subst (λ u. AllBefore u is) (sym k.time) (g.last (clock w seed (suc m) y) later));
      last = λ u h. before-push u is i (g.last u (through (clock w seed m x) (clock w seed (suc m) y) u later h)) (subst (λ v. v <ℤ u) (sym k.time) h);
      edges = λ d e. crank_edges d w seed (suc m) k1 k2 n1 n2 b c is i e wheel one two k g.cam1.before g.cam2.before (g.edges d e);
    }
  where
    weaker : (a b : ℤ) → (a +ℤ pos 1) ≤ℤ b → a <ℤ b
    weaker a b h = omega (arith, ints)

    on : (d : Channel) (n : ℕ) → ((j : ℕ) → j < n → cam_angle w d seed j <ℤ crank_angle w seed (suc m)) → (j : ℕ) → j < n → cam_angle w d seed j <ℤ crank_angle w seed (suc (suc m))
    on d n before j h =
        through _ (crank_angle w seed (suc m)) _ (before j h)
        (subst (λ t. crank_angle w seed (suc m) <ℤ crank_angle w seed t) (add-one (suc m)) (weaker _ _ (crank_later w seed (suc m) wheel)))

-- with the last crank edge it is the stimulus
pub last_made : (w : WheelParts) (seed m k1 k2 : ℕ) (x : ℤ) (is : List Instant) (i : Instant) → IsWheel w → HasTimes w seed (suc m) → IsMadeTo w seed m k1 k2 x is
    → (0 < edge_count w Cam1 → crank_angle w seed (suc m) ≤ℤ cam_angle w Cam1 seed k1) → (0 < edge_count w Cam2 → crank_angle w seed (suc m) ≤ℤ cam_angle w Cam2 seed k2)
    → IsInstant i (pos (crank_time w seed (suc m))) (Some (pol_of w Crank (crank_edge w seed (suc m)))) None None
    → IsStimulus w seed (suc m) (is ++ i ∷ [])
last_made w seed m k1 k2 x is i wheel timed g one two k =
    let js = is ++ i ∷ [] in
    let end : time_in w seed m x < crank_time w seed (suc m) = before_end w seed m x wheel (timed m (omega arith)) g.gap in
    let later : clock w seed m x <ℤ pos (crank_time w seed (suc m)) = rises_to (time_in w seed m x) (crank_time w seed (suc m)) end in
    let rise : IsRising js = rising-last is i g.rise (subst (λ u. AllBefore u is) (sym k.time) (g.last (pos (crank_time w seed (suc m))) later)) in
    let s = stimuli_exist w seed (suc m) wheel (omega arith) timed in
    let same : s.0 ≡ js =
    same_instants s.0 js (rises s.0 s.1.rise) (rises js rise)
    (λ c. same_edges (edges_on c s.0) (edges_on c js) (edges_rise c s.0 (rises s.0 s.1.rise)) (edges_rise c js (rises js rise))
    (λ e. across (s.1.edges c e) (turned (drawn_edges c w seed m k1 k2 is i e wheel one two k (g.edges c e))))) in
    subst (IsStimulus w seed (suc m)) same s.1
