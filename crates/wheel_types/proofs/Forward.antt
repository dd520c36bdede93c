-- A motion that gives one more instant ends at a legal step of where it was before.
use Rattle.std.proofs.Common.{◌≡◌, ◌<◌, List, [], ◌∷◌, ◌++◌, ℤ, pos, ◌+ℤ◌, ◌-ℤ◌, refl, sym, ◌∙◌, ap, subst, arith}
use Rattle.std.proofs.lemmas.Int.{ints}
use Rattle.std.specs.Prelude.{Contains, Option, Some, None}
use Rattle.std.specs.List.{AllByRecursion}
use Rattle.std.proofs.lemmas.List.Elements.{All-from_recursion, All-contains}
use Rattle.wheel_types.specs.declared.channel.Pol.{Pol}
use Rattle.wheel_types.specs.declared.channel.Channel.{Channel}
use Rattle.wheel_types.specs.declared.channel.Channel.TheVariants.{Crank, Cam1, Cam2}
use Rattle.wheel_types.specs.declared.instant.Instant.{Instant}
use Rattle.wheel_types.specs.declared.parts.WheelParts.{WheelParts}
use Rattle.wheel_types.specs.Edges.{edge_count, pol_of}
use Rattle.wheel_types.specs.Motions.{Indices, index_of, passed, Move, Motion, IsPermitted, CanMove, Event, Pass, pass_if, crank_passes, AllKeepSpeed, AllKeepRatio, orders, events_at, events_of, events_passed, Groups, indices_after, angle_after}
use Rattle.wheel_types.specs.Steps.{Walks, Steps, time_if, crank_times, KeepsGaps, KeepsGapsIf}

-- limits that hold of more passes hold of those before
speed_before : (w : WheelParts) (p : Pass) (ps : List Pass) → AllKeepSpeed w (p ∷ ps) → AllKeepSpeed w ps
speed_before w p [] h = tt
speed_before w p (q ∷ ps) h = h.1

ratio_before : (w : WheelParts) (p : Pass) (ps : List Pass) → AllKeepRatio w (p ∷ ps) → AllKeepRatio w ps
ratio_before w p [] h = tt
ratio_before w p (q ∷ []) h = tt
ratio_before w p (q ∷ r ∷ ps) h = h.1

speed_before_if : (w : WheelParts) (c : Channel) (p : Pass) (ps : List Pass) → AllKeepSpeed w (pass_if c p ps) → AllKeepSpeed w ps
speed_before_if w Crank p ps h = speed_before w p ps h
speed_before_if w Cam1 p ps h = h
speed_before_if w Cam2 p ps h = h

ratio_before_if : (w : WheelParts) (c : Channel) (p : Pass) (ps : List Pass) → AllKeepRatio w (pass_if c p ps) → AllKeepRatio w ps
ratio_before_if w Crank p ps h = ratio_before w p ps h
ratio_before_if w Cam1 p ps h = h
ratio_before_if w Cam2 p ps h = h

-- a motion with these moves from a given start
abbrev pub motion_of : ℤ → Indices → List Move → Motion
motion_of x ix vs = record { angle = x; start = ix; moves = vs }

-- a permitted motion without its last move is one
pub permitted_before : (w : WheelParts) (x : ℤ) (ix : Indices) (v : Move) (vs : List Move) → IsPermitted w (motion_of x ix (v ∷ vs)) → IsPermitted w (motion_of x ix vs)
permitted_before w x ix v vs h = record {
  motion = record { standing = h.motion.standing; moves = h.motion.moves.1; times = h.motion.times.2 };
  speed = speed_before_if w v.channel _ _ h.speed;
  ratio = ratio_before_if w v.channel _ _ h.ratio;
}

-- the indices after these events
abbrev pub indices_by : Indices → List Event → Indices
indices_by ix [] = ix
indices_by ix (g ∷ gs) = passed g.channel (indices_by ix gs)

-- the passes with those of these events
abbrev pub passes_by : Indices → List Event → List Pass → List Pass
passes_by ix [] ps = ps
passes_by ix (g ∷ gs) ps = pass_if g.channel (record { time = g.time; edge = (indices_by ix gs).crank }) (passes_by ix gs ps)

-- the moves of a group lead by a walk from where the motion was before them
pub record Before (w : WheelParts) (x : ℤ) (ix : Indices) (vs : List Move) (group rest : List Event) : Type 0 where
  pub moves : List Move
  pub permitted : IsPermitted w (motion_of x ix moves)
  pub gave : events_passed w ix moves ≡ rest
  pub walks : Walks w (indices_after ix moves) group (indices_after ix vs)
  pub indices : indices_after ix vs ≡ indices_by (indices_after ix moves) group
  pub passes : crank_passes ix vs ≡ passes_by (indices_after ix moves) group (crank_passes ix moves)

pub same_pass : (c d : Channel) (t u : ℤ) (m n : ℤ) (ps qs : List Pass) → c ≡ d → t ≡ u → m ≡ n → ps ≡ qs → pass_if c (record { time = t; edge = m }) ps ≡ pass_if d (record { time = u; edge = n }) qs
same_pass c d t u m n ps qs e f g h = rw (e, f, g, h)

more_before : (w : WheelParts) (x : ℤ) (ix : Indices) (g : Event) (group rest : List Event) (v : Move) (vs : List Move) → CanMove w (angle_after x vs) (indices_after ix vs) v → v.channel ≡ g.channel → v.time ≡ g.time → pol_of w v.channel (index_of (indices_after ix vs) v.channel) ≡ g.polarity → Before w x ix vs group rest → Before w x ix (v ∷ vs) (g ∷ group) rest
more_before w x ix g group rest v vs m same when pol b =
    record {
      moves = b.moves;
      permitted = b.permitted;
      gave = b.gave;
      walks = (indices_after ix vs, b.walks, subst (λ c. 0 < edge_count w c) same m.present, subst (λ c. pol_of w c (index_of (indices_after ix vs) c) ≡ g.polarity) same pol, (v.angle, m.after), ap (λ c. passed c (indices_after ix vs)) same);
      indices = ap (λ c. passed c (indices_after ix vs)) same ∙ ap (passed g.channel) b.indices;
      passes = same_pass v.channel g.channel v.time g.time (indices_after ix vs).crank (indices_by (indices_after ix b.moves) group).crank (crank_passes ix vs) (passes_by (indices_after ix b.moves) group (crank_passes ix b.moves)) same when (ap (λ (k : Indices). k.crank) b.indices) b.passes;
    }

pub before_group : (w : WheelParts) (x : ℤ) (ix : Indices) (group rest : List Event) (vs : List Move) → IsPermitted w (motion_of x ix vs) → events_passed w ix vs ≡ group ++ rest → Before w x ix vs group rest
before_group w x ix [] rest vs h e = record { moves = vs; permitted = h; gave = e; walks = refl; indices = refl; passes = refl }
before_group w x ix (g ∷ group) rest [] h e = absurd (cc)
before_group w x ix (g ∷ group) rest (v ∷ vs) h e =
    let tail : events_passed w ix vs ≡ group ++ rest = cc in
    let same : v.channel ≡ g.channel = cc in
    let when : v.time ≡ g.time = cc in
    let pol : pol_of w v.channel (index_of (indices_after ix vs) v.channel) ≡ g.polarity = cc in
    more_before w x ix g group rest v vs h.motion.moves.0 same when pol (before_group w x ix group rest vs (permitted_before w x ix v vs h) tail)

-- what holds of each order of an instant's edges

abbrev pub pass_at : Option Pol → Pass → List Pass → List Pass
pass_at None p ps = ps
pass_at (Some pol) p ps = p ∷ ps

-- an instant passes a crank edge where it has one, whatever the order
pub passes_by-orders : (t : ℤ) (a b c : Option Pol) (ix : Indices) (ps : List Pass) → AllByRecursion (λ order. passes_by ix order ps ≡ pass_at a (record { time = t; edge = ix.crank }) ps) (orders (events_at t a b c))
passes_by-orders t None None None ix ps = (refl, tt)
passes_by-orders t None None (Some c) ix ps = (refl, tt)
passes_by-orders t None (Some b) None ix ps = (refl, tt)
passes_by-orders t None (Some b) (Some c) ix ps = (refl, (refl, tt))
passes_by-orders t (Some a) None None ix ps = (refl, tt)
passes_by-orders t (Some a) None (Some c) ix ps = (refl, (refl, tt))
passes_by-orders t (Some a) (Some b) None ix ps = (refl, (refl, tt))
passes_by-orders t (Some a) (Some b) (Some c) ix ps = (refl, (refl, (refl, (refl, (refl, (refl, tt))))))

pub passes_by-order : (i : Instant) (ix : Indices) (ps : List Pass) (order : List Event) → Contains (orders (events_of i)) order → passes_by ix order ps ≡ pass_at i.crank (record { time = i.time; edge = ix.crank }) ps
passes_by-order i ix ps order h =
    let P : List Event → Type 0 = λ order. passes_by ix order ps ≡ pass_at i.crank (record { time = i.time; edge = ix.crank }) ps in
    All-contains P (orders (events_of i)) order (All-from_recursion P (orders (events_of i)) (passes_by-orders i.time i.crank i.cam1 i.cam2 ix ps)) h

-- the passes of successive crank edges at these times, before edge m
abbrev pub numbered : ℤ → List ℤ → List Pass
numbered m [] = []
numbered m (t ∷ ts) = record { time = t; edge = m -ℤ pos 1 } ∷ numbered (m -ℤ pos 1) ts

pub back_and_on : (m : ℤ) → (m +ℤ pos 1) -ℤ pos 1 ≡ m
back_and_on m = omega (arith, ints)

-- a walk over an instant's edges passes one crank edge at most
abbrev pub crank_after : Option Pol → ℤ → ℤ
crank_after None m = m
crank_after (Some pol) m = m +ℤ pos 1

crank_by-orders : (t : ℤ) (a b c : Option Pol) (ix : Indices) → AllByRecursion (λ order. (indices_by ix order).crank ≡ crank_after a ix.crank) (orders (events_at t a b c))
crank_by-orders t None None None ix = (refl, tt)
crank_by-orders t None None (Some c) ix = (refl, tt)
crank_by-orders t None (Some b) None ix = (refl, tt)
crank_by-orders t None (Some b) (Some c) ix = (refl, (refl, tt))
crank_by-orders t (Some a) None None ix = (refl, tt)
crank_by-orders t (Some a) None (Some c) ix = (refl, (refl, tt))
crank_by-orders t (Some a) (Some b) None ix = (refl, (refl, tt))
crank_by-orders t (Some a) (Some b) (Some c) ix = (refl, (refl, (refl, (refl, (refl, (refl, tt))))))

pub crank_by-order : (i : Instant) (ix : Indices) (order : List Event) → Contains (orders (events_of i)) order → (indices_by ix order).crank ≡ crank_after i.crank ix.crank
crank_by-order i ix order h =
    let P : List Event → Type 0 = λ order. (indices_by ix order).crank ≡ crank_after i.crank ix.crank in
    All-contains P (orders (events_of i)) order (All-from_recursion P (orders (events_of i)) (crank_by-orders i.time i.crank i.cam1 i.cam2 ix)) h

-- one more crank edge, or none
numbered-more : (a : Option Pol) (t m n : ℤ) (ts : List ℤ) (ps qs : List Pass) → ps ≡ pass_at a (record { time = t; edge = m }) qs → qs ≡ numbered m ts → n ≡ crank_after a m → ps ≡ numbered n (time_if a t ts)
numbered-more None t m n ts ps qs e f g = rw (e, f, g)
numbered-more (Some pol) t m n ts ps qs e f g = rw (e, f, g, back_and_on m)

-- the passes of a motion that gives the instants are those of their crank times
pub passes-numbered : (w : WheelParts) (x : ℤ) (ix : Indices) (past : List Instant) (vs : List Move) → IsPermitted w (motion_of x ix vs) → Groups (events_passed w ix vs) past → crank_passes ix vs ≡ numbered (indices_after ix vs).crank (crank_times past)
passes-numbered w x ix [] [] h g = refl
passes-numbered w x ix [] (v ∷ vs) h g = absurd (cc)
passes-numbered w x ix (i ∷ past) vs h g =
    let b = before_group w x ix g.0 g.1 vs h g.2 in
    let before = passes-numbered w x ix past b.moves b.permitted (subst (λ es. Groups es past) (sym b.gave) g.4) in
    numbered-more i.crank i.time (indices_after ix b.moves).crank (indices_after ix vs).crank (crank_times past) (crank_passes ix vs) (crank_passes ix b.moves)
    (b.passes ∙ passes_by-order i (indices_after ix b.moves) (crank_passes ix b.moves) g.0 g.3)
    before
    (ap (λ (k : Indices). k.crank) b.indices ∙ crank_by-order i (indices_after ix b.moves) g.0 g.3)

-- the newest gap of permitted passes keeps the limits
gaps_kept : (w : WheelParts) (m t : ℤ) (ts : List ℤ) → AllKeepSpeed w (record { time = t; edge = m } ∷ numbered m ts) → AllKeepRatio w (record { time = t; edge = m } ∷ numbered m ts) → KeepsGaps w m t ts
gaps_kept w m t [] s r = tt
gaps_kept w m t (u ∷ []) s r = s.0
gaps_kept w m t (u ∷ v ∷ ts) s r = (s.0, r.0)

gaps_kept_if : (w : WheelParts) (a : Option Pol) (m t : ℤ) (ts : List ℤ) (ps qs : List Pass) → ps ≡ pass_at a (record { time = t; edge = m }) qs → qs ≡ numbered m ts → AllKeepSpeed w ps → AllKeepRatio w ps → KeepsGapsIf a w m t ts
gaps_kept_if w None m t ts ps qs e f s r = tt
gaps_kept_if w (Some pol) m t ts ps qs e f s r =
    let all : ps ≡ record { time = t; edge = m } ∷ numbered m ts = e ∙ ap (λ (k : List Pass). record { time = t; edge = m } ∷ k) f in
    gaps_kept w m t ts (subst (AllKeepSpeed w) all s) (subst (AllKeepRatio w) all r)

-- where a motion was before its last instant, and the step that it made
pub record Stepped (w : WheelParts) (x : ℤ) (ix : Indices) (i : Instant) (past : List Instant) (vs : List Move) : Type 0 where
  pub moves : List Move
  pub permitted : IsPermitted w (motion_of x ix moves)
  pub gave : Groups (events_passed w ix moves) past
  pub step : Steps w past (indices_after ix moves) i (indices_after ix vs)

pub stepped : (w : WheelParts) (x : ℤ) (ix : Indices) (i : Instant) (past : List Instant) (vs : List Move) → IsPermitted w (motion_of x ix vs) → Groups (events_passed w ix vs) (i ∷ past) → Stepped w x ix i past vs
stepped w x ix i past vs h g =
    let b = before_group w x ix g.0 g.1 vs h g.2 in
    let gave : Groups (events_passed w ix b.moves) past = subst (λ es. Groups es past) (sym b.gave) g.4 in
    record {
      moves = b.moves;
      permitted = b.permitted;
      gave = gave;
      step = record {
        order = g.0;
        is_order = g.3;
        walks = b.walks;
        gaps = gaps_kept_if w i.crank (indices_after ix b.moves).crank i.time (crank_times past) (crank_passes ix vs) (crank_passes ix b.moves)
            (b.passes ∙ passes_by-order i (indices_after ix b.moves) (crank_passes ix b.moves) g.0 g.3)
            (passes-numbered w x ix past b.moves b.permitted gave)
            h.speed h.ratio;
      };
    }
