-- The instant at a stamp has exactly the kept changes there.
use Rattle.std.proofs.Common.{◌≡◌, ◌∙◌, refl, sym, subst, Bool, true, false, List, Option, Some, None, ℤ}
use Rattle.std.specs.Prelude.{◌↔◌, ◌||◌, IsTrue, is_some, not}
use Rattle.wheel_types.specs.declared.channel.Channel.{Channel}
use Rattle.wheel_types.specs.declared.channel.Channel.TheVariants.{Crank, Cam1, Cam2}
use Rattle.wheel_types.specs.declared.channel.Keep.{Keep}
use Rattle.wheel_types.specs.declared.channel.Keep.TheVariants.{Rising, Falling, Both}
use Rattle.wheel_types.specs.declared.channel.Pol.{Pol}
use Rattle.wheel_types.specs.declared.channel.Pol.TheVariants.{Rise, Fall}
use Rattle.wheel_types.specs.declared.instant.Instant.{Instant}
use Rattle.capture_core.specs.declared.capture.Stamp.{Stamp}
use Rattle.capture_core.specs.declared.capture.Watch.{Watch}
use Rattle.capture_core.specs.Changes.{HasNoChange, IsInstantAt, IsKept, IsKeptEdge, edge_on, keep_on, level_after, level_on}
use Rattle.capture_core.specs.Stamps.{edge_of, instant_at, instant_if, kept_edge, known_after}
use Rattle.capture_core.proofs.Instants.{instant_if-some}

-- a change of a kept polarity is an edge
edge-kept : (keep : Keep) (pol : Pol) → IsKept keep pol → kept_edge keep (not (level_after pol)) (level_after pol) ≡ Some pol
edge-kept Rising Rise h = refl
edge-kept Rising Fall h = absurd h
edge-kept Falling Rise h = absurd h
edge-kept Falling Fall h = refl
edge-kept Both Rise h = refl
edge-kept Both Fall h = refl

-- and each edge is such a change
kept-edge : (keep : Keep) (known given : Bool) (pol : Pol) → kept_edge keep known given ≡ Some pol → IsKeptEdge (Some keep) (Some known) (Some given) pol
kept-edge Rising false true Rise h = record { keep = Rising; is_watched = refl; kept = tt; before = refl; now = refl }
kept-edge Rising false true Fall h = cc h
kept-edge Rising true false pol h = cc h
kept-edge Rising true true pol h = cc h
kept-edge Rising false false pol h = cc h
kept-edge Falling true false Fall h = record { keep = Falling; is_watched = refl; kept = tt; before = refl; now = refl }
kept-edge Falling true false Rise h = cc h
kept-edge Falling false true pol h = cc h
kept-edge Falling true true pol h = cc h
kept-edge Falling false false pol h = cc h
kept-edge Both false true Rise h = record { keep = Both; is_watched = refl; kept = tt; before = refl; now = refl }
kept-edge Both false true Fall h = cc h
kept-edge Both true false Fall h = record { keep = Both; is_watched = refl; kept = tt; before = refl; now = refl }
kept-edge Both true false Rise h = cc h
kept-edge Both true true pol h = cc h
kept-edge Both false false pol h = cc h

-- the edge of a channel is its kept change
edge-is : (keep : Option Keep) (known given : Option Bool) (pol : Pol) → edge_of keep known given ≡ Some pol → IsKeptEdge keep known given pol
edge-is (Some keep) (Some known) (Some given) pol h = kept-edge keep known given pol h
edge-is None known given pol h = cc h
edge-is (Some keep) None given pol h = cc h
edge-is (Some keep) (Some known) None pol h = cc h

-- and its kept change is its edge
is-edge : (keep : Option Keep) (known given : Option Bool) (pol : Pol) → IsKeptEdge keep known given pol → edge_of keep known given ≡ Some pol
is-edge keep known given pol k = rw (k.is_watched, k.before, k.now) (edge-kept k.keep pol k.kept)

-- the edge of a channel at a stamp
abbrev pub edge_at : Watch → List Stamp → Stamp → Channel → Option Pol
edge_at watch past s channel = edge_of (keep_on channel watch) (level_on channel (known_after past)) (level_on channel s.given)

-- the time and the edges of an instant, if there is one
abbrev Shows : ℤ → Option Pol → Option Pol → Option Pol → Option Instant → Type 0
Shows t a b c None = (a ≡ None) × (b ≡ None) × (c ≡ None)
Shows t a b c (Some i) = (i.time ≡ t) × (i.crank ≡ a) × (i.cam1 ≡ b) × (i.cam2 ≡ c)

-- an instant shows the edges that it is made of
shown : (t : ℤ) (a b c : Option Pol) → Shows t a b c (instant_if t a b c)
shown t (Some a) b c = (refl, refl, refl, refl)
shown t None (Some b) c = (refl, refl, refl, refl)
shown t None None (Some c) = (refl, refl, refl, refl)
shown t None None None = (refl, refl, refl)

-- what the edges at a stamp are
abbrev ShowsAt : Watch → List Stamp → Stamp → Option Instant → Type 0
ShowsAt watch past s o = Shows s.time (edge_at watch past s Crank) (edge_at watch past s Cam1) (edge_at watch past s Cam2) o

-- so does the one at a stamp
shown-at : (watch : Watch) (past : List Stamp) (s : Stamp) (o : Option Instant) → o ≡ instant_at watch (known_after past) s → ShowsAt watch past s o
shown-at watch past s o e = subst (ShowsAt watch past s) (sym e) (shown s.time (edge_at watch past s Crank) (edge_at watch past s Cam1) (edge_at watch past s Cam2))

-- channel by channel
same-edges : (watch : Watch) (past : List Stamp) (s : Stamp) (i : Instant) → ShowsAt watch past s (Some i) → (channel : Channel) → edge_on channel i ≡ edge_at watch past s channel
same-edges watch past s i h Crank = h.1
same-edges watch past s i h Cam1 = h.2
same-edges watch past s i h Cam2 = h.3

-- where there is no instant no channel has an edge
no-edges : (watch : Watch) (past : List Stamp) (s : Stamp) → ShowsAt watch past s None → (channel : Channel) → edge_at watch past s channel ≡ None
no-edges watch past s h Crank = h.0
no-edges watch past s h Cam1 = h.1
no-edges watch past s h Cam2 = h.2

-- the instant of a stamp is that of the kept changes
pub instant-is : (watch : Watch) (past : List Stamp) (s : Stamp) (i : Instant) → instant_at watch (known_after past) s ≡ Some i → IsInstantAt watch past s i
instant-is watch past s i e =
    let h = shown-at watch past s (Some i) (sym e) in
    record {
      time = h.0;
      edges = λ channel pol. (
        (λ is. edge-is (keep_on channel watch) (level_on channel (known_after past)) (level_on channel s.given) pol (sym (same-edges watch past s i h channel) ∙ is)),
        (λ kept. same-edges watch past s i h channel ∙ is-edge (keep_on channel watch) (level_on channel (known_after past)) (level_on channel s.given) pol kept),
      );
    }

-- edges are the same that are of the same polarities
same-option : (a b : Option Pol) → ((pol : Pol) → (a ≡ Some pol) ↔ (b ≡ Some pol)) → a ≡ b
same-option None None h = refl
same-option None (Some p) h = (h p).1 refl
same-option (Some p) b h = sym ((h p).0 refl)

-- the edges of an instant of exactly the kept changes
edge-same : (watch : Watch) (past : List Stamp) (s : Stamp) (i : Instant) → IsInstantAt watch past s i → (channel : Channel) → edge_on channel i ≡ edge_at watch past s channel
edge-same watch past s i h channel = same-option (edge_on channel i) (edge_at watch past s channel) (λ pol. (
  (λ is. is-edge (keep_on channel watch) (level_on channel (known_after past)) (level_on channel s.given) pol ((h.edges channel pol).0 is)),
  (λ is. (h.edges channel pol).1 (edge-is (keep_on channel watch) (level_on channel (known_after past)) (level_on channel s.given) pol is)),
))

-- the kept changes of a stamp make its instant
pub is-instant : (watch : Watch) (past : List Stamp) (s : Stamp) (i : Instant) → IsInstantAt watch past s i → instant_at watch (known_after past) s ≡ Some i
is-instant watch past s i h =
    let same = edge-same watch past s i h in
    let crank : i.crank ≡ edge_at watch past s Crank = same Crank in
    let cam1 : i.cam1 ≡ edge_at watch past s Cam1 = same Cam1 in
    let cam2 : i.cam2 ≡ edge_at watch past s Cam2 = same Cam2 in
    rw (← h.time, ← crank, ← cam1, ← cam2) (sym (instant_if-some i.time i.crank i.cam1 i.cam2 i.some_edge))

-- some channel has an edge in an instant
record Edge (i : Instant) : Type 0 where
  channel : Channel
  pol : Pol
  is : edge_on channel i ≡ Some pol

-- each instant has an edge
some-edge : (i : Instant) (a b c : Option Pol) → i.crank ≡ a → i.cam1 ≡ b → i.cam2 ≡ c → IsTrue (is_some a || (is_some b || is_some c)) → Edge i
some-edge i (Some p) b c crank cam1 cam2 h = record { channel = Crank; pol = p; is = crank }
some-edge i None (Some p) c crank cam1 cam2 h = record { channel = Cam1; pol = p; is = cam1 }
some-edge i None None (Some p) crank cam1 cam2 h = record { channel = Cam2; pol = p; is = cam2 }
some-edge i None None None crank cam1 cam2 h = cc h

-- without a kept change there is no instant
no-instant : (watch : Watch) (past : List Stamp) (s : Stamp) (o : Option Instant) → o ≡ instant_at watch (known_after past) s → HasNoChange watch past s → o ≡ None
no-instant watch past s None e none = refl
no-instant watch past s (Some i) e none =
    let edge = some-edge i i.crank i.cam1 i.cam2 refl refl refl i.some_edge in
    absurd (none edge.channel edge.pol (((instant-is watch past s i (sym e)).edges edge.channel edge.pol).0 edge.is))

-- and without an instant no kept change
no-change : (watch : Watch) (past : List Stamp) (s : Stamp) (o : Option Instant) → o ≡ instant_at watch (known_after past) s → o ≡ None → HasNoChange watch past s
no-change watch past s o is none channel pol kept =
    let edge = is-edge (keep_on channel watch) (level_on channel (known_after past)) (level_on channel s.given) pol kept in
    let no = no-edges watch past s (shown-at watch past s None (sym none ∙ is)) channel in
    cc (edge, no)

-- there is no instant exactly where no change is kept
pub none-kept : (watch : Watch) (past : List Stamp) (s : Stamp) (o : Option Instant) → o ≡ instant_at watch (known_after past) s → (o ≡ None) ↔ HasNoChange watch past s
none-kept watch past s o is = (no-change watch past s o is, no-instant watch past s o is)
