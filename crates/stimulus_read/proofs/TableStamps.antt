-- The rows of a table give, with all levels, the stamps that it was made of: their instants are the same.
use Rattle.std.proofs.Common.{◌≡◌, ℕ, ◌≤◌, ◌^◌, ◌⊎◌, inl, inr, Bool, true, false, List, [], ◌∷◌, refl, sym, ◌∙◌, ap, subst, arith, ℤ, pos}
use Rattle.std.proofs.Common.{◌<ℤ◌}
use Rattle.std.proofs.lemmas.Int.{ints}
use Rattle.std.specs.Prelude.{Option, Some, None, Contains}
use Rattle.wheel_types.specs.declared.channel.Pol.{Pol}
use Rattle.wheel_types.specs.declared.channel.Keep.{Keep}
use Rattle.wheel_types.specs.declared.channel.Keep.TheVariants.{Rising, Falling, Both}
use Rattle.wheel_types.specs.declared.channel.Channel.{Channel}
use Rattle.wheel_types.specs.declared.channel.Channel.TheVariants.{Crank, Cam1, Cam2}
use Rattle.wheel_types.specs.declared.instant.Instant.{Instant}
use Rattle.capture_core.specs.declared.capture.Given.{Given}
use Rattle.capture_core.specs.declared.capture.Stamp.{Stamp}
use Rattle.capture_core.specs.declared.capture.Watch.{Watch}
use Rattle.capture_core.specs.Changes.{keep_on, level_on}
use Rattle.capture_core.specs.Stamps.{IsRising, edge_of, instant_at, instant_if, instants_of, kept_edge, known_after}
use Rattle.capture_core.specs.Stamps.{or_else, over, with_last}
use Rattle.stimulus_files.specs.Changes.{edges_on, first_level, AreStamps}
use Rattle.stimulus_files.specs.Written.{AreSmall}
use Rattle.stimulus_files.proofs.AlongStamps.{contains_cases, none_in}
use Rattle.stimulus_read.proofs.FileStamps.{are_file_stamps}
use Rattle.stimulus_read.proofs.VcdRead.{AreFileStamps, FitsOne}

-- ---- stamps with all levels that are known by then

-- a row's stamp
abbrev pub row_of : Stamp → List Stamp → Stamp
row_of s past = record { time = s.time; given = known_after (s ∷ past) }

abbrev pub rows_of : List Stamp → List Stamp
rows_of [] = []
rows_of (s ∷ past) = row_of s past ∷ rows_of past

once_more : (o p : Option Bool) → or_else (or_else o p) p ≡ or_else o p
once_more (Some l) p = refl
once_more None (Some m) = refl
once_more None None = refl

abbrev given_with : Option Bool → Option Bool → Option Bool → Given
given_with a b d = record { crank = a; cam1 = b; cam2 = d }

same_given : (a b d e f g : Option Bool) → a ≡ e → b ≡ f → d ≡ g → given_with a b d ≡ given_with e f g
same_given a b d e f g h k l = ap (λ x. given_with x b d) h ∙ ap (λ x. given_with e x d) k ∙ ap (given_with e f) l

over_once : (g k : Given) → over (over g k) k ≡ over g k
over_once g k = same_given _ _ _ _ _ _ (once_more g.crank k.crank) (once_more g.cam1 k.cam1) (once_more g.cam2 k.cam2)

pub known_rows : (stamps : List Stamp) → known_after (rows_of stamps) ≡ known_after stamps
known_rows [] = refl
known_rows (s ∷ past) = ap (over (known_after (s ∷ past))) (known_rows past) ∙ over_once s.given (known_after past)

-- a level that stays makes no edge
stays : (keep : Keep) (b : Bool) → kept_edge keep b b ≡ None
stays Rising true = refl
stays Rising false = refl
stays Falling true = refl
stays Falling false = refl
stays Both true = refl
stays Both false = refl

same_edge : (k : Option Keep) (before now : Option Bool) → edge_of k before (or_else now before) ≡ edge_of k before now
same_edge k before (Some l) = refl
same_edge None before None = refl
same_edge (Some keep) None None = refl
same_edge (Some keep) (Some b) None = stays keep b

same_instant : (t : ℤ) (a b d e f g : Option Pol) → a ≡ e → b ≡ f → d ≡ g → instant_if t a b d ≡ instant_if t e f g
same_instant t a b d e f g h k l = ap (λ x. instant_if t x b d) h ∙ ap (λ x. instant_if t e x d) k ∙ ap (instant_if t e f) l

instant_row : (watch : Watch) (s : Stamp) (past : List Stamp)
    → instant_at watch (known_after past) (row_of s past) ≡ instant_at watch (known_after past) s
instant_row watch s past =
    let k = known_after past in
    same_instant s.time _ _ _ _ _ _ (same_edge (Some watch.crank) k.crank s.given.crank) (same_edge watch.cam1 k.cam1 s.given.cam1)
    (same_edge watch.cam2 k.cam2 s.given.cam2)

pub instants_rows : (watch : Watch) (stamps : List Stamp) → instants_of watch (rows_of stamps) ≡ instants_of watch stamps
instants_rows watch [] = refl
instants_rows watch (s ∷ past) =
    ap (λ is. with_last is (instant_at watch (known_after (rows_of past)) (row_of s past))) (instants_rows watch past)
    ∙ ap (λ k. with_last (instants_of watch past) (instant_at watch k (row_of s past))) (known_rows past)
    ∙ ap (with_last (instants_of watch past)) (instant_row watch s past)

-- ---- the levels of all watched channels are known from time 0 on

-- a level is known where the channel is watched
abbrev pub IsKnown : Option Keep → Option Bool → Type 0
IsKnown None o = o ≡ None
IsKnown (Some keep) o = (l : Bool) × (o ≡ Some l)

pub record AreKnown (watch : Watch) (g : Given) : Type 0 where
  pub crank : IsKnown (Some watch.crank) g.crank
  pub cam1 : IsKnown watch.cam1 g.cam1
  pub cam2 : IsKnown watch.cam2 g.cam2

-- the time of a stamp is small
abbrev pub IsSmall : Stamp → Type 0
IsSmall s = (n : ℕ) × (s.time ≡ pos n) × (n ≤ 10 ^ 24)

-- stamps rise, are small, and know the levels of the watched channels
abbrev pub AreTable : Watch → List Stamp → Type 0
AreTable watch [] = Unit {0}
AreTable watch (s ∷ past) = IsSmall s × IsRising (s ∷ past) × AreKnown watch (known_after (s ∷ past)) × AreTable watch past

-- some stamp of time 0 gives each watched channel a level
abbrev Starts : Watch → List Stamp → Type 0
Starts watch stamps = (c : Channel) (keep : Keep) → keep_on c watch ≡ Some keep
    → (s : Stamp) × Contains stamps s × (s.time ≡ pos 0) × ((l : Bool) × (level_on c s.given ≡ Some l))

is_small : (watch : Watch) (s : Stamp) (past : List Stamp) → AreFileStamps watch (s ∷ past) → IsSmall s
is_small watch s [] f = (0, f.0, omega arith)
is_small watch s (r ∷ past) f = f.0

not_zero : (r s : ℤ) (n : ℕ) → r ≡ pos n → r <ℤ s → s ≡ pos 0 → ⊥
not_zero r s n e h f = absurd (omega (arith, ints, e, h, f))

starts_before : (watch : Watch) (s r : Stamp) (past : List Stamp) → IsSmall r → r.time <ℤ s.time → Starts watch (s ∷ r ∷ past)
    → Starts watch (r ∷ past)
starts_before watch s r past small h z c keep e = by (contains_cases (z c keep e).0 s (r ∷ past) (z c keep e).1)
  where
    by : (s ≡ (z c keep e).0) ⊎ Contains (r ∷ past) (z c keep e).0
        → (q : Stamp) × Contains (r ∷ past) q × (q.time ≡ pos 0) × ((l : Bool) × (level_on c q.given ≡ Some l))
    by (inl k) = absurd (not_zero r.time s.time small.0 small.1 h (ap (λ (q : Stamp). q.time) k ∙ (z c keep e).2))
    by (inr k) = ((z c keep e).0, k, (z c keep e).2, (z c keep e).3)

first_known : (k : Option Keep) (o : Option Bool) → FitsOne k o → ((keep : Keep) → k ≡ Some keep → (l : Bool) × (o ≡ Some l))
    → IsKnown k (or_else o None)
first_known None o f h = ap (λ p. or_else p None) f
first_known (Some keep) o f h = let g = h keep refl in (g.0, ap (λ p. or_else p None) g.1)

more_known : (k : Option Keep) (o p : Option Bool) → FitsOne k o → IsKnown k p → IsKnown k (or_else o p)
more_known None o p f h = ap (λ q. or_else q p) f ∙ h
more_known (Some keep) (Some l) p f h = (l, refl)
more_known (Some keep) None p f h = h

only_start : (watch : Watch) (s : Stamp) (c : Channel) (keep : Keep) → Starts watch (s ∷ []) → keep_on c watch ≡ Some keep
    → (l : Bool) × (level_on c s.given ≡ Some l)
only_start watch s c keep z e = by (contains_cases (z c keep e).0 s [] (z c keep e).1)
  where
    by : (s ≡ (z c keep e).0) ⊎ Contains [] (z c keep e).0 → (l : Bool) × (level_on c s.given ≡ Some l)
    by (inl k) = ((z c keep e).3.0, ap (λ (q : Stamp). level_on c q.given) k ∙ (z c keep e).3.1)
    by (inr k) = absurd (none_in (z c keep e).0 k)

along : (watch : Watch) (stamps : List Stamp) → AreFileStamps watch stamps → Starts watch stamps → AreTable watch stamps
along watch [] f z = tt
along watch (s ∷ []) f z = (
  is_small watch s [] f,
  tt,
  record {
    crank = first_known (Some watch.crank) s.given.crank tt (λ keep e. only_start watch s Crank keep z e);
    cam1 = first_known watch.cam1 s.given.cam1 f.1.0 (λ keep e. only_start watch s Cam1 keep z e);
    cam2 = first_known watch.cam2 s.given.cam2 f.1.1 (λ keep e. only_start watch s Cam2 keep z e);
  },
  tt,
)
along watch (s ∷ r ∷ past) f z =
    let before = along watch (r ∷ past) f.3 (starts_before watch s r past (is_small watch r past f.3) f.1 z) in
    let k = before.2 in (
      f.0,
      (f.1, before.1),
      record {
        crank = more_known (Some watch.crank) s.given.crank _ tt k.crank;
        cam1 = more_known watch.cam1 s.given.cam1 _ f.2.0 k.cam1;
        cam2 = more_known watch.cam2 s.given.cam2 _ f.2.1 k.cam2;
      },
      before,
    )

pub are_table : (watch : Watch) (is : List Instant) (stamps : List Stamp) → AreSmall watch is → AreStamps watch is stamps
    → AreTable watch stamps
are_table watch is stamps small a = along watch stamps (are_file_stamps watch is stamps small a) starts
  where
    starts : Starts watch stamps
    starts c keep e =
        let g = (a.given c (pos 0) (first_level (edges_on c is))).1
        (subst (λ k. Rattle.stimulus_files.specs.Changes.IsGivenOn k (edges_on c is) (pos 0) (first_level (edges_on c is))) (sym e)
        (inl (refl, refl))) in
        (g.0, g.1.0, g.1.1.0, (first_level (edges_on c is), g.1.1.1))
