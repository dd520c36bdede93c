-- The stamps of a stimulus' files begin at time 0, and are those that a dump writes.
use Rattle.std.proofs.Common.{◌≡◌, ℕ, ◌≤◌, ◌^◌, ◌⊎◌, inl, inr, Bool, List, [], ◌∷◌, refl, ◌∙◌, ap, subst, arith, ℤ, pos, negsuc, ◌<ℤ◌}
use Rattle.std.proofs.lemmas.Int.{ints}
use Rattle.std.specs.Prelude.{Option, Some, None, Contains, unsigned_abs}
use Rattle.wheel_types.specs.declared.channel.Keep.{Keep}
use Rattle.wheel_types.specs.declared.channel.Channel.{Channel}
use Rattle.wheel_types.specs.declared.channel.Channel.TheVariants.{Crank, Cam1, Cam2}
use Rattle.wheel_types.specs.declared.instant.Instant.{Instant}
use Rattle.capture_core.specs.declared.capture.Stamp.{Stamp}
use Rattle.capture_core.specs.declared.capture.Watch.{Watch}
use Rattle.capture_core.specs.Changes.{keep_on, level_on}
use Rattle.capture_core.specs.Stamps.{IsRising}
use Rattle.stimulus_files.specs.Changes.{edges_on, Change, changes_of, first_level, IsGivenOn, AreStamps}
use Rattle.stimulus_files.specs.Written.{AreSmall}
use Rattle.stimulus_files.proofs.AlongStamps.{contains_here, contains_more, contains_cases, none_in, later_in}
use Rattle.stimulus_read.proofs.VcdRead.{AreFileStamps, Fits, FitsOne}

-- at time 0, or after it and small
abbrev IsFine : ℤ → Type 0
IsFine t = (t ≡ pos 0) ⊎ ((pos 0 <ℤ t) × (unsigned_abs t ≤ 10 ^ 24))

given_fine : (watch : Watch) (is : List Instant) (c : Channel) (t : ℤ) (l : Bool) (k : Option Keep) → AreSmall watch is → keep_on c watch ≡ k → IsGivenOn k (edges_on c is) t l → IsFine t
given_fine watch is c t l None small e g = absurd g
given_fine watch is c t l (Some keep) small e (inl g) = inl g.0
given_fine watch is c t l (Some keep) small e (inr h) =
    let s = small c keep e in
    let d : Change = record { time = t; level = l } in
    inr (later_in (pos 0) (changes_of keep (edges_on c is)) d s.0 h, s.1 d h)

stamp_fine : (watch : Watch) (is : List Instant) (stamps : List Stamp) (s : Stamp) → AreSmall watch is → AreStamps watch is stamps → Contains stamps s → IsFine s.time
stamp_fine watch is stamps s small a h =
    let g = a.some s h in
    given_fine watch is g.0 s.time g.1.0 (keep_on g.0 watch) small refl ((a.given g.0 s.time g.1.0).0 (s, (h, (refl, g.1.1))))

-- a level is given to no channel that is not watched
fits_one : (watch : Watch) (is : List Instant) (stamps : List Stamp) (s : Stamp) (c : Channel) (k : Option Keep) (o : Option Bool) → AreStamps watch is stamps → Contains stamps s → keep_on c watch ≡ k → level_on c s.given ≡ o → FitsOne k o
fits_one watch is stamps s c (Some keep) o a h e f = tt
fits_one watch is stamps s c None None a h e f = refl
fits_one watch is stamps s c None (Some l) a h e f = absurd (subst (λ k. IsGivenOn k (edges_on c is) s.time l) e ((a.given c s.time l).0 (s, (h, (refl, f)))))

fits : (watch : Watch) (is : List Instant) (stamps : List Stamp) (s : Stamp) → AreStamps watch is stamps → Contains stamps s → Fits watch s.given
fits watch is stamps s a h = (fits_one watch is stamps s Cam1 watch.cam1 s.given.cam1 a h refl refl, fits_one watch is stamps s Cam2 watch.cam2 s.given.cam2 a h refl refl)

-- some stamp has time 0
abbrev HasZero : List Stamp → Type 0
HasZero stamps = (s : Stamp) × (Contains stamps s × (s.time ≡ pos 0))

has_zero : (watch : Watch) (is : List Instant) (stamps : List Stamp) → AreStamps watch is stamps → HasZero stamps
has_zero watch is stamps a = let g = (a.given Crank (pos 0) (first_level (edges_on Crank is))).1 (inl (refl, refl)) in (g.0, (g.1.0, g.1.1.0))

after_zero : (r s : ℤ) → IsFine r → r <ℤ s → s ≡ pos 0 → ⊥
after_zero r s (inl e) h f = absurd (omega (arith, ints, e, h, f))
after_zero r s (inr p) h f = absurd (omega (arith, ints, p.0, h, f))

as_number : (r s : ℤ) → IsFine r → r <ℤ s → IsFine s → (n : ℕ) × (s ≡ pos n) × (n ≤ 10 ^ 24)
as_number r (pos n) f h (inl e) = (n, refl, absurd (after_zero r (pos n) f h e))
as_number r (pos n) f h (inr p) = (n, refl, p.1)
as_number r (negsuc n) f h (inl e) = absurd (after_zero r (negsuc n) f h e)
as_number r (negsuc n) f h (inr p) = absurd (let q = p.0 in omega (arith, ints, q))

-- what holds of each of the stamps, along a list of them
abbrev AllFine : Watch → List Stamp → Type 0
AllFine watch stamps = (s : Stamp) → Contains stamps s → IsFine s.time × Fits watch s.given

only : (s : Stamp) → HasZero (s ∷ []) → s.time ≡ pos 0
only s z = by (contains_cases z.0 s [] z.1.0)
  where
    by : (s ≡ z.0) ⊎ Contains [] z.0 → s.time ≡ pos 0
    by (inl e) = ap (λ (q : Stamp). q.time) e ∙ z.1.1
    by (inr k) = absurd (none_in z.0 k)

earlier_zero : (s r : Stamp) (past : List Stamp) → IsFine r.time → r.time <ℤ s.time → HasZero (s ∷ r ∷ past) → HasZero (r ∷ past)
earlier_zero s r past f h z = by (contains_cases z.0 s (r ∷ past) z.1.0)
  where
    by : (s ≡ z.0) ⊎ Contains (r ∷ past) z.0 → HasZero (r ∷ past)
    by (inl e) = absurd (after_zero r.time s.time f h (ap (λ (q : Stamp). q.time) e ∙ z.1.1))
    by (inr k) = (z.0, (k, z.1.1))

along : (watch : Watch) (stamps : List Stamp) → IsRising stamps → AllFine watch stamps → HasZero stamps → AreFileStamps watch stamps
along watch [] r f z = absurd (none_in z.0 z.1.0)
along watch (s ∷ []) r f z = (only s z, (f s (contains_here s [])).1)
along watch (s ∷ q ∷ past) r f z =
    let here = f s (contains_here s (q ∷ past)) in
    let next = f q (contains_more q s (q ∷ past) (contains_here q past)) in
    (as_number q.time s.time next.0 r.0 here.0, r.0, here.1, along watch (q ∷ past) r.1 (λ p k. f p (contains_more p s (q ∷ past) k)) (earlier_zero s q past next.0 r.0 z))

pub are_file_stamps : (watch : Watch) (is : List Instant) (stamps : List Stamp) → AreSmall watch is → AreStamps watch is stamps → AreFileStamps watch stamps
are_file_stamps watch is stamps small a = along watch stamps a.rise (λ s h. (stamp_fine watch is stamps s small a h, fits watch is stamps s a h)) (has_zero watch is stamps a)
