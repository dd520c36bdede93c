-- The edges that are kept of a channel's changes are its edges: a change halfway back is never kept.
use Rattle.std.proofs.Common.{◌≡◌, Bool, true, false, not, List, [], ◌∷◌, refl, sym, ◌∙◌, ap, arith, ℤ, pos, ◌+ℤ◌, ◌<ℤ◌, ◌≤ℤ◌}
use Rattle.std.proofs.lemmas.Int.{ints}
use Rattle.std.specs.Prelude.{Option, Some, None, ⊤}
use Rattle.std.specs.Int.{int_div_euclid}
use Rattle.wheel_types.specs.declared.channel.Pol.{Pol}
use Rattle.wheel_types.specs.declared.channel.Pol.TheVariants.{Rise, Fall}
use Rattle.wheel_types.specs.declared.channel.Keep.{Keep}
use Rattle.wheel_types.specs.declared.channel.Keep.TheVariants.{Rising, Falling, Both}
use Rattle.capture_core.specs.Changes.{IsKept, level_after}
use Rattle.capture_core.specs.Stamps.{kept_edge}
use Rattle.stimulus_files.specs.Changes.{Edge, with_edge, Change, halfway, change_of, back_if, changes_of, first_level}
use Rattle.stimulus_files.specs.Written.{Follows, AreInTurn, AreApart, RiseFrom}

-- the kept edges of a channel's changes, after a level
abbrev pub kept_from : Keep → Bool → List Change → List Edge
kept_from keep before [] = []
kept_from keep before (c ∷ cs) = with_edge c.time (kept_edge keep before c.level) (kept_from keep c.level cs)

-- the change of an edge is kept
kept_one : (keep : Keep) (p : Pol) → IsKept keep p → kept_edge keep (not (level_after p)) (level_after p) ≡ Some p
kept_one Rising Rise h = refl
kept_one Rising Fall h = absurd h
kept_one Falling Rise h = absurd h
kept_one Falling Fall h = refl
kept_one Both Rise h = refl
kept_one Both Fall h = refl

first_kept : (keep : Keep) (e : Edge) (es : List Edge) → AreInTurn keep (e ∷ es) → IsKept keep e.polarity
first_kept keep e [] h = h
first_kept keep e (f ∷ es) h = h.0

-- the change back is not, and goes to the level before the next edge
abbrev IsBack : Keep → Pol → Pol → List Change → Type 0
IsBack keep p q more = (t : ℤ) → kept_from keep (level_after p) (record { time = t; level = not (level_after p) } ∷ more) ≡ kept_from keep (not (level_after q)) more

back_rising : (p q : Pol) (more : List Change) → IsKept Rising p → IsKept Rising q → IsBack Rising p q more
back_rising Rise Rise more h k = λ t. refl
back_rising Rise Fall more h k = absurd k
back_rising Fall q more h k = absurd h

back_falling : (p q : Pol) (more : List Change) → IsKept Falling p → IsKept Falling q → IsBack Falling p q more
back_falling Fall Fall more h k = λ t. refl
back_falling Fall Rise more h k = absurd k
back_falling Rise q more h k = absurd h

twice : (a b : Bool) → b ≡ not a → a ≡ not b
twice true b e = ap not (sym e)
twice false b e = ap not (sym e)

-- what follows an edge's change, up to the next edge's
after_edge : (keep : Keep) (e f : Edge) (more : List Change) → IsKept keep e.polarity → IsKept keep f.polarity → Follows keep e f
    → kept_from keep (level_after e.polarity) (back_if keep e f more) ≡ kept_from keep (not (level_after f.polarity)) more
after_edge Rising e f more h k o = back_rising e.polarity f.polarity more h k (halfway e.time f.time)
after_edge Falling e f more h k o = back_falling e.polarity f.polarity more h k (halfway e.time f.time)
after_edge Both e f more h k o = ap (λ b. kept_from Both b more) (twice (level_after e.polarity) (level_after f.polarity) o)

one_edge : (keep : Keep) (e : Edge) (more : List Change) (es : List Edge) → IsKept keep e.polarity → kept_from keep (level_after e.polarity) more ≡ es → kept_from keep (not (level_after e.polarity)) (change_of e ∷ more) ≡ e ∷ es
one_edge keep e more es h k = ap (λ o. with_edge e.time o (kept_from keep (level_after e.polarity) more)) (kept_one keep e.polarity h) ∙ ap (λ (l : List Edge). e ∷ l) k

kept_after : (keep : Keep) (e : Edge) (es : List Edge) → AreInTurn keep (e ∷ es) → kept_from keep (not (level_after e.polarity)) (changes_of keep (e ∷ es)) ≡ e ∷ es
kept_after keep e [] h = one_edge keep e [] [] h refl
kept_after keep e (f ∷ es) h =
    one_edge keep e (back_if keep e f (changes_of keep (f ∷ es))) (f ∷ es) h.0
    (after_edge keep e f (changes_of keep (f ∷ es)) h.0 (first_kept keep f es h.2) h.1 ∙ kept_after keep f es h.2)

-- from the level before the first edge on
pub kept_are_edges : (keep : Keep) (es : List Edge) → AreInTurn keep es → kept_from keep (first_level es) (changes_of keep es) ≡ es
kept_are_edges keep [] h = refl
kept_are_edges keep (e ∷ es) h = kept_after keep e es h

-- ---- the times of changes rise

pub half_between : (t u : ℤ) → (t +ℤ pos 2) ≤ℤ u → pos 0 ≤ℤ t → (t <ℤ halfway t u) × (halfway t u <ℤ u)
half_between (pos a) (pos b) h s = (grind (arith, ints, h), grind (arith, ints, h))
half_between (pos a) (Rattle.std.specs.Prelude.negsuc b) h s = absurd (omega (arith, ints, h))
half_between (Rattle.std.specs.Prelude.negsuc a) u h s = absurd (omega (arith, ints, s))

rise_more : (t u : ℤ) (cs : List Change) → t <ℤ u → RiseFrom u cs → RiseFrom t cs
rise_more t u [] h r = tt
rise_more t u (c ∷ cs) h r = (through t u c.time h r.0, r.1)
  where
    through : (a b c : ℤ) → a <ℤ b → b <ℤ c → a <ℤ c
    through a b c h k = omega (arith, ints)

first_later : (t : ℤ) (e : Edge) (es : List Edge) → AreApart t (e ∷ es) → t <ℤ e.time
first_later t e [] h = h
first_later t e (f ∷ es) h = h.0

after_back : (keep : Keep) (e f : Edge) (more : List Change) → (e.time +ℤ pos 2) ≤ℤ f.time → pos 0 ≤ℤ e.time → ((t : ℤ) → t <ℤ f.time → RiseFrom t more) → RiseFrom e.time (back_if keep e f more)
after_back Both e f more h s r = r e.time (before e.time f.time h)
  where
    before : (a b : ℤ) → (a +ℤ pos 2) ≤ℤ b → a <ℤ b
    before a b h = omega (arith, ints)
after_back Rising e f more h s r = let b = half_between e.time f.time h s in (b.0, r (halfway e.time f.time) b.1)
after_back Falling e f more h s r = let b = half_between e.time f.time h s in (b.0, r (halfway e.time f.time) b.1)

pub changes_rise : (keep : Keep) (t : ℤ) (es : List Edge) → pos 0 ≤ℤ t → AreApart t es → RiseFrom t (changes_of keep es)
changes_rise keep t [] s h = tt
changes_rise keep t (e ∷ []) s h = (h, tt)
changes_rise keep t (e ∷ f ∷ es) s h =
    let here : pos 0 ≤ℤ e.time = positive t e.time s h.0 in
    let rest = changes_rise keep e.time (f ∷ es) here h.2 in
    (h.0, after_back keep e f (changes_of keep (f ∷ es)) h.1 here (λ u l. from_first u l rest))
  where
    positive : (a b : ℤ) → pos 0 ≤ℤ a → a <ℤ b → pos 0 ≤ℤ b
    positive a b h k = omega (arith, ints)

    from_first : (u : ℤ) → u <ℤ f.time → RiseFrom e.time (changes_of keep (f ∷ es)) → RiseFrom u (changes_of keep (f ∷ es))
    from_first u l r = first_of es l r
      where
        first_of : (es : List Edge) → u <ℤ f.time → RiseFrom e.time (changes_of keep (f ∷ es)) → RiseFrom u (changes_of keep (f ∷ es))
        first_of [] l r = (l, r.1)
        first_of (g ∷ es) l r = (l, r.1)
