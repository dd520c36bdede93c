-- Changes that come after a time, one after the other, and are small: the first of them, and those after it.
use Rattle.std.proofs.Common.{◌≡◌, ◌⊎◌, inl, inr, ◌↔◌, ◌≤◌, ◌^◌, Bool, List, [], ◌∷◌, sym, subst}
use Rattle.std.specs.Prelude.{Option, Some, None, Contains, ℤ, ◌<ℤ◌, unsigned_abs}
use Rattle.stimulus_files.specs.Changes.{Change}
use Rattle.stimulus_files.specs.Written.{AreWithin, RiseFrom}
use Rattle.stimulus_files.specs.Tracks.{first_time, IsTaken}
use Rattle.stimulus_files.proofs.AlongStamps.{contains_here, contains_more, contains_cases, none_in}

-- changes come after a time, one after the other, and are small
abbrev pub AreFine : ℤ → List Change → Type 0
AreFine t cs = RiseFrom t cs × AreWithin cs

none_is_some : {X : Type 0} (x : X) → None ≡ Some x → ⊥
none_is_some x e = cc

some_is : {X : Type 0} (x y : X) → Some x ≡ Some y → x ≡ y
some_is x y e = cc

pub one_within : (d : Change) (ds : List Change) → unsigned_abs d.time ≤ 10 ^ 24 → AreWithin ds → AreWithin (d ∷ ds)
one_within d ds h k x i = by (contains_cases x d ds i)
  where
    by : (d ≡ x) ⊎ Contains ds x → unsigned_abs x.time ≤ 10 ^ 24
    by (inl e) = subst (λ (v : Change). unsigned_abs v.time ≤ 10 ^ 24) e h
    by (inr j) = k x j

-- the first of fine changes is later and small
pub first_fine : (t u : ℤ) (ds : List Change) → first_time ds ≡ Some u → AreFine t ds → (t <ℤ u) × (unsigned_abs u ≤ 10 ^ 24)
first_fine t u [] e f = absurd (none_is_some u e)
first_fine t u (d ∷ ds) e f =
    let same = some_is d.time u e in
    (subst (λ x. t <ℤ x) same f.0.0, subst (λ x. unsigned_abs x ≤ 10 ^ 24) same (f.1 d (contains_here d ds)))

-- where it is, all are fine if those after it are
pub next_fine : (t u : ℤ) (before : List Change) (o : Option Bool) (after : List Change) → IsTaken u before o after
    → first_time before ≡ Some u
    → t <ℤ u → unsigned_abs u ≤ 10 ^ 24 → AreFine t before ↔ AreFine u after
next_fine t u before None after h e l s = absurd (h.1 e)
next_fine t u before (Some v) after h e l s =
    subst (λ ds. AreFine t ds ↔ AreFine u after) (sym h) (
      λ f. (f.0.1, λ x i. f.1 x (contains_more x (record { time = u; level = v }) after i)),
      λ f. ((l, f.0), one_within (record { time = u; level = v }) after s f.1),
    )

-- none are fine
pub none_fine : (t : ℤ) (ds : List Change) → first_time ds ≡ None → AreFine t ds
none_fine t [] e = (tt, λ x i. absurd (none_in x i))
none_fine t (d ∷ ds) e = absurd (none_is_some d.time (sym e))
