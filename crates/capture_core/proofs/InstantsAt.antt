-- Where the instants of closed stamps stand.
use Rattle.std.proofs.Common.{◌≡◌, ◌∙◌, refl, sym, ap, subst, ◌⊎◌, inl, inr, List, [], ◌∷◌, ◌++◌, Option, Some, None, append_assoc, arith}
use Rattle.std.specs.Prelude.{Contains}
use Rattle.std.proofs.lemmas.List.{append-nil}
use Rattle.std.proofs.lemmas.List.Elements.{Contains-append_left, Contains-push, Contains-push_cases}
use Rattle.wheel_types.specs.declared.instant.Instant.{Instant}
use Rattle.capture_core.specs.declared.capture.Stamp.{Stamp}
use Rattle.capture_core.specs.declared.capture.Watch.{Watch}
use Rattle.capture_core.specs.Changes.{IsInstantAt}
use Rattle.capture_core.specs.Laws.{InstantsAreChanges, LongerBeginAlike, StandsIn}
use Rattle.capture_core.specs.Stamps.{instant_at, instants_of, known_after, with_last}
use Rattle.capture_core.proofs.KeptChanges.{instant-is, is-instant}

-- an instant of some of the stamps
abbrev StandsAt : Watch → List Stamp → Instant → Type 0
StandsAt watch closed i = (s : Stamp) × ((past : List Stamp) × (StandsIn closed s past × IsInstantAt watch past s i))

-- one more stamp changes nothing for those before it
in-more : (watch : Watch) (s : Stamp) (closed : List Stamp) (i : Instant) → StandsAt watch closed i → StandsAt watch (s ∷ closed) i
in-more watch s closed i (r, (past, (stands, is))) = (r, (past, (record { later = s ∷ stands.later; all = ap (λ (x : List Stamp). s ∷ x) stands.all }, is)))

-- what is among instants with one more
with-last-cases : (is : List Instant) (o : Option Instant) (i : Instant) → Contains (with_last is o) i → Contains is i ⊎ (o ≡ Some i)
with-last-cases is None i h = inl h
with-last-cases is (Some j) i h = by (Contains-push_cases is j i h)
  where
    by : Contains is i ⊎ (j ≡ i) → Contains is i ⊎ (Some j ≡ Some i)
    by (inl inside) = inl inside
    by (inr same) = inr (ap (λ (x : Instant). Some x) same)

-- those before it are
with-last-before : (is : List Instant) (o : Option Instant) (i : Instant) → Contains is i → Contains (with_last is o) i
with-last-before is None i h = h
with-last-before is (Some j) i h = Contains-append_left is (j ∷ []) i h

-- and it is
with-last-here : (is : List Instant) (o : Option Instant) (i : Instant) → o ≡ Some i → Contains (with_last is o) i
with-last-here is o i e = rw e (Contains-push is i)

-- the instant of the last stamp, or an earlier one
stands-on : (watch : Watch) (s : Stamp) (past : List Stamp) (i : Instant) → (Contains (instants_of watch past) i → StandsAt watch past i)
    → Contains (instants_of watch past) i ⊎ (instant_at watch (known_after past) s ≡ Some i) → StandsAt watch (s ∷ past) i
stands-on watch s past i earlier (inl before) = in-more watch s past i (earlier before)
stands-on watch s past i earlier (inr here) = (s, (past, (record { later = []; all = refl }, instant-is watch past s i here)))

-- each instant is that of a stamp
stands : (watch : Watch) (closed : List Stamp) (i : Instant) → Contains (instants_of watch closed) i → StandsAt watch closed i
stands watch [] i (k, inside, is) = absurd (omega (arith, inside))
stands watch (s ∷ past) i h = stands-on watch s past i (stands watch past i) (with-last-cases (instants_of watch past) (instant_at watch (known_after past) s) i h)

-- and each stamp's instant is among them
contains : (watch : Watch) (later : List Stamp) (s : Stamp) (past : List Stamp) (i : Instant) → IsInstantAt watch past s i → Contains (instants_of watch (later ++ s ∷ past)) i
contains watch [] s past i h = with-last-here (instants_of watch past) (instant_at watch (known_after past) s) i (is-instant watch past s i h)
contains watch (r ∷ later) s past i h =
    with-last-before (instants_of watch (later ++ s ∷ past)) (instant_at watch (known_after (later ++ s ∷ past)) r) i (contains watch later s past i h)

-- the instants of closed stamps are those of exactly the kept changes
pub are-changes : InstantsAreChanges
are-changes watch closed i = (
  stands watch closed i,
  λ (s, (past, (h, is))). subst (λ (x : List Stamp). Contains (instants_of watch x) i) (sym h.all) (contains watch h.later s past i is),
)

-- instants with one more begin with those
with-last-more : (is : List Instant) (o : Option Instant) → (more : List Instant) × (with_last is o ≡ is ++ more)
with-last-more is None = ([], sym (append-nil is))
with-last-more is (Some i) = (i ∷ [], refl)

-- the instants of more stamps begin with those of the earlier ones
pub begin-alike : LongerBeginAlike
begin-alike watch [] earlier = ([], sym (append-nil (instants_of watch earlier)))
begin-alike watch (s ∷ later) earlier =
    let (more, first) = begin-alike watch later earlier in
    let (last, all) = with-last-more (instants_of watch (later ++ earlier)) (instant_at watch (known_after (later ++ earlier)) s) in
    (more ++ last, all ∙ ap (λ (x : List Instant). x ++ last) first ∙ append_assoc (instants_of watch earlier) more last)
