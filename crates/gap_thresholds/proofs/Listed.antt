-- What is in a list after cuts are put into it.
use Rattle.std.proofs.Common.{◌≡◌, ℕ, ◌+◌, ◌<◌, List, ◌⊎◌, inl, inr, sym, subst, arith}
use Rattle.std.specs.Prelude.{◌↔◌, All, slice_index_or}
use Rattle.std.specs.List.{Contains}
use Rattle.std.proofs.Math.Nat.{eq-or-lt_of_le}
use Rattle.std.proofs.lemmas.List.Elements.{Contains-get_or}
use Rattle.gap_thresholds.specs.declared.cut.Cut.{Cut}

-- one list has what another has, and the cuts with a property
abbrev pub HasMore : List Cut → List Cut → (Cut → Type 0) → Type 0
HasMore new old P = (c : Cut) → Contains new c ↔ (Contains old c ⊎ P c)

-- two cuts that are put in one after the other, where no other has the property
pub two_more : (old mid new : List Cut) (a b : Cut) (P : Cut → Type 0) → HasMore mid old (λ c. c ≡ a) → HasMore new mid (λ c. c ≡ b) → P a → P b → ((c : Cut) → P c → (c ≡ a) ⊎ (c ≡ b)) → HasMore new old P
two_more old mid new a b P first second here there only c = (from c, to c)
  where
    from_mid : (c : Cut) → Contains old c ⊎ (c ≡ a) → Contains old c ⊎ P c
    from_mid c (inl h) = inl h
    from_mid c (inr e) = inr (subst P (sym e) here)

    from_new : (c : Cut) → Contains mid c ⊎ (c ≡ b) → Contains old c ⊎ P c
    from_new c (inl h) = from_mid c ((first c).0 h)
    from_new c (inr e) = inr (subst P (sym e) there)

    from : (c : Cut) → Contains new c → Contains old c ⊎ P c
    from c h = from_new c ((second c).0 h)

    to_new : (c : Cut) → (c ≡ a) ⊎ (c ≡ b) → Contains new c
    to_new c (inl e) = (second c).1 (inl ((first c).1 (inr e)))
    to_new c (inr e) = (second c).1 (inr e)

    to : (c : Cut) → Contains old c ⊎ P c → Contains new c
    to c (inl h) = (second c).1 (inl ((first c).1 (inl h)))
    to c (inr p) = to_new c (only c p)

-- what holds of each cut holds of each with one more
pub all_more : (old new : List Cut) (a : Cut) (P : Cut → Type 0) → HasMore new old (λ c. c ≡ a) → P a → All P old → All P new
all_more old new a P more here all k d h = by_side (slice_index_or new k d) ((more (slice_index_or new k d)).0 (Contains-get_or new k d h))
  where
    by_side : (c : Cut) → Contains old c ⊎ (c ≡ a) → P c
    by_side c (inl (k, h, e)) = subst P e (all k c h)
    by_side c (inr e) = subst P (sym e) here

-- it is a cut of an edge whose number is below n
abbrev pub Before : (ℕ → Cut → Type 0) → ℕ → Cut → Type 0
Before P n c = (j : ℕ) × (j < n) × P j c

-- a list that has those of the edges below n, and then those of edge n, has those of the edges below n + 1
pub before_more : (P : ℕ → Cut → Type 0) (n : ℕ) (old new : List Cut) → ((c : Cut) → Contains old c ↔ Before P n c) → HasMore new old (P n) → (c : Cut) → Contains new c ↔ Before P (n + 1) c
before_more P n old new all more c = (from c, to c)
  where
    by_side : (c : Cut) → Contains old c ⊎ P n c → Before P (n + 1) c
    by_side c (inl h) = let b = (all c).0 h in (b.0, omega (arith, b.1), b.2)
    by_side c (inr p) = (n, omega arith, p)

    from : (c : Cut) → Contains new c → Before P (n + 1) c
    from c h = by_side c ((more c).0 h)

    by_number : (c : Cut) (j : ℕ) → (j ≡ n) ⊎ (j < n) → P j c → Contains new c
    by_number c j (inl e) p = (more c).1 (inr (subst (λ k. P k c) e p))
    by_number c j (inr h) p = (more c).1 (inl ((all c).1 (j, h, p)))

    to : (c : Cut) → Before P (n + 1) c → Contains new c
    to c (j, h, p) = by_number c j (eq-or-lt_of_le (omega (arith, h))) p
