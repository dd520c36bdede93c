-- Rising edges that are numbered in the order of their times stand in the list by their numbers.
use Rattle.std.proofs.Common.{◌≡◌, ◌⊎◌, inl, inr, ◌↔◌, ℕ, suc, ◌<◌, ◌≤◌, List, [], ◌∷◌, sym, ap, subst, arith, ℤ, pos, ◌+ℤ◌, ◌<ℤ◌, ◌≤ℤ◌}
use Rattle.std.proofs.lemmas.Int.{ints}
use Rattle.std.specs.Prelude.{Contains, ⊤}
use Rattle.wheel_types.specs.declared.channel.Keep.{Keep}
use Rattle.capture_core.specs.Changes.{IsKept}
use Rattle.stimulus_files.specs.Changes.{Edge}
use Rattle.stimulus_files.specs.Written.{Follows, AreInTurn, AreApart}
use Rattle.stimulus_files.proofs.AlongStamps.{contains_here, contains_more, contains_cases}
use Rattle.stimulus.proofs.OneOnly.{AllAfter, EdgesRise, is_later}

-- what numbered edges of a channel are
pub record AreNumbered (keep : Keep) (Is : ℕ → Edge → Type 0) : Type 0 where
  pub apart : (m n : ℕ) (e f : Edge) → m < n → Is m e → Is n f → (e.time +ℤ pos 2) ≤ℤ f.time
  pub same : (n : ℕ) (e f : Edge) → Is n e → Is n f → e ≡ f
  pub filled : (m n : ℕ) (f : Edge) → m < n → Is n f → (e : Edge) × Is m e
  pub kept : (n : ℕ) (e : Edge) → Is n e → IsKept keep e.polarity
  pub turns : (n : ℕ) (e f : Edge) → Is n e → Is (suc n) f → Follows keep e f
  pub after : (n : ℕ) (e : Edge) → Is n e → pos 0 <ℤ e.time

-- the edges of a list have this number and those after it
abbrev NumberedFrom : (ℕ → Edge → Type 0) → ℕ → List Edge → Type 0
NumberedFrom Is n [] = ⊤
NumberedFrom Is n (e ∷ es) = Is n e × NumberedFrom Is (suc n) es

-- an edge of this number or a later one
abbrev IsFrom : (ℕ → Edge → Type 0) → ℕ → Edge → Type 0
IsFrom Is m e = (n : ℕ) × (m ≤ n) × Is n e

split : (m n : ℕ) → m ≤ n → (m < n) ⊎ (n ≡ m)
split m n h = grind arith

not_itself : (a b : ℤ) → a ≡ b → (a +ℤ pos 2) ≤ℤ b → ⊥
not_itself a b e h = absurd (omega (arith, ints, e, h))

not_both : (a b : ℤ) → a <ℤ b → (b +ℤ pos 2) ≤ℤ a → ⊥
not_both a b h k = absurd (omega (arith, ints, h, k))

module _ (keep : Keep) (Is : ℕ → Edge → Type 0) (all : AreNumbered keep Is) where
  -- the first of the list has the least number
  head_is : (m : ℕ) (e : Edge) (es : List Edge) → AllAfter e.time es → ((f : Edge) → Contains (e ∷ es) f ↔ IsFrom Is m f) → Is m e
  head_is m e es a h =
      let n = (h e).0 (contains_here e es) in
      by n.0 n.2 (split m n.0 n.1)
    where
      by : (n : ℕ) → Is n e → (m < n) ⊎ (n ≡ m) → Is m e
      by n is (inr q) = subst (λ k. Is k e) q is
      by n is (inl l) =
          let x = all.filled m n e l is in
          missing x.0 (all.apart m n x.0 e l x.1 is) (contains_cases x.0 e es ((h x.0).1 (m, omega arith, x.1)))
        where
          missing : (x : Edge) → (x.time +ℤ pos 2) ≤ℤ e.time → (e ≡ x) ⊎ Contains es x → Is m e
          missing x k (inl q) = absurd (not_itself x.time e.time (ap (λ (v : Edge). v.time) (sym q)) k)
          missing x k (inr i) = absurd (not_both e.time x.time (is_later e.time es x a i) k)

  rest_is : (m : ℕ) (e : Edge) (es : List Edge) → AllAfter e.time es → Is m e → ((f : Edge) → Contains (e ∷ es) f ↔ IsFrom Is m f)
      → (f : Edge) → Contains es f ↔ IsFrom Is (suc m) f
  rest_is m e es a is h f = (to, from)
    where
      to : Contains es f → IsFrom Is (suc m) f
      to i =
          let n = (h f).0 (contains_more f e es i) in
          by n.0 n.2 (split m n.0 n.1)
        where
          by : (n : ℕ) → Is n f → (m < n) ⊎ (n ≡ m) → IsFrom Is (suc m) f
          by n j (inl l) = (n, omega (arith, l), j)
          by n j (inr q) =
              let k = all.same m e f is (subst (λ o. Is o f) q j) in
              absurd (both (subst (λ (v : Edge). v.time <ℤ f.time) k (is_later e.time es f a i)))
            where
              both : f.time <ℤ f.time → ⊥
              both l = absurd (omega (arith, ints, l))

      from : IsFrom Is (suc m) f → Contains es f
      from n = by n.0 n.1 n.2 (contains_cases f e es ((h f).1 (n.0, less n.0 n.1, n.2)))
        where
          less : (k : ℕ) → suc m ≤ k → m ≤ k
          less k l = omega (arith, l)

          by : (k : ℕ) → suc m ≤ k → Is k f → (e ≡ f) ⊎ Contains es f → Contains es f
          by k l j (inr i) = i
          by k l j (inl q) = absurd (not_itself e.time f.time (ap (λ (v : Edge). v.time) q) (all.apart m k e f (omega (arith, l)) is j))

  numbered : (m : ℕ) (es : List Edge) → EdgesRise es → ((f : Edge) → Contains es f ↔ IsFrom Is m f) → NumberedFrom Is m es
  numbered m [] r h = tt
  numbered m (e ∷ es) r h =
      let is = head_is m e es r.0 h in
      (is, numbered (suc m) es r.1 (rest_is m e es r.0 is h))

  in_turn : (m : ℕ) (es : List Edge) → NumberedFrom Is m es → AreInTurn keep es
  in_turn m [] n = tt
  in_turn m (e ∷ []) n = all.kept m e n.0
  in_turn m (e ∷ f ∷ es) n = (all.kept m e n.0, all.turns m e f n.0 n.1.0, in_turn (suc m) (f ∷ es) n.1)

  apart_from : (m : ℕ) (t : ℤ) (es : List Edge) → NumberedFrom Is m es → ((e : Edge) → Is m e → t <ℤ e.time) → AreApart t es
  apart_from m t [] n h = tt
  apart_from m t (e ∷ []) n h = h e n.0
  apart_from m t (e ∷ f ∷ es) n h = (
    h e n.0,
    all.apart m (suc m) e f (omega arith) n.0 n.1.0,
    apart_from (suc m) e.time (f ∷ es) n.1
        (λ g j. strictly e.time g.time (all.apart m (suc m) e g (omega arith) n.0 j)),
  )
    where
      strictly : (a b : ℤ) → (a +ℤ pos 2) ≤ℤ b → a <ℤ b
      strictly a b h = omega (arith, ints, h)

  -- such edges can be written
  pub writable : (es : List Edge) → EdgesRise es → ((f : Edge) → Contains es f ↔ ((n : ℕ) × Is n f))
      → AreInTurn keep es × AreApart (pos 0) es
  writable es r h =
      let n = numbered 0 es r (λ f. (λ i. let k = (h f).0 i in (k.0, omega arith, k.1), λ k. (h f).1 (k.0, k.2))) in
      (in_turn 0 es n, apart_from 0 (pos 0) es n (λ e j. all.after 0 e j))
