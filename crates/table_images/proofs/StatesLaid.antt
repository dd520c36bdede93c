-- Parts that keep the rules of the kinds and of the sets give bytes that keep them.
use Rattle.std.proofs.Common.{◌≡◌, ◌⊎◌, inl, inr, ℕ, zero, suc, ◌+◌, ◌-◌, ◌*◌, ◌^◌, ◌<◌, ◌≤◌, List, ◌∷◌, ◌++◌, append_assoc, length, get_or, refl, sym, ap, ◌∙◌, arith}
use Rattle.std.proofs.Math.Nat.{mul-le-mul_left}
use Rattle.std.proofs.lemmas.Grind.{flat_map-append}
use Rattle.std.specs.Prelude.{flat_map, replicate}
use Rattle.byteorder.specs.Endian.{little_bytes}
use Rattle.wheel_types.specs.declared.channel.Channel.TheVariants.{Crank}
use Rattle.wheel_types.specs.declared.place.Place.{Place}
use Rattle.wheel_types.specs.declared.parts.WheelParts.{WheelParts}
use Rattle.wheel_types.specs.Edges.{edge_count}
use Rattle.image_layout.specs.declared.kind.Kind.{Kind}
use Rattle.image_layout.specs.declared.kind.Kind.TheVariants.{Dead, At, Open}
use Rattle.image_layout.specs.declared.parts.ImageParts.{ImageParts}
use Rattle.image_layout.specs.Layout.{number_at, place_total, set_words, words_for, members_begin}
use Rattle.image_layout.specs.Fields.{kind_word_at, place_at, member_at, crank_total}
use Rattle.image_layout.specs.Parts.{image_bytes, kind_words}
use Rattle.image_layout.specs.Tables.{IsAt, IsOpen, KeepsKinds, KeepsMembers}
use Rattle.image_layout.proofs.ReadBack.{Fit, place_total_is, state_total_is, kind_word_is, member_is, members_parted, before_members, after_members, long_members}
use Rattle.image_layout.proofs.WheelBack.{wheel_is}
use Rattle.image_layout.proofs.PartsKept.{phase_is}
use Rattle.table_images.proofs.PartsLaid.{zeros_in}

-- the kind is that of a state past 0: a position, or two places of different positions, the lesser first
abbrev pub IsKindOf : ImageParts → Kind → Type 0
IsKindOf p Dead = ⊥
IsKindOf p (At j) = j < edge_count p.wheel Crank
IsKindOf p (Open e f) = (e < f) × ((f < length p.places.items) × ((d : Place) → (get_or p.places.items e d).j ≡ (get_or p.places.items f d).j → ⊥))

module _ (p : ImageParts) (h : Fit p) (d : Place) (places : (k : ℕ) → k < length p.places.items → place_at (image_bytes p) k ≡ get_or p.places.items k d) where
  kind_word : (q w : ℕ) (k : Kind) → q < length p.phases.items → w < 4 → get_or p.kinds.items q Dead ≡ k → kind_word_at (image_bytes p) q w ≡ get_or (kind_words (get_or p.phases.items q 0) k) w 0
  kind_word q w k there within e = kind_word_is p h q w there within ∙ ap (λ (x : Kind). get_or (kind_words (get_or p.phases.items q 0) x) w 0) e

  kind_keeps : (q : ℕ) (k : Kind) → q < length p.phases.items → get_or p.kinds.items q Dead ≡ k → IsKindOf p k → IsAt (image_bytes p) q ⊎ IsOpen (image_bytes p) q
  kind_keeps q Dead there e is = absurd is
  kind_keeps q (At j) there e is =
      let cranks : crank_total (image_bytes p) ≡ edge_count p.wheel Crank = ap (λ (w : WheelParts). edge_count w Crank) (wheel_is p h) in
      let first : kind_word_at (image_bytes p) q 2 ≡ j = kind_word q 2 (At j) there (omega arith) e in
      inl (kind_word q 1 (At j) there (omega arith) e, omega (arith, cranks, first, is), kind_word q 3 (At j) there (omega arith) e)
  kind_keeps q (Open f g) there e is =
      let first : kind_word_at (image_bytes p) q 2 ≡ f = kind_word q 2 (Open f g) there (omega arith) e in
      let second : kind_word_at (image_bytes p) q 3 ≡ g = kind_word q 3 (Open f g) there (omega arith) e in
      let total = place_total_is p h in
      let low : f < length p.places.items = omega (arith, is.0, is.1.0) in
      inr (
        kind_word q 1 (Open f g) there (omega arith) e,
        omega (arith, first, second, is.0),
        omega (arith, second, total, is.1.0),
        λ same. is.1.1 d (ap (λ (x : Place). x.j) (sym (places f low)) ∙ (ap (λ n. (place_at (image_bytes p) n).j) (sym first) ∙ (same ∙ (ap (λ n. (place_at (image_bytes p) n).j) second ∙ ap (λ (x : Place). x.j) (places g is.1.0))))),
      )

  pub kinds_keep :
      2 ≤ length p.phases.items
      → get_or p.phases.items 0 0 ≡ 0 → get_or p.kinds.items 0 Dead ≡ Dead
      → ((q : ℕ) → q < length p.phases.items → get_or p.phases.items q 0 ≤ 5) → get_or p.phases.items 1 0 ≡ 0
      → ((q : ℕ) → 1 ≤ q → q < length p.phases.items → IsKindOf p (get_or p.kinds.items q Dead))
      → KeepsKinds (image_bytes p)
  kinds_keep some phase kind phases start kinds =
      let total = state_total_is p h in
      let first : 0 < length p.phases.items = omega (arith, some) in
      record {
        dead = (phase_is p h 0 first ∙ phase, kind_word 0 1 Dead first (omega arith) kind, kind_word 0 2 Dead first (omega arith) kind, kind_word 0 3 Dead first (omega arith) kind);
        phases = λ q least lt. let there : q < length p.phases.items = omega (arith, lt, total) in let e = phase_is p h q there in omega (arith, e, phases q there);
        start = phase_is p h 1 (omega (arith, some)) ∙ start;
        kinds = λ q least lt. let there : q < length p.phases.items = omega (arith, lt, total) in kind_keeps q (get_or p.kinds.items q Dead) there refl (kinds q least there);
      }

-- the bytes of zeros are zeros
zero_bytes : (n : ℕ) → flat_map (little_bytes 8) (replicate n 0) ≡ replicate (8 * n) 0
zero_bytes zero = refl
zero_bytes (suc n) =
    let more : 8 * suc n ≡ suc (suc (suc (suc (suc (suc (suc (suc (8 * n)))))))) = omega arith in
    ap (λ (ys : List ℕ). 0 ∷ 0 ∷ 0 ∷ 0 ∷ 0 ∷ 0 ∷ 0 ∷ 0 ∷ ys) (zero_bytes n) ∙ ap (λ m. replicate m 0) (sym more)

module _ (p : ImageParts) (h : Fit p) where
  pub members_keep :
      ((q : ℕ) → q < length p.phases.items
      → get_or p.members.items (q * words_for (length p.places.items) + (words_for (length p.places.items) - 1)) 0 < 2 ^ (length p.places.items - 64 * (words_for (length p.places.items) - 1)))
      → 1 ≤ words_for (length p.places.items)
      → (rest : List ℕ) → p.members.items ≡ replicate (words_for (length p.places.items)) 0 ++ rest
      → KeepsMembers (image_bytes p)
  members_keep last some rest dead =
      let total = state_total_is p h in
      let places = place_total_is p h in
      let n : ℕ = words_for (length p.places.items) in
      let words : set_words (image_bytes p) ≡ n = ap words_for places in
      let bytes : image_bytes p ≡ before_members p ++ (replicate (8 * n) 0 ++ (flat_map (little_bytes 8) rest ++ after_members p)) =
      members_parted p ∙ ap (λ (ys : List ℕ). before_members p ++ ys)
      (ap (λ (ys : List ℕ). flat_map (little_bytes 8) ys ++ after_members p) dead
      ∙ (ap (λ (ys : List ℕ). ys ++ after_members p) (flat_map-append (little_bytes 8) (replicate n 0) rest ∙ ap (λ (ys : List ℕ). ys ++ flat_map (little_bytes 8) rest) (zero_bytes n))
      ∙ append_assoc (replicate (8 * n) 0) (flat_map (little_bytes 8) rest) (after_members p))) in
      record {
        places = λ q lt.
            let there : q < length p.phases.items = omega (arith, lt, total) in
            let place : q * set_words (image_bytes p) + (set_words (image_bytes p) - 1) ≡ q * n + (n - 1) = ap (λ m. q * m + (m - 1)) words in
            let within : q * n + (n - 1) < length p.members.items = within_sets q n (length p.phases.items) (length p.members.items) there some h.sets in
            let at : member_at (image_bytes p) q (set_words (image_bytes p) - 1) ≡ get_or p.members.items (q * n + (n - 1)) 0 = ap (λ i. member_number i) place ∙ member_is p h (q * n + (n - 1)) within in
            let bits : place_total (image_bytes p) - 64 * (set_words (image_bytes p) - 1) ≡ length p.places.items - 64 * (n - 1) = ap (λ m. m - 64 * (words_for m - 1)) places in
            rw (at, bits) (last q there);
        dead = zeros_in (image_bytes p) (before_members p) (flat_map (little_bytes 8) rest ++ after_members p) (8 * n) (members_begin (image_bytes p)) (members_begin (image_bytes p) + 8 * set_words (image_bytes p)) bytes (long_members p h) (ap (λ m. members_begin (image_bytes p) + 8 * m) words);
      }
    where
      member_number : ℕ → ℕ
      member_number i = number_at 8 (image_bytes p) (members_begin (image_bytes p) + 8 * i)

      within_sets : (q n states total : ℕ) → q < states → 1 ≤ n → total ≡ states * n → q * n + (n - 1) < total
      within_sets q n states total lt one e = let more : n * (q + 1) ≤ n * states = mul-le-mul_left n (omega (arith, lt)) in omega (arith, more, one, e)
