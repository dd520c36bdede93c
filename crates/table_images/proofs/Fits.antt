-- The numbers of an image's parts fit their words.
use Rattle.std.proofs.Common.{◌≡◌, inl, inr, ℕ, suc, ◌+◌, ◌-◌, ◌*◌, ◌^◌, ◌<◌, ◌≤◌, ◌==◌, ◌||◌, IsTrue, List, [], ◌∷◌, ◌++◌, length, get_or, ℤ, w32, sym, ap, subst, ◌∙◌, arith}
use Rattle.std.proofs.lemmas.Bool.{cases_lt}
use Rattle.std.proofs.lemmas.Bool.Decides.{nat_tests}
use Rattle.std.proofs.lemmas.Int.{ints}
use Rattle.std.proofs.lemmas.List.{get_or_append_left, get_or-append-add}
use Rattle.std.proofs.lemmas.List.Elements.{All-from_recursion}
use Rattle.std.specs.Int.{cast_unsigned}
use Rattle.std.specs.List.{AllByRecursion}
use Rattle.std.specs.Prelude.{flat_map, unsigned_abs}
use Rattle.wheel_types.specs.declared.place.Place.{Place}
use Rattle.wheel_types.specs.declared.channel.Keep.{Keep}
use Rattle.wheel_types.specs.declared.channel.Keep.TheVariants.{Rising, Falling, Both}
use Rattle.wheel_types.specs.Edges.{below}
use Rattle.wheel_types.specs.Wheels.{IsWheel}
use Rattle.image_layout.specs.declared.kind.Kind.{Kind}
use Rattle.image_layout.specs.declared.kind.Kind.TheVariants.{Dead, At, Open}
use Rattle.image_layout.specs.declared.parts.ImageParts.{ImageParts}
use Rattle.image_layout.specs.Layout.{words_for, width_for}
use Rattle.image_layout.specs.Parts.{body, header_words, keep_code, place_words, ratio_words, kind_words, state_words, AreSmall}
use Rattle.image_layout.proofs.ReadBack.{Fit}
use Rattle.table_images.proofs.BodySize.{body_short}

code_small : (k : Keep) → keep_code k < 4
code_small Rising = omega arith
code_small Falling = omega arith
code_small Both = omega arith

degrees_small : (d : ℕ) → IsTrue ((d == 360) || (d == 720)) → d ≤ 720
degrees_small d h = grind (arith, nat_tests)

-- what holds of each number of each piece holds of each of all
pieces : {X : Type 0} (f : X → List ℕ) (m : ℕ) (xs : List X) → AllByRecursion (λ x. AllByRecursion (λ n. n < m) (f x)) xs → 0 < m → (k : ℕ) → get_or (flat_map f xs) k 0 < m
pieces f m [] h some k = some
pieces f m (x ∷ xs) h some k = elim (cases_lt k (length (f x))) [
  | inl lt ↦ subst (λ n. n < m) (sym (get_or_append_left (f x) (flat_map f xs) 0 k lt)) (All-from_recursion (λ n. n < m) (f x) h.0 k 0 lt)
  | inr past ↦
      let place : k ≡ length (f x) + (k - length (f x)) = omega (arith, past) in
      let e = ap (λ i. get_or (f x ++ flat_map f xs) i 0) place ∙ get_or-append-add (f x) (flat_map f xs) (k - length (f x)) 0 in
      subst (λ n. n < m) (sym e) (pieces f m xs h.1 some (k - length (f x)))
]

small_word : (z : ℤ) → unsigned_abs z < 1048576 → cast_unsigned w32 z < 256 ^ 4
small_word z h = omega (arith, ints, h)

each_place : (ps : List Place) → ((k : ℕ) (d : Place) → k < length ps → ((get_or ps k d).j < 256 ^ 4) × (unsigned_abs (get_or ps k d).n1 < 1048576) × (unsigned_abs (get_or ps k d).n2 < 1048576)) → AllByRecursion (λ (x : Place). AllByRecursion (λ n. n < 256 ^ 4) (place_words x)) ps
each_place [] h = tt
each_place (p ∷ ps) h =
    let one = h 0 p (omega arith) in
    ((one.0, (small_word p.n1 one.1, (small_word p.n2 one.2, tt))), each_place ps (λ k d lt. h (suc k) d (omega (arith, lt))))

each_ratio : (cs : List (ℕ × ℕ)) → ((k : ℕ) → k < length cs → ((get_or cs k (0, 0)).0 < 256 ^ 4) × ((get_or cs k (0, 0)).1 < 256 ^ 4)) → AllByRecursion (λ (x : ℕ × ℕ). AllByRecursion (λ n. n < 256 ^ 4) (ratio_words x)) cs
each_ratio [] h = tt
each_ratio (c ∷ cs) h =
    let one = h 0 (omega arith) in
    ((one.0, (one.1, tt)), each_ratio cs (λ k lt. h (suc k) (omega (arith, lt))))

-- the numbers of a kind
abbrev pub IsSmallKind : Kind → Type 0
IsSmallKind Dead = 0 ≤ 0
IsSmallKind (At j) = j < 256 ^ 4
IsSmallKind (Open e f) = (e < 256 ^ 4) × (f < 256 ^ 4)

kind_small : (phase : ℕ) (k : Kind) → phase < 256 → IsSmallKind k → AllByRecursion (λ n. n < 256 ^ 4) (kind_words phase k)
kind_small phase Dead h s = (omega (arith, h), (omega arith, (omega arith, (omega arith, tt))))
kind_small phase (At j) h s = (omega (arith, h), (omega arith, (s, (omega arith, tt))))
kind_small phase (Open e f) h s = (omega (arith, h), (omega arith, (s.0, (s.1, tt))))

each_state : (p : ImageParts) (qs : List ℕ) → ((q : ℕ) → (get_or p.phases.items q 0 < 256) × IsSmallKind (get_or p.kinds.items q Dead)) → AllByRecursion (λ q. AllByRecursion (λ n. n < 256 ^ 4) (state_words p q)) qs
each_state p [] h = tt
each_state p (q ∷ qs) h = (kind_small (get_or p.phases.items q 0) (get_or p.kinds.items q Dead) (h q).0 (h q).1, each_state p qs h)

pub fit : (p : ImageParts) → IsWheel p.wheel → AreSmall p
    → ((k : ℕ) → get_or p.time_cuts.items k 0 < 2 ^ 64)
    → ((k : ℕ) (d : Place) → k < length p.places.items → ((get_or p.places.items k d).j < 256 ^ 4) × (unsigned_abs (get_or p.places.items k d).n1 < 1048576) × (unsigned_abs (get_or p.places.items k d).n2 < 1048576))
    → ((k : ℕ) → k < length p.ratio_cuts.items → ((get_or p.ratio_cuts.items k (0, 0)).0 < 256 ^ 4) × ((get_or p.ratio_cuts.items k (0, 0)).1 < 256 ^ 4))
    → ((q : ℕ) → (get_or p.phases.items q 0 < 256) × IsSmallKind (get_or p.kinds.items q Dead))
    → ((k : ℕ) → get_or p.members.items k 0 < 2 ^ 64)
    → ((k : ℕ) → get_or p.rows.items k 0 < 2 ^ 16)
    → length p.members.items ≡ length p.phases.items * words_for (length p.places.items)
    → length p.rows.items ≡ length p.phases.items * width_for (length p.time_cuts.items) (length p.ratio_cuts.items)
    → Fit p
fit p wheel small times places ratios states members rows sets entries =
    let short = body_short p small in
    let degrees = degrees_small p.wheel.degrees wheel.degrees in
    let crank = code_small p.wheel.crank in
    let cam1 = code_small p.wheel.cam1 in
    let cam2 = code_small p.wheel.cam2 in
    let c1 = wheel.cam1 in
    let c2 = wheel.cam2 in
    record {
      header = λ k lt. All-from_recursion (λ n. n < 256 ^ 4) (header_words p (length (body p))) (
        omega arith,
        (
          omega arith,
          (
            omega (arith, short),
            (
              omega (arith, wheel.slots.1),
              (
                omega (arith, small.places),
                (
                  omega (arith, small.times),
                  (
                    omega (arith, small.ratios),
                    (
                      omega (arith, small.states),
                      (
                        omega (arith, degrees),
                        (
                          omega (arith, crank, cam1, cam2),
                          (
                            omega (arith, c1, degrees),
                            (
                              omega (arith, c1, degrees),
                              (
                                omega (arith, c2, degrees),
                                (
                                  omega (arith, c2, degrees),
                                  (omega (arith, wheel.rpm.1, wheel.rpm.2), (omega (arith, wheel.rpm.2), (omega (arith, wheel.ratio.2), (omega (arith, wheel.ratio.1, wheel.ratio.2), tt)))),
                                ),
                              ),
                            ),
                          ),
                        ),
                      ),
                    ),
                  ),
                ),
              ),
            ),
          ),
        ),
      ) k 0 lt;
      times = λ k lt. let t = times k in omega (arith, t);
      places = λ k lt. pieces place_words (256 ^ 4) p.places.items (each_place p.places.items places) (omega arith) k;
      ratios = λ k lt. pieces ratio_words (256 ^ 4) p.ratio_cuts.items (each_ratio p.ratio_cuts.items ratios) (omega arith) k;
      states = λ k lt. pieces (state_words p) (256 ^ 4) (below (length p.phases.items)) (each_state p (below (length p.phases.items)) states) (omega arith) k;
      members = λ k lt. let t = members k in omega (arith, t);
      rows = λ k lt. let t = rows k in omega (arith, t);
      sets = sets;
      entries = entries;
    }
