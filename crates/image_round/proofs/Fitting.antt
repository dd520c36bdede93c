-- The numbers of parts that keep the rules fit their words.
use Rattle.std.proofs.Common.{◌≡◌, inl, inr, ℕ, zero, suc, ◌+◌, ◌*◌, ◌/◌, ◌%◌, ◌^◌, ◌<◌, ◌≤◌, List, length, get_or, sym, subst, arith}
use Rattle.std.proofs.Math.Nat.{mod-lt}
use Rattle.std.proofs.lemmas.Bool.{cases_lt}
use Rattle.std.proofs.lemmas.Nat.{div-add-mod'}
use Rattle.std.proofs.lemmas.List.{get_or_past, get_or_default}
use Rattle.std.specs.Prelude.{unsigned_abs, pos}
use Rattle.wheel_types.specs.declared.channel.Channel.TheVariants.{Crank}
use Rattle.wheel_types.specs.declared.place.Place.{Place}
use Rattle.wheel_types.specs.Edges.{edge_count}
use Rattle.edge_angles.proofs.Tables.{edge_count-few}
use Rattle.image_layout.specs.declared.kind.Kind.{Kind}
use Rattle.image_layout.specs.declared.kind.Kind.TheVariants.{Dead, At, Open}
use Rattle.image_layout.specs.declared.parts.ImageParts.{ImageParts}
use Rattle.image_layout.specs.Tables.{IsPlace, IsBelow}
use Rattle.image_layout.proofs.ReadBack.{Fit}
use Rattle.image_layout.proofs.RowNumbers.{row_of_below}
use Rattle.table_images.proofs.Fits.{fit, IsSmallKind}
use Rattle.image_round.specs.Parts.{KeepsRules, Says, states_of, width_of, place_of, phase_of, kind_of}

-- numbers below a bound as far as the list goes are below it at every place
within : (xs : List ℕ) (m : ℕ) → 0 < m → ((i : ℕ) → i < length xs → get_or xs i 0 < m) → (i : ℕ) → get_or xs i 0 < m
within xs m some each i = elim (cases_lt i (length xs)) [
  | inl lt ↦ each i lt
  | inr past ↦ subst (λ n. n < m) (sym (get_or_past xs i 0 past)) some
]

abbrev pub no_place : Place
no_place = record { j = 0; n1 = pos 0; n2 = pos 0 }

module _ (p : ImageParts) (k : KeepsRules p) where
  edges_few : edge_count p.wheel Crank ≤ 4096
  edges_few = let le = edge_count-few p.wheel Crank in let most = k.wheel.slots.1 in omega (arith, le, most)

  -- the places, by any default
  pub place_range : (i : ℕ) (d : Place) → i < length p.places.items → IsPlace (edge_count p.wheel Crank) (get_or p.places.items i d)
  place_range i d lt = subst (IsPlace (edge_count p.wheel Crank)) (get_or_default p.places.items i no_place d lt) (k.places.range i lt)

  pub place_ascends : (i : ℕ) (d : Place) → i + 1 < length p.places.items → IsBelow (get_or p.places.items i d) (get_or p.places.items (i + 1) d)
  place_ascends i d lt =
      subst (IsBelow (get_or p.places.items i d)) (get_or_default p.places.items (i + 1) no_place d lt)
      (subst (λ (x : Place). IsBelow x (place_of p (i + 1))) (get_or_default p.places.items i no_place d (omega (arith, lt))) (k.places.ascend i lt))

  places_small : (i : ℕ) (d : Place) → i < length p.places.items → ((get_or p.places.items i d).j < 256 ^ 4) × (unsigned_abs (get_or p.places.items i d).n1 < 1048576) × (unsigned_abs (get_or p.places.items i d).n2 < 1048576)
  places_small i d lt = let r = place_range i d lt in let j = r.0 in (omega (arith, j, edges_few), r.1, r.2)

  ratios_small : (i : ℕ) → i < length p.ratio_cuts.items → ((get_or p.ratio_cuts.items i (0, 0)).0 < 256 ^ 4) × ((get_or p.ratio_cuts.items i (0, 0)).1 < 256 ^ 4)
  ratios_small i lt = let f = k.ratio_cuts.fit i lt in (omega (arith, f.0), omega (arith, f.1))

  -- the phases, state 0 among them
  pub phase_low : (q : ℕ) → q < states_of p → phase_of p q ≤ 5
  phase_low zero lt = let e = k.states.dead.0 in omega (arith, e)
  phase_low (suc q) lt = k.states.phases (suc q) (omega arith) lt

  said_small : (x : Kind) → Says p x → IsSmallKind x
  said_small Dead says = omega arith
  said_small (At j) says = omega (arith, says, edges_few)
  said_small (Open e f) says = let few = k.sizes.small.places in (omega (arith, says.0, says.1, few), omega (arith, says.1, few))

  kind_small : (q : ℕ) → q < states_of p → IsSmallKind (kind_of p q)
  kind_small zero lt = let none : IsSmallKind Dead = omega arith in subst IsSmallKind (sym k.states.dead.1) none
  kind_small (suc q) lt = said_small (kind_of p (suc q)) (k.states.kinds (suc q) (omega arith) lt)

  states_small : (q : ℕ) → (get_or p.phases.items q 0 < 256) × IsSmallKind (get_or p.kinds.items q Dead)
  states_small q = elim (cases_lt q (states_of p)) [
    | inl lt ↦ let low = phase_low q lt in (omega (arith, low), kind_small q lt)
    | inr past ↦
        let none : get_or p.phases.items q 0 ≡ 0 = get_or_past p.phases.items q 0 past in
        let no_kind : get_or p.kinds.items q Dead ≡ Dead = get_or_past p.kinds.items q Dead (let same = k.sizes.small.kinds in omega (arith, past, same)) in
        let dead : IsSmallKind Dead = omega arith in
        (omega (arith, none), subst IsSmallKind (sym no_kind) dead)
  ]

  -- an entry by its number
  row_small : (i : ℕ) → i < length p.rows.items → get_or p.rows.items i 0 < 2 ^ 16
  row_small i lt =
      let wide : 0 < width_of p = omega arith in
      let column : i % width_of p < width_of p = mod-lt i wide in
      let place : i / width_of p * width_of p + i % width_of p ≡ i = div-add-mod' i (width_of p) in
      let all : i < states_of p * width_of p = subst (λ n. i < n) k.sizes.entries lt in
      let there : i / width_of p < states_of p = row_of_below (i / width_of p) (i % width_of p) (width_of p) (states_of p) (subst (λ n. n < states_of p * width_of p) (sym place) all) in
      let state : get_or p.rows.items i 0 < states_of p = subst (λ n. get_or p.rows.items n 0 < states_of p) place (k.rows.range (i / width_of p) (i % width_of p) there column) in
      let few = k.sizes.small.states in
      omega (arith, state, few)

  pub fits : Fit p
  fits =
      fit p k.wheel k.sizes.small
      (within p.time_cuts.items (2 ^ 64) (omega arith) k.time_cuts.fit)
      places_small
      ratios_small
      states_small
      (within p.members.items (2 ^ 64) (omega arith) k.members.fit)
      (within p.rows.items (2 ^ 16) (omega arith) row_small)
      k.sizes.sets
      k.sizes.entries
