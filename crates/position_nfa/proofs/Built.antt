-- The places that an automaton is made with.
use Rattle.std.proofs.Common.{◌≡◌, ℕ, ◌+◌, ◌*◌, ◌≤◌, ◌∙◌, List, length, get_or, sym, ap, subst, ◌↔◌, arith}
use Rattle.std.specs.Prelude.{All, Contains}
use Rattle.std.proofs.lemmas.List.Elements.{Contains-get_or}
use Rattle.wheel_types.specs.declared.place.Place.{Place}
use Rattle.wheel_types.specs.declared.parts.WheelParts.{WheelParts}
use Rattle.wheel_types.specs.Wheels.{IsWheel}
use Rattle.gap_thresholds.specs.declared.cuts.Cuts.{Cuts}
use Rattle.gap_thresholds.specs.Classes.{AreCutsOf, wheel_of, times_of, ratios_of}
use Rattle.cam_ranges.specs.Places.{IsPlace, IsAscending}
use Rattle.cam_ranges.proofs.SomePlace.{some_place}
use Rattle.position_nfa.specs.declared.walks.Walks.{Walks}
use Rattle.position_nfa.specs.Alphabets.{IsAlphabetOf}
use Rattle.position_nfa.specs.BitTables.{IsBitTable}
use Rattle.position_nfa.specs.Sets.{keeps_time, keeps_ratio}
use Rattle.position_nfa.specs.Tables.{AreTables, AreAllWalks}
use Rattle.position_nfa.proofs.SamePlaces.{distinct}

pub all_are : (w v : WheelParts) (xs ys : List Place) → ys ≡ xs → v ≡ w → ((p : Place) → Contains xs p ↔ IsPlace w p) → (p : Place) → Contains ys p ↔ IsPlace v p
all_are w v xs ys e f h = subst (λ u. (p : Place) → Contains ys p ↔ IsPlace u p) (sym f) (subst (λ l. (p : Place) → Contains l p ↔ IsPlace w p) (sym e) h)

pub each_is : (w v : WheelParts) (xs ys : List Place) → ys ≡ xs → v ≡ w → ((p : Place) → Contains xs p ↔ IsPlace w p) → All (IsPlace v) ys
each_is w v xs ys e f h = let same = all_are w v xs ys e f h in λ k d b. (same (get_or ys k d)).0 (Contains-get_or ys k d b)

pub made_alphabet : (w : WheelParts) (xs ys : List Place) (cuts : Cuts) → ys ≡ xs → AreCutsOf w cuts → IsAscending xs → ((p : Place) → Contains xs p ↔ IsPlace w p) → IsAlphabetOf w (record { places = ys; cuts = cuts })
made_alphabet w xs ys cuts e are ascend all = record { cuts = are; ascend = subst IsAscending (sym e) ascend; places = subst (λ l. (p : Place) → Contains l p ↔ IsPlace w p) (sym e) all }

pub made_tables : (w v : WheelParts) (xs ys first second third : List Place) (cuts : Cuts) (tm tv rm rv : List ℕ) (ws wv : List Walks)
    → ys ≡ xs → first ≡ xs → second ≡ xs → third ≡ xs → tv ≡ tm → rv ≡ rm → wv ≡ ws → v ≡ w
    → AreCutsOf w cuts → IsAscending xs → 1 ≤ length xs → length xs ≤ 16384 → length (times_of cuts) ≤ 8192 → length (ratios_of cuts) ≤ 8192
    → IsBitTable (length first) (length (times_of cuts) + 1) (keeps_time (record { places = first; cuts = cuts })) tm
    → IsBitTable (length second) (2 * length (ratios_of cuts) + 1) (keeps_ratio (record { places = second; cuts = cuts })) rm
    → length ws ≡ 26 → AreAllWalks v third ws → AreTables (record { places = ys; cuts = cuts }) tv rv wv
made_tables w v xs ys first second third cuts tm tv rm rv ws wv ey e1 e2 e3 et er ew ewheel are ascend some few few_times few_ratios times ratios shapes moves =
    let up : IsAscending ys = subst IsAscending (sym ey) ascend in
    let len : length ys ≡ length xs = ap length ey in
    let T : List Place → List ℕ → Type 0 = λ l t. IsBitTable (length l) (length (times_of cuts) + 1) (keeps_time (record { places = l; cuts = cuts })) t in
    let R : List Place → List ℕ → Type 0 = λ l t. IsBitTable (length l) (2 * length (ratios_of cuts) + 1) (keeps_ratio (record { places = l; cuts = cuts })) t in
    record {
      some = omega (arith, some, len);
      few = omega (arith, few, len);
      distinct = distinct ys up;
      few_times = omega (arith, few_times);
      few_ratios = omega (arith, few_ratios);
      times = subst (T ys) (sym et) (subst (λ l. T l tm) (e1 ∙ sym ey) times);
      ratios = subst (R ys) (sym er) (subst (λ l. R l rm) (e2 ∙ sym ey) ratios);
      shapes = ap length ew ∙ shapes;
      moves = subst (AreAllWalks (wheel_of cuts) ys) (sym ew) (subst (λ l. AreAllWalks (wheel_of cuts) l ws) (e3 ∙ sym ey) (subst (λ u. AreAllWalks u third ws) (ewheel ∙ sym are.wheel) moves));
    }

-- a wheel has a place, so a list that has all has one
pub some_place_of : (w : WheelParts) (xs : List Place) → IsWheel w → ((p : Place) → Contains xs p ↔ IsPlace w p) → 1 ≤ length xs
some_place_of w xs wheel all =
    let p = some_place w wheel in
    let there : Contains xs p.0 = (all p.0).1 p.1 in
    omega (arith, there.1)
