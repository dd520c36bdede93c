-- The polarity of a next edge.
use Rattle.std.proofs.Common.{◌≡◌, ◌<◌, ◌↔◌, ℤ, pos, Bool, ℕ, sym, ◌∙◌, ap}
use Rattle.std.proofs.Math.Nat.{mod-eq_of_lt}
use Rattle.std.specs.Prelude.{IsTrue, slice_index, unsigned_abs}
use Rattle.std.specs.Int.{int_rem_euclid}
use Rattle.wheel_types.specs.declared.channel.Channel.{Channel}
use Rattle.wheel_types.specs.declared.channel.Pol.{Pol}
use Rattle.wheel_types.specs.declared.place.Place.{Place}
use Rattle.wheel_types.specs.declared.parts.WheelParts.{WheelParts}
use Rattle.wheel_types.specs.Edges.{edge_count, edge_slots, level_of, pol_of, pol_to, number_of}
use Rattle.wheel_types.specs.Motions.{index_of}
use Rattle.wheel_types.specs.Steps.{indices_of}
use Rattle.wheel_types.proofs.Unrolled.{number_below}
use Rattle.legal_steps.specs.Passes.{IsNextEdge}

-- an edge has the polarity of its number within the cycle
pol_of-number : (w : WheelParts) (c : Channel) (m : ℤ) → 0 < edge_count w c → pol_of w c (pos (number_of (edge_count w c) m)) ≡ pol_of w c m
pol_of-number w c m some = ap (λ r. pol_to (level_of w c (slice_index (edge_slots w c) r))) (mod-eq_of_lt (number_below (edge_count w c) m some))

number_by : (m i k part rest : ℤ) (count : ℕ) → i ≡ m → k ≡ pos count → rest ≡ int_rem_euclid i k → part ≡ rest → unsigned_abs part ≡ number_of count m
number_by m i k part rest count e f g h = rw (h, g, e, f)

-- what is read at the number of the next edge
pub next_by : (w : WheelParts) (p : Place) (c : Channel) (pol seen : Pol) (r : Bool) (i k part rest : ℤ) → 0 < edge_count w c → i ≡ index_of (indices_of p) c → k ≡ pos (edge_count w c) → rest ≡ int_rem_euclid i k → part ≡ rest → seen ≡ pol_of w c (pos (unsigned_abs part)) → IsTrue r ↔ (seen ≡ pol) → IsTrue r ↔ IsNextEdge w p c pol
next_by w p c pol seen r i k part rest some e f g h at same =
    let m = index_of (indices_of p) c in
    let number = number_by m i k part rest (edge_count w c) e f g h in
    let here : seen ≡ pol_of w c m = at ∙ ap (λ n. pol_of w c (pos n)) number ∙ pol_of-number w c m some in
    (λ t. record { present = some; polarity = sym here ∙ same.0 t }, λ n. same.1 (here ∙ n.polarity))
