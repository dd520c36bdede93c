use Rattle.std.proofs.Common.{◌≡◌, ◌*◌, ◌↔◌, ℕ, ℤ, pos, ◌*ℤ◌, ◌≤ℤ◌, w32, w64, to_z, of_z, sym, subst, arith}
use Rattle.std.proofs.lemmas.Int.{ints}
use Rattle.wheel_types.specs.Edges.{slot_of, angle_of}
use Rattle.cam_ranges.proofs.first_edges.first_from.Goals as goal

pub returns-clause-edge : goal.returns-clause-edge
returns-clause-edge c =
    let w = c.args.wheel.now.parts in
    let here : to_z w64 (of_z w64 c.args.angle) ≡ c.args.angle = omega (arith, ints) in
    let slot : to_z w64 (of_z w64 c.slot_from-slot.result) ≡ c.slot_from-slot.result = omega (arith, ints) in
    let back : to_z w32 (of_z w32 c.first_from_slot.result) ≡ c.first_from_slot.result = omega (arith, ints) in
    let units : c.units.result ≡ 1000 * w.degrees = c.units.ensures.value in
    let angles = subst (λ (u : ℕ). (s : ℤ) → c.args.angle ≤ℤ (pos u *ℤ s) ↔ c.slot_from-slot.result ≤ℤ s) units (subst (λ a. (s : ℤ) → a ≤ℤ (pos c.units.result *ℤ s) ↔ c.slot_from-slot.result ≤ℤ s) here c.slot_from-slot.ensures.slot) in
    let edges = subst (λ q. (n : ℤ) → q ≤ℤ slot_of w c.args.channel n ↔ c.first_from_slot.result ≤ℤ n) slot c.first_from_slot.ensures.edge in
    subst (λ r. (n : ℤ) → c.args.angle ≤ℤ angle_of w c.args.channel n ↔ r ≤ℤ n) (sym back) (λ n. (λ h. (edges n).0 ((angles (slot_of w c.args.channel n)).0 h), λ h. (angles (slot_of w c.args.channel n)).1 ((edges n).1 h)))
