-- An image holds a wheel.
use Rattle.std.proofs.Common.{◌≡◌, ℕ, ◌+◌, ◌<◌, ◌≤◌, List, length, take, drop, get_or, ◌∙◌, arith, inl, inr, eq-eqb}
use Rattle.std.specs.Prelude.{All}
use Rattle.std.proofs.lemmas.Bool.{or_left, or_right}
use Rattle.std.proofs.lemmas.List.{get_or-take, get_or-drop, length-take, length-drop, get_or_default}
use Rattle.wheel_types.specs.Wheels.{IsWheel}
use Rattle.image_layout.specs.Layout.{slot_total, image_end}
use Rattle.image_layout.specs.Fields.{wheel_parts_of, slot_at}
use Rattle.image_layout.specs.Rules.{IsImage}
use Rattle.image_layout.proofs.Images.{no_fault}
use Rattle.image_format.proofs.Tables.{layout_tells}

slots_long : (b : List ℕ) → length b ≡ image_end b → length (take (slot_total b) (drop 72 b)) ≡ slot_total b
slots_long b whole = rw (length-take, length-drop) (omega (arith, whole))

slot_values : (b : List ℕ) → length b ≡ image_end b → ((k : ℕ) → k < slot_total b → slot_at b k ≤ 7) → All (λ v. v < 8) (take (slot_total b) (drop 72 b))
slot_values b whole h k d lt =
    let size = slots_long b whole in
    let within : k < slot_total b = omega (arith, lt, size) in
    let low = h k within in
    let place : get_or (take (slot_total b) (drop 72 b)) k d ≡ get_or b (72 + k) 0 = get_or-take (slot_total b) (drop 72 b) k d within ∙ get_or-drop 72 b k d ∙ get_or_default b (72 + k) d 0 (omega (arith, whole, within)) in
    omega (arith, place, low)

pub is_wheel : (b : List ℕ) → IsImage b → IsWheel (wheel_parts_of b)
is_wheel b h =
    let layout = layout_tells b (no_fault _ h) in
    let header = layout.header in
    let size = slots_long b header.whole in
    let total = header.counts.slots in
    record {
      degrees = elim header.degrees [ inl a ↦ or_left _ _ (eq-eqb _ _ a) | inr a ↦ or_right _ _ (eq-eqb _ _ a) ];
      slots = rw size total;
      values = slot_values b header.whole layout.slots.values;
      cam1 = header.phasing1;
      cam2 = header.phasing2;
      rpm = header.rpm;
      ratio = header.ratio;
      crank_edge = layout.slots.crank_edge;
    }
