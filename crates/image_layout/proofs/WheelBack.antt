-- The wheel that an image's bytes hold is that of its parts.
use Rattle.std.proofs.Common.{◌≡◌, ℕ, ◌+◌, ◌*◌, ◌/◌, ◌%◌, ◌<◌, ◌++◌, length, take, drop, refl, ap, ◌∙◌, arith}
use Rattle.std.proofs.lemmas.List.{drop_at, take_at}
use Rattle.wheel_types.specs.declared.channel.Keep.{Keep}
use Rattle.wheel_types.specs.declared.channel.Keep.TheVariants.{Rising, Falling, Both}
use Rattle.image_layout.specs.declared.parts.ImageParts.{ImageParts}
use Rattle.image_layout.specs.Layout.{word_at, slot_total}
use Rattle.image_layout.specs.Fields.{keep_for, kept_at, wheel_parts_of}
use Rattle.image_layout.specs.Parts.{keep_code, image_bytes}
use Rattle.image_layout.proofs.ReadBack.{Fit, header_at, head, head_long, parted, slot_total_is, after_slots}

code_low : (k : Keep) → keep_code k < 4
code_low Rising = omega arith
code_low Falling = omega arith
code_low Both = omega arith

code_back : (k : Keep) → keep_for (keep_code k) ≡ k
code_back Rising = refl
code_back Falling = refl
code_back Both = refl

digit1 : (x y z : ℕ) → x < 4 → (x + 4 * y + 16 * z) / 1 % 4 ≡ x
digit1 x y z h = omega arith

digit2 : (x y z : ℕ) → x < 4 → y < 4 → (x + 4 * y + 16 * z) / 4 % 4 ≡ y
digit2 x y z h k = omega arith

digit3 : (x y z : ℕ) → x < 4 → y < 4 → z < 4 → (x + 4 * y + 16 * z) / 16 % 4 ≡ z
digit3 x y z h k l = omega arith

module _ (p : ImageParts) (h : Fit p) where
  word36 : word_at (image_bytes p) 36 ≡ keep_code p.wheel.crank + 4 * keep_code p.wheel.cam1 + 16 * keep_code p.wheel.cam2
  word36 = header_at p 9 (omega arith) h.header

  pub crank_is : keep_for (kept_at (image_bytes p) 1) ≡ p.wheel.crank
  crank_is = ap keep_for (ap (λ (x : ℕ). x / 1 % 4) word36 ∙ digit1 (keep_code p.wheel.crank) (keep_code p.wheel.cam1) (keep_code p.wheel.cam2) (code_low p.wheel.crank)) ∙ code_back p.wheel.crank

  pub cam1_is : keep_for (kept_at (image_bytes p) 4) ≡ p.wheel.cam1
  cam1_is = ap keep_for (ap (λ (x : ℕ). x / 4 % 4) word36 ∙ digit2 (keep_code p.wheel.crank) (keep_code p.wheel.cam1) (keep_code p.wheel.cam2) (code_low p.wheel.crank) (code_low p.wheel.cam1)) ∙ code_back p.wheel.cam1

  pub cam2_is : keep_for (kept_at (image_bytes p) 16) ≡ p.wheel.cam2
  cam2_is = ap keep_for (ap (λ (x : ℕ). x / 16 % 4) word36 ∙ digit3 (keep_code p.wheel.crank) (keep_code p.wheel.cam1) (keep_code p.wheel.cam2) (code_low p.wheel.crank) (code_low p.wheel.cam1) (code_low p.wheel.cam2)) ∙ code_back p.wheel.cam2

  pub slots_are : take (slot_total (image_bytes p)) (drop 72 (image_bytes p)) ≡ p.wheel.slots
  slots_are =
      let dropped : drop 72 (image_bytes p) ≡ p.wheel.slots ++ after_slots p = ap (drop 72) (parted p) ∙ drop_at (head p) (p.wheel.slots ++ after_slots p) 72 (head_long p) in
      rw (slot_total_is p h, dropped) (take_at p.wheel.slots (after_slots p) (length p.wheel.slots) refl)

  pub wheel_is : wheel_parts_of (image_bytes p) ≡ p.wheel
  wheel_is =
      rw (
        slots_are,
        crank_is,
        cam1_is,
        cam2_is,
        header_at p 8 (omega arith) h.header,
        header_at p 10 (omega arith) h.header,
        header_at p 11 (omega arith) h.header,
        header_at p 12 (omega arith) h.header,
        header_at p 13 (omega arith) h.header,
        header_at p 14 (omega arith) h.header,
        header_at p 15 (omega arith) h.header,
        header_at p 16 (omega arith) h.header,
        header_at p 17 (omega arith) h.header,
      ) refl
