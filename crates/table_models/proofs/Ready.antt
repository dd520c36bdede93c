-- A model's file gives one wheel, and an accepted one no cause to end.
use Rattle.std.proofs.Common.{◌≡◌, ℕ, inl, inr, List, Option, None, Some, sym, ◌∙◌, ap, subst}
use Rattle.std.specs.Prelude.{is_some}
use Rattle.wheel_types.specs.declared.parts.WheelParts.{WheelParts}
use Rattle.wheel_types.specs.Wheels.{IsWheel}
use Rattle.wheel_pattern.specs.WheelFile.{MeansWheel}
use Rattle.wheel_pattern.proofs.OneMeaning.{one_wheel, not_both}
use Rattle.cam_ranges.specs.Places.{HasTooMany}
use Rattle.image_layout.specs.declared.fault.ImageFault.{ImageFault}
use Rattle.image_layout.specs.Rules.{first_fault}
use Rattle.image_layout.specs.Fields.{wheel_parts_of}
use Rattle.image_format.proofs.Tables.{layout_from}
use Rattle.image_format.proofs.Wheels.{is_wheel}
use Rattle.table_images.specs.Images.{IsCompiled, IsSoundImage, table_of}
use Rattle.position_nfa.specs.Sound.{AreSound}
use Rattle.run_ends.specs.declared.cause.Cause.{Cause}
use Rattle.run_ends.specs.declared.cause.Cause.TheVariants as cause
use Rattle.run_ends.specs.declared.cause.Refusal.TheVariants as refusal
use Rattle.run_ends.specs.declared.cause.Limit.TheVariants as limit
use Rattle.run_files.proofs.Ready.{same_bytes, file_gives_none}
use Rattle.table_commands.specs.States.{HasFewStates, given_limit}
use Rattle.table_commands.proofs.OneFamily.{family_gives_none}
use Rattle.compile_command.proofs.Compiling.{few_states}
use Rattle.image_commands.specs.Images.{LayoutGives}
use Rattle.image_commands.proofs.Ready.{audit_gives_none}
use Rattle.table_models.specs.Models.{GivesImage, HasModelImage, NotWheelGives, NoImageGives, BytesGive, TableGives, NotSoundGives, MeansModel, HasModel}

-- the compiled image of a wheel is sound
compiled_sound : (w : WheelParts) (b : List ℕ) → IsCompiled w given_limit b → IsSoundImage b
compiled_sound w b c = record {
  layout = c.layout;
  sound = subst (λ u. AreSound u (table_of b)) (sym c.wheel) (c.alphabet, (c.of_wheel, c.sound));
}

-- bytes that give a sound image are a model of its wheel
means_model : (bytes image : List ℕ) → GivesImage bytes image → IsSoundImage image → MeansModel bytes (wheel_parts_of image)
means_model bytes image (inl (begins, same)) sound = inl (begins, (subst IsSoundImage same sound, ap wheel_parts_of (sym same)))
means_model bytes image (inr (w, (file, compiled))) sound =
    subst (MeansModel bytes) (sym compiled.wheel) (inr (file, few_states w image compiled))

-- so the file is one
pub has_model : (file : List ℕ → Option (List ℕ)) (name image : List ℕ) → HasModelImage file name image → IsSoundImage image → HasModel file name (wheel_parts_of image)
has_model file name image t sound = record { bytes = t.bytes; holds = t.holds; model = means_model t.bytes image t.gives sound }

-- the image that a model's bytes give is sound, and holds the model's wheel
pub record IsOwnImage (image : List ℕ) (w : WheelParts) : Type 0 where
  pub sound : IsSoundImage image
  pub wheel : wheel_parts_of image ≡ w

own_image : (bytes image : List ℕ) (w : WheelParts) → MeansModel bytes w → GivesImage bytes image → IsOwnImage image w
own_image bytes image w (inl (begins, (sound, wheel))) (inl (too, same)) = record { sound = subst IsSoundImage (sym same) sound; wheel = ap wheel_parts_of same ∙ wheel }
own_image bytes image w (inl (begins, m)) (inr (v, (f, compiled))) = absurd (f.other begins)
own_image bytes image w (inr (f, few)) (inl (begins, same)) = absurd (f.other begins)
own_image bytes image w (inr (f, few)) (inr (v, (g, compiled))) = record { sound = compiled_sound v image compiled; wheel = compiled.wheel ∙ one_wheel bytes v w g.means f.means }

pub table_is_own : (file : List ℕ → Option (List ℕ)) (name image : List ℕ) (w : WheelParts) → HasModel file name w → HasModelImage file name image → IsOwnImage image w
table_is_own file name image w h t =
    own_image t.bytes image w (subst (λ b. MeansModel b w) (same_bytes file name h.bytes t.bytes h.holds t.holds) h.model) t.gives

-- a model has one wheel
pub one_model : (bytes : List ℕ) (v w : WheelParts) → MeansModel bytes v → MeansModel bytes w → v ≡ w
one_model bytes v w (inl (begins, (sound, is))) (inl (too, (s, was))) = sym is ∙ was
one_model bytes v w (inl (begins, m)) (inr (f, few)) = absurd (f.other begins)
one_model bytes v w (inr (f, few)) (inl (begins, m)) = absurd (f.other begins)
one_model bytes v w (inr (f, few)) (inr (g, too)) = one_wheel bytes v w f.means g.means

pub model_is_wheel : (bytes : List ℕ) (w : WheelParts) → MeansModel bytes w → IsWheel w
model_is_wheel bytes w (inl (begins, (sound, is))) = subst IsWheel is (is_wheel bytes (ap is_some (layout_from bytes sound.layout)))
model_is_wheel bytes w (inr (f, few)) = f.means.wheel

pub file_has_one_model : (file : List ℕ → Option (List ℕ)) (name : List ℕ) (v w : WheelParts) → HasModel file name v → HasModel file name w → v ≡ w
file_has_one_model file name v w h k = one_model k.bytes v w (subst (λ b. MeansModel b v) (same_bytes file name h.bytes k.bytes h.holds k.holds) h.model) k.model

-- ---- an accepted model gives no cause

no_image_gives_none : (w : WheelParts) → ¬ HasTooMany w → HasFewStates w → (e : Cause) → NoImageGives w e → ⊥
no_image_gives_none w few states (cause.Limit limit.Places) many = few many
no_image_gives_none w few states (cause.Limit (limit.States most)) (f, many) = family_gives_none w states (cause.Limit (limit.States most)) many
no_image_gives_none w few states (cause.Limit limit.File) g = g
no_image_gives_none w few states (cause.Limit limit.Edges) g = g
no_image_gives_none w few states (cause.Refused r) g = g
no_image_gives_none w few states cause.Usage g = g
no_image_gives_none w few states cause.ReadFault g = g
no_image_gives_none w few states cause.WriteFault g = g
no_image_gives_none w few states cause.Memory g = g

wheel_gives_none : (bytes : List ℕ) (w : WheelParts) → MeansWheel bytes w → (e : Cause) → NotWheelGives bytes e → ⊥
wheel_gives_none bytes w m (cause.Refused (refusal.Wheel no_wheel)) f = not_both bytes w no_wheel.fault m f
wheel_gives_none bytes w m (cause.Refused (refusal.Table fault)) g = g
wheel_gives_none bytes w m (cause.Refused (refusal.Csv fault)) g = g
wheel_gives_none bytes w m (cause.Refused (refusal.Vcd fault)) g = g
wheel_gives_none bytes w m (cause.Refused (refusal.Image fault)) g = g
wheel_gives_none bytes w m (cause.Refused (refusal.Audit not_sound)) g = g
wheel_gives_none bytes w m (cause.Refused (refusal.Stuck gap low high)) g = g
wheel_gives_none bytes w m (cause.Refused (refusal.Report at)) g = g
wheel_gives_none bytes w m (cause.Refused (refusal.Certificate at)) g = g
wheel_gives_none bytes w m (cause.Limit l) g = g
wheel_gives_none bytes w m cause.Usage g = g
wheel_gives_none bytes w m cause.ReadFault g = g
wheel_gives_none bytes w m cause.WriteFault g = g
wheel_gives_none bytes w m cause.Memory g = g

bytes_give_none : (bytes : List ℕ) (w : WheelParts) → MeansModel bytes w → (e : Cause) → BytesGive bytes e → ⊥
bytes_give_none bytes w (inl (begins, m)) e (other, g) = other begins
bytes_give_none bytes w (inr (f, few)) e (other, inl g) = wheel_gives_none bytes w f.means e g
bytes_give_none bytes w (inr (f, few)) e (other, inr (v, (means, g))) =
    no_image_gives_none w f.few few e (subst (λ u. NoImageGives u e) (one_wheel bytes v w means f.means) g)

pub table_gives_none : (file : List ℕ → Option (List ℕ)) (name : List ℕ) (w : WheelParts) → HasModel file name w → (e : Cause) → TableGives file name e → ⊥
table_gives_none file name w h e (inl g) = file_gives_none file name h.bytes h.holds e g
table_gives_none file name w h e (inr (bytes, (holds, g))) =
    bytes_give_none bytes w (subst (λ b. MeansModel b w) (same_bytes file name h.bytes bytes h.holds holds) h.model) e g

layout_gives_none : (b : List ℕ) → first_fault b ≡ None → (e : Cause) → LayoutGives b e → ⊥
layout_gives_none b none (cause.Refused (refusal.Image fault)) broken = let both : ◌≡◌ {A = Option ImageFault} None (Some fault) = sym none ∙ broken in absurd (cc)
layout_gives_none b none (cause.Refused (refusal.Wheel no_wheel)) g = g
layout_gives_none b none (cause.Refused (refusal.Table no_table)) g = g
layout_gives_none b none (cause.Refused (refusal.Csv fault)) g = g
layout_gives_none b none (cause.Refused (refusal.Vcd fault)) g = g
layout_gives_none b none (cause.Refused (refusal.Report at)) g = g
layout_gives_none b none (cause.Refused (refusal.Certificate at)) g = g
layout_gives_none b none (cause.Refused (refusal.Audit fault)) g = g
layout_gives_none b none (cause.Refused (refusal.Stuck gap low high)) g = g
layout_gives_none b none (cause.Limit l) g = g
layout_gives_none b none cause.Usage g = g
layout_gives_none b none cause.ReadFault g = g
layout_gives_none b none cause.WriteFault g = g
layout_gives_none b none cause.Memory g = g

pub sound_gives_none : (b : List ℕ) → IsSoundImage b → (e : Cause) → NotSoundGives b e → ⊥
sound_gives_none b sound e (inl g) = layout_gives_none b (layout_from b sound.layout) e g
sound_gives_none b sound e (inr g) = audit_gives_none b sound e g
