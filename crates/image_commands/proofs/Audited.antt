-- The text that is due for a sound image, and when an image is not audited.
use Rattle.std.proofs.Common.{◌≡◌, ℕ, List, ◌++◌, Ok, refl, ◌∙◌, ap, subst}
use Rattle.wheel_types.specs.declared.parts.WheelParts.{WheelParts}
use Rattle.wheel_pattern.specs.WheelFile.{MeansWheel}
use Rattle.image_layout.specs.Fields.{wheel_parts_of}
use Rattle.run_ends.specs.declared.cause.Done.TheVariants.{Whole}
use Rattle.image_commands.specs.Audit.{IsAudited, sound_line}

-- its line, and a file of its wheel
pub text_due : (b text line file : List ℕ) (w : WheelParts) → w ≡ wheel_parts_of b → MeansWheel file w → line ≡ sound_line b → text ≡ line ++ file → IsAudited b text (Ok Whole)
text_due b text line file w own means is joined =
    (file, (subst (MeansWheel file) own means, (joined ∙ ap (λ l. l ++ file) is, refl)))
