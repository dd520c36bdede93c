-- The command `trace`.
use Rattle.std.specs.Prelude.{◌≡◌, ◌++◌, ◌+◌, ℕ, List, [], ◌∷◌, length, codes, decimal, Result, Ok}
use Rattle.std.specs.Fmt.{signed_decimal}
use Rattle.shelf_traits.specs.Shelf.{View}
use Rattle.wheel_types.specs.declared.instant.Instant.{Instant}
use Rattle.wheel_types.specs.Texts.{shape_text}
use Rattle.image_layout.specs.Fields.{wheel_parts_of}
use Rattle.image_format.specs.Walk.{stand_after}
use Rattle.command_words.specs.Options.{Options}
use Rattle.run_ends.specs.declared.cause.Cause.{Cause}
use Rattle.run_ends.specs.declared.cause.Done.{Done}
use Rattle.run_ends.specs.declared.cause.Done.TheVariants.{Whole}
use Rattle.run_ends.specs.Works.{Work, Reads, Writes}
use Rattle.named_captures.specs.Captures.{HasCleanCapture, CleanGives}
use Rattle.image_commands.specs.Images.{HasImage, ImageGives}

-- a line: the number of an instant, its time in femtoseconds, its edges, and a state
abbrev pub state_line : (index : ℕ) → Instant → (state : ℕ) → List ℕ
state_line index i state =
    decimal index ++ (codes " " ++ (signed_decimal i.time ++ (codes " " ++ (shape_text i ++ (codes " state " ++ (decimal state ++ codes "\n"))))))

-- the line of an instant after these, of which the last one stands first: the instants are numbered from 1, and the state is that in
-- which the walk of the table stands after it
abbrev pub trace_line : List ℕ → (past : List Instant) → Instant → List ℕ
trace_line b past i = state_line (length past + 1) i (stand_after b (i ∷ past)).state

-- the lines of instants after these, in order
abbrev pub trace_after : List ℕ → (past : List Instant) → List Instant → List ℕ
trace_after b past [] = []
trace_after b past (i ∷ is) = trace_line b past i ++ trace_after b (i ∷ past) is

-- the lines of all instants, in order
abbrev pub trace_text : List ℕ → List Instant → List ℕ
trace_text b is = trace_after b [] is

-- this text and this end are due for the instants
abbrev pub IsTraced : List ℕ → List Instant → (text : List ℕ) → Result Done Cause → Type 0
IsTraced b is text end = (text ≡ trace_text b is) × (end ≡ Ok Whole)

-- The image is read, and keeps the layout, whatever its table says; the capture is read over its wheel, and ends clean; the line of each
-- instant is written.
abbrev pub IsTrace : View → (image capture : List ℕ) → Options → Work → Type 0
IsTrace v image capture o =
    Reads v image (ImageGives v.file image) (HasImage v.file image)
    (λ b. Reads v capture (CleanGives v.file capture (wheel_parts_of b) o) (HasCleanCapture v.file capture (wheel_parts_of b) o)
    (λ c. Writes (IsTraced b c.instants)))
