-- The command `import`.
use Rattle.std.specs.Prelude.{◌≡◌, ℕ, List, Ok}
use Rattle.shelf_traits.specs.Shelf.{View}
use Rattle.c_tables.specs.Slots.{slots_text}
use Rattle.run_ends.specs.declared.cause.Done.TheVariants.{Whole}
use Rattle.run_ends.specs.Works.{Work, Reads, Writes}
use Rattle.run_files.specs.Causes.{SourceGives}
use Rattle.run_files.specs.Files.{HasTable}

-- The source is read, and has a table of the name; its slots are written as a line of a wheel file.
abbrev pub IsImport : View → (source name : List ℕ) → Work → Type 0
IsImport v source name =
    Reads v source (SourceGives v.file source name) (HasTable v.file source name) (λ slots. Writes (λ text end. (text ≡ slots_text slots) × (end ≡ Ok Whole)))
