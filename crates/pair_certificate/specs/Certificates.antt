-- The lines of a certificate.
use Rattle.std.specs.Prelude.{ℕ, List, [], ◌∷◌, ◌++◌, decimal, codes}
use Rattle.wheel_types.specs.declared.place.Place.{Place}
use Rattle.wheel_types.specs.Texts.{place_text}
use Rattle.pair_certificate.specs.declared.line.CertKind.{CertKind}
use Rattle.pair_certificate.specs.declared.line.CertKind.TheVariants.{At, Open, Lost}
use Rattle.pair_certificate.specs.declared.line.CertLine.{CertLine}

-- what a line says of the position
abbrev pub kind_text : CertKind → List ℕ
kind_text (At a) = codes "at " ++ place_text a
kind_text (Open a b) = codes "open " ++ (place_text a ++ (codes " " ++ place_text b))
kind_text Lost = codes "lost"

-- the places of a cover, a space before each
abbrev pub cover_text : List Place → List ℕ
cover_text [] = []
cover_text (p ∷ ps) = codes " " ++ (place_text p ++ cover_text ps)

-- the line of a certificate's record
abbrev pub cert_line_text : CertLine → List ℕ
cert_line_text c = decimal c.index ++ (codes " " ++ (kind_text c.kind ++ (codes " :" ++ (cover_text c.cover ++ codes "\n"))))
