-- A first reading of a certificate's line, which takes more than the grammar has. What it gives is printed again and compared.
use Rattle.std.specs.Prelude.{◌≡◌, ◌++◌, All, ℕ, ◌-◌, ◌^◌, List, Option, Some, None, codes}
use Rattle.wheel_types.specs.declared.place.Place.{Place}
use Rattle.pair_certificate.specs.declared.line.CertKind.{CertKind}
use Rattle.pair_certificate.specs.declared.line.CertKind.TheVariants as kind
use Rattle.pair_certificate.specs.Certificates.{cover_text}
use Rattle.pair_certificate.specs.Reports.{IsPlaceInRange}
use Rattle.pair_certificate.specs.FirstFields.{◌>>=◌, number_at, after_text, place_at}

-- the place at the front, and what follows it
unfoldable pub at_kind : List ℕ → Option (CertKind × List ℕ)
at_kind bytes = do
  a ← place_at bytes
  Some (kind.At a.0, a.1)

-- the two places at the front, and what follows them
unfoldable pub open_kind : List ℕ → Option (CertKind × List ℕ)
open_kind bytes = do
  a ← place_at bytes
  rest ← after_text (codes " ") a.1
  b ← place_at rest
  Some (kind.Open a.0 b.0, b.1)

-- a loss, where these bytes follow its word
abbrev pub kind_by_lost : Option (List ℕ) → Option (CertKind × List ℕ)
kind_by_lost None = None
kind_by_lost (Some rest) = Some (kind.Lost, rest)

-- two places, where these bytes follow their word, and else a loss
abbrev pub kind_by_open : List ℕ → Option (List ℕ) → Option (CertKind × List ℕ)
kind_by_open bytes None = kind_by_lost (after_text (codes "lost") bytes)
kind_by_open bytes (Some rest) = open_kind rest

-- one place, where these bytes follow its word, and else another kind
abbrev pub kind_by_at : List ℕ → Option (List ℕ) → Option (CertKind × List ℕ)
kind_by_at bytes None = kind_by_open bytes (after_text (codes "open ") bytes)
kind_by_at bytes (Some rest) = at_kind rest

-- the kind at the front, and what follows it
unfoldable pub kind_at : List ℕ → Option (CertKind × List ℕ)
kind_at bytes = kind_by_at bytes (after_text (codes "at ") bytes)

-- the index and the kind of a certificate's line, and what follows the colon
unfoldable pub head_at : List ℕ → Option (ℕ × CertKind × List ℕ)
head_at bytes = do
  index ← number_at (2 ^ 64 - 1) bytes
  first ← after_text (codes " ") index.1
  word ← kind_at first
  rest ← after_text (codes " :") word.1
  Some (index.0, word.0, rest)

-- the only cover in range that a text after the colon can be, if it is one
pub record IsOnlyCover (bytes : List ℕ) (cover : List Place) : Type 0 where
  pub range : All IsPlaceInRange cover
  pub only : (ps : List Place) → All IsPlaceInRange ps → bytes ≡ cover_text ps ++ codes "\n" → ps ≡ cover

-- a text after the colon that is no cover in range
abbrev pub IsNoCover : List ℕ → Type 0
IsNoCover bytes = (ps : List Place) → All IsPlaceInRange ps → bytes ≡ cover_text ps ++ codes "\n" → ⊥
