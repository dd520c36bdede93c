-- The rules of a certificate at one instant, in the order in which they are tested.
use Rattle.std.specs.Prelude.{ℕ, ◌≡◌, ◌≢◌, ◌<◌, ◌↔◌, ⊤, List, [], ◌∷◌, slice_index, All, Contains}
use Rattle.wheel_types.specs.declared.channel.Channel.TheVariants.{Crank}
use Rattle.wheel_types.specs.declared.place.Place.{Place}
use Rattle.wheel_types.specs.declared.instant.Instant.{Instant}
use Rattle.wheel_types.specs.declared.parts.WheelParts.{WheelParts}
use Rattle.wheel_types.specs.declared.verdict.Verdict.{Verdict}
use Rattle.wheel_types.specs.declared.verdict.Verdict.TheVariants.{At, Open, Lost}
use Rattle.wheel_types.specs.Shapes.{shape_number}
use Rattle.wheel_types.specs.Edges.{edge_count, edge_slots}
use Rattle.wheel_types.specs.Verdicts.{IsLeast}
use Rattle.cam_ranges.specs.Places.{IsPlace, IsAscending}
use Rattle.wheel_types.specs.declared.verdict.Report.{Report}
use Rattle.pair_certificate.specs.declared.line.CertLine.{CertLine}
use Rattle.pair_certificate.specs.declared.line.CertKind.{CertKind}
use Rattle.pair_certificate.specs.declared.line.CertKind.TheVariants as kind
use Rattle.certificate_checker.specs.Situations.{ComesTo, BeginsAt, IsWalk}

-- the report's line has the instant's number, time and shape
pub record HasReportLine (n : ℕ) (i : Instant) (r : Report) : Type 0 where
  pub index : r.index ≡ n
  pub time : r.time ≡ i.time
  pub shape : r.shape ≡ shape_number i.crank i.cam1 i.cam2

-- a line of a certificate is of the kind of the verdict
abbrev pub IsOfKind : Verdict → CertKind → Type 0
IsOfKind (At j slot) (kind.At a) = ⊤
IsOfKind (Open x y) (kind.Open a b) = ⊤
IsOfKind Lost kind.Lost = ⊤
IsOfKind (At j slot) (kind.Open a b) = ⊥
IsOfKind (At j slot) kind.Lost = ⊥
IsOfKind (Open x y) (kind.At a) = ⊥
IsOfKind (Open x y) kind.Lost = ⊥
IsOfKind Lost (kind.At a) = ⊥
IsOfKind Lost (kind.Open a b) = ⊥

-- the certificate's line has the instant's number and the report's kind of verdict
pub record HasCertLine (n : ℕ) (r : Report) (c : CertLine) : Type 0 where
  pub index : c.index ≡ n
  pub kind : IsOfKind r.verdict c.kind

-- the cover strictly ascends, and each of its places stands
pub record HasCover (w : WheelParts) (cover : List Place) : Type 0 where
  pub ascend : IsAscending cover
  pub stand : All (IsPlace w) cover

-- where the verdict is a loss, nothing comes to a place; else the cover holds every place that is come to
abbrev pub HoldsSteps : WheelParts → List Instant → List Place → Instant → Verdict → List Place → Type 0
HoldsSteps w before reached i (At j slot) cover = (q : Place) → ComesTo w before reached i q → Contains cover q
HoldsSteps w before reached i (Open x y) cover = (q : Place) → ComesTo w before reached i q → Contains cover q
HoldsSteps w before reached i Lost cover = (q : Place) → ComesTo w before reached i q → ⊥

-- where the verdict names a position, the cover has no other, and the slot is that of its edge
abbrev pub HoldsPosition : WheelParts → Verdict → List Place → Type 0
HoldsPosition w (At j slot) cover =
    All (λ (p : Place). p.j ≡ j) cover × ((j < edge_count w Crank) × (slot ≡ slice_index (edge_slots w Crank) j))
HoldsPosition w (Open x y) cover = ⊤
HoldsPosition w Lost cover = ⊤

-- the place begins a walk over the window's instants up to this one
abbrev pub IsStart : WheelParts → List Instant → Place → Type 0
IsStart w since a = (e : Place) × IsWalk w since a e

-- the places that the line names begin walks
abbrev pub HoldsStarts : WheelParts → List Instant → CertKind → Type 0
HoldsStarts w since (kind.At a) = IsStart w since a
HoldsStarts w since (kind.Open a b) = IsStart w since a × IsStart w since b
HoldsStarts w since kind.Lost = ⊤

-- one walk ends at the least place of the cover, and the other at the least one at another position
pub record EndsLeast (w : WheelParts) (since : List Instant) (cover : List Place) (a b : Place) : Type 0 where
  pub first : Place
  pub second : Place
  pub walks : IsWalk w since a first
  pub others : IsWalk w since b second
  pub least : IsLeast (Contains cover) first
  pub next : IsLeast (λ p. Contains cover p × (p.j ≢ first.j)) second

-- where the verdict is open, the report names the line's places, and their walks end at the least places
abbrev pub HoldsLeastEnds : WheelParts → List Instant → Verdict → CertKind → List Place → Type 0
HoldsLeastEnds w since (Open x y) (kind.Open a b) cover = (x ≡ a) × ((y ≡ b) × EndsLeast w since cover a b)
HoldsLeastEnds w since (Open x y) (kind.At a) cover = ⊤
HoldsLeastEnds w since (Open x y) kind.Lost cover = ⊤
HoldsLeastEnds w since (At j slot) k cover = ⊤
HoldsLeastEnds w since Lost k cover = ⊤

-- a cover that begins a window holds every place that the instant alone comes to, and is empty exactly where there is none
pub record HoldsFresh (w : WheelParts) (i : Instant) (cover : List Place) : Type 0 where
  pub steps : (q : Place) → BeginsAt w i q → Contains cover q
  pub empty : (cover ≡ []) ↔ ((q : Place) → BeginsAt w i q → ⊥)

-- the cover of a loss: empty where the window began with this instant, else one that begins the next window
abbrev pub HoldsAfterLoss : WheelParts → Instant → List Instant → List Place → Type 0
HoldsAfterLoss w i [] cover = cover ≡ []
HoldsAfterLoss w i (h ∷ before) cover = HoldsFresh w i cover

-- where the verdict is a loss, the cover is one of a loss
abbrev pub HoldsLoss : WheelParts → Instant → List Instant → Verdict → List Place → Type 0
HoldsLoss w i before (At j slot) cover = ⊤
HoldsLoss w i before (Open x y) cover = ⊤
HoldsLoss w i before Lost cover = HoldsAfterLoss w i before cover
