-- The lines of a report.
use Rattle.std.specs.Prelude.{ℕ, ◌+◌, ◌/◌, ◌%◌, List, [], ◌∷◌, ◌++◌, Option, Some, None, decimal, codes}
use Rattle.std.specs.Fmt.{signed_decimal}
use Rattle.wheel_types.specs.declared.channel.Pol.{Pol}
use Rattle.wheel_types.specs.declared.channel.Pol.TheVariants.{Rise, Fall}
use Rattle.wheel_types.specs.declared.place.Place.{Place}
use Rattle.wheel_types.specs.declared.instant.Instant.{Instant}
use Rattle.wheel_types.specs.declared.verdict.Verdict.{Verdict}
use Rattle.wheel_types.specs.declared.verdict.Verdict.TheVariants.{At, Open, Lost}
use Rattle.wheel_types.specs.declared.verdict.Report.{Report}
use Rattle.wheel_types.specs.Shapes.{edge_of}

-- an edge of the channel of this name: a plus where it rises, a minus where it falls
abbrev pub change_text : List ℕ → Option Pol → List ℕ
change_text name None = []
change_text name (Some Rise) = name ++ codes "+"
change_text name (Some Fall) = name ++ codes "-"

-- the edges of an instant: crank, first cam, second cam
abbrev pub shape_text : Instant → List ℕ
shape_text i = change_text (codes "C") i.crank ++ (change_text (codes "1") i.cam1 ++ change_text (codes "2") i.cam2)

-- the edges of the shape of this number, whose digits to the base 3 are those of crank, first cam and second cam
abbrev pub shape_text_of : ℕ → List ℕ
shape_text_of n = change_text (codes "C") (edge_of (n % 3)) ++ (change_text (codes "1") (edge_of (n / 3 % 3)) ++ change_text (codes "2") (edge_of (n / 9)))

-- a place: the last crank edge and the next edges of the cams
abbrev pub place_text : Place → List ℕ
place_text p = decimal p.j ++ (codes ":" ++ (signed_decimal p.n1 ++ (codes ":" ++ signed_decimal p.n2)))

-- what a line says of the position
abbrev pub verdict_text : Verdict → List ℕ
verdict_text (At j slot) = codes "at " ++ (decimal j ++ (codes " slot " ++ decimal slot))
verdict_text (Open a b) = codes "open " ++ (place_text a ++ (codes " " ++ place_text b))
verdict_text Lost = codes "lost"

-- the line of the instant of this index with this verdict
abbrev pub line_text : ℕ → Instant → Verdict → List ℕ
line_text index i v = decimal index ++ (codes " " ++ (signed_decimal i.time ++ (codes " " ++ (shape_text i ++ (codes " " ++ (verdict_text v ++ codes "\n"))))))

-- the line of a report's record
abbrev pub report_line_text : Report → List ℕ
report_line_text r = decimal r.index ++ (codes " " ++ (signed_decimal r.time ++ (codes " " ++ (shape_text_of r.shape ++ (codes " " ++ (verdict_text r.verdict ++ codes "\n"))))))

-- the lines of instants and their verdicts, in order, the first of them having this index
abbrev pub report_text : ℕ → List Instant → List Verdict → List ℕ
report_text index [] vs = []
report_text index (i ∷ is) [] = []
report_text index (i ∷ is) (v ∷ vs) = line_text index i v ++ report_text (index + 1) is vs
