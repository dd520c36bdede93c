-- The line on notes of each cause.
use Rattle.std.specs.Prelude.{ℕ, List, [], ◌∷◌, ◌++◌, codes, decimal, Option, Some, None}
use Rattle.wheel_types.specs.declared.channel.Channel.{Channel}
use Rattle.wheel_types.specs.declared.channel.Channel.TheVariants.{Crank, Cam1, Cam2}
use Rattle.wheel_types.specs.declared.fault.WheelFault.{WheelFault}
use Rattle.wheel_types.specs.declared.fault.WheelFault.TheVariants as wheel
use Rattle.wheel_pattern.specs.declared.fault.PatternFault.{PatternFault}
use Rattle.wheel_pattern.specs.declared.fault.PatternFault.TheVariants as pattern
use Rattle.c_tables.specs.declared.fault.TableFault.{TableFault}
use Rattle.c_tables.specs.declared.fault.TableFault.TheVariants as table
use Rattle.wheel_pattern.specs.Keys.{text_of}
use Rattle.capture_core.specs.declared.capture.Column.{Column}
use Rattle.capture_core.specs.declared.capture.Column.TheVariants as column
use Rattle.capture_core.specs.declared.capture.CsvFault.{CsvFault}
use Rattle.capture_core.specs.declared.capture.CsvFault.TheVariants as csv
use Rattle.capture_core.specs.declared.capture.VcdFault.{VcdFault}
use Rattle.capture_core.specs.declared.capture.VcdFault.TheVariants as vcd
use Rattle.image_layout.specs.declared.fault.ImageFault.{ImageFault}
use Rattle.image_layout.specs.declared.fault.ImageFault.TheVariants as image
use Rattle.audit_faults.specs.declared.fault.AuditFault.{AuditFault}
use Rattle.audit_faults.specs.declared.fault.AuditFault.TheVariants as audit
use Rattle.run_ends.specs.declared.cause.Refusal.{Refusal}
use Rattle.run_ends.specs.declared.cause.Refusal.TheVariants as refusal
use Rattle.run_ends.specs.declared.cause.Limit.{Limit}
use Rattle.run_ends.specs.declared.cause.Limit.TheVariants as limit
use Rattle.run_ends.specs.declared.cause.Cause.{Cause}
use Rattle.run_ends.specs.declared.cause.Cause.TheVariants as cause

-- a line of a text, of a text and a word, of a text and a number, and of a text, a word, a text and a number
abbrev pub line : List ℕ → List ℕ
line text = text ++ codes "\n"

abbrev pub line_with : List ℕ → List ℕ → List ℕ
line_with text word = text ++ word ++ codes "\n"

abbrev pub line_at : List ℕ → ℕ → List ℕ
line_at text number = text ++ decimal number ++ codes "\n"

abbrev pub line_with_at : List ℕ → List ℕ → List ℕ → ℕ → List ℕ
line_with_at text word more number = text ++ word ++ more ++ decimal number ++ codes "\n"

-- numbers with a blank between two
abbrev pub numbers_text : List ℕ → List ℕ
numbers_text [] = []
numbers_text (n ∷ []) = decimal n
numbers_text (n ∷ m ∷ rest) = decimal n ++ codes " " ++ numbers_text (m ∷ rest)

-- a channel by its name
abbrev pub channel_text : Channel → List ℕ
channel_text Crank = codes "crank"
channel_text Cam1 = codes "cam1"
channel_text Cam2 = codes "cam2"

-- a column by what it is, whatever name was asked for
abbrev pub column_text : Column → List ℕ
column_text column.Time = codes "time"
column_text column.Crank = codes "crank"
column_text column.Cam1 = codes "cam1"
column_text column.Cam2 = codes "cam2"

-- the rule of a wheel that is broken
abbrev pub wheel_line : WheelFault → List ℕ
wheel_line wheel.Degrees = line (codes "wheel: degrees")
wheel_line wheel.SlotCount = line (codes "wheel: slot count")
wheel_line (wheel.SlotValue at) = line_at (codes "wheel: slot value ") at
wheel_line (wheel.Phasing cam) = line_with (codes "wheel: phasing ") (channel_text cam)
wheel_line wheel.Rpm = line (codes "wheel: rpm")
wheel_line wheel.Ratio = line (codes "wheel: ratio")
wheel_line wheel.NoCrankEdge = line (codes "wheel: no crank edge")

-- why a model is no wheel file
abbrev pub pattern_line : PatternFault → List ℕ
pattern_line pattern.NotToml = line (codes "wheel: not toml")
pattern_line pattern.UnknownKey = line (codes "wheel: unknown key")
pattern_line pattern.BothForms = line (codes "wheel: both forms")
pattern_line (pattern.MissingKey key) = line_with (codes "wheel: missing key ") (text_of key)
pattern_line (pattern.BadValue key) = line_with (codes "wheel: bad value ") (text_of key)
pattern_line (pattern.Wheel fault) = wheel_line fault
pattern_line pattern.Memory = line (codes "want of memory")

-- why a source has no table of the name
abbrev pub table_line : TableFault → List ℕ
table_line table.NoArray = line (codes "table: no array")
table_line table.TwoArrays = line (codes "table: two arrays")
table_line (table.BadText at) = line_at (codes "table: bad text ") at
table_line (table.SlotValue at) = line_at (codes "table: slot value ") at
table_line table.Memory = line (codes "want of memory")

-- the first fault of a capture in CSV
abbrev pub csv_line : CsvFault → List ℕ
csv_line (csv.NoColumn c) = line_with (codes "capture: no column ") (column_text c)
csv_line (csv.TwoColumns c) = line_with (codes "capture: two columns ") (column_text c)
csv_line (csv.ShortRow row) = line_at (codes "capture: short row ") row
csv_line (csv.BadTime row) = line_at (codes "capture: bad time row ") row
csv_line (csv.TimeTooLarge row) = line_at (codes "capture: time too large row ") row
csv_line (csv.TimeTooFine row) = line_at (codes "capture: time too fine row ") row
csv_line (csv.TimeFalls row) = line_at (codes "capture: time falls row ") row
csv_line (csv.BadLevel row c) = line_with_at (codes "capture: bad level ") (column_text c) (codes " row ") row

-- the first fault of a value change dump
abbrev pub vcd_line : VcdFault → List ℕ
vcd_line vcd.NoTimescale = line (codes "capture: no timescale")
vcd_line (vcd.BadToken at) = line_at (codes "capture: bad token byte ") at
vcd_line (vcd.TimeFalls at) = line_at (codes "capture: time falls byte ") at
vcd_line (vcd.TimeTooLarge at) = line_at (codes "capture: time too large byte ") at
vcd_line (vcd.NoSuchSignal channel) = line_with (codes "capture: no signal ") (channel_text channel)
vcd_line (vcd.TwoSignals channel) = line_with (codes "capture: two signals ") (channel_text channel)
vcd_line (vcd.WideSignal channel) = line_with (codes "capture: wide signal ") (channel_text channel)
vcd_line (vcd.Cut at) = line_at (codes "capture: cut byte ") at

-- the first rule of the layout that an image breaks
abbrev pub image_line : ImageFault → List ℕ
image_line image.Magic = line (codes "image: magic")
image_line image.Version = line (codes "image: version")
image_line image.Short = line (codes "image: short")
image_line image.Extra = line (codes "image: extra")
image_line (image.Order section at) = line_with (codes "image: order ") (numbers_text (section ∷ at ∷ []))
image_line (image.Range section at) = line_with (codes "image: range ") (numbers_text (section ∷ at ∷ []))

-- an entry of a state's row, and the state that is due there, or that there is none
abbrev pub mismatch_line : (state letter found : ℕ) → (due : Option ℕ) → List ℕ
mismatch_line state letter found None = line_with (codes "audit: mismatch ") (numbers_text (state ∷ letter ∷ found ∷ []) ++ codes " none")
mismatch_line state letter found (Some due) = line_with (codes "audit: mismatch ") (numbers_text (state ∷ letter ∷ found ∷ due ∷ []))

-- the first difference between an image and the table of its own wheel
abbrev pub audit_line : AuditFault → List ℕ
audit_line audit.TooManyPlaces = line (codes "audit: places")
audit_line (audit.Places at found due) = line_at (codes "audit: place ") at
audit_line (audit.TimeCut at found due) = line_at (codes "audit: time cut ") at
audit_line (audit.RatioCut at found due) = line_at (codes "audit: ratio cut ") at
audit_line (audit.Start word found due) = line_at (codes "audit: start ") word
audit_line (audit.Twice first state) = line_with (codes "audit: twice ") (numbers_text (first ∷ state ∷ []))
audit_line (audit.Kind state found due) = line_at (codes "audit: kind ") state
audit_line (audit.Mismatch state letter found due) = mismatch_line state letter found due
audit_line (audit.Unreached state) = line_at (codes "audit: unreached ") state
audit_line audit.Memory = line (codes "want of memory")

-- the line of a refused input
abbrev pub refusal_line : Refusal → List ℕ
refusal_line (refusal.Wheel no_wheel) = pattern_line no_wheel.fault
refusal_line (refusal.Table no_table) = table_line no_table.fault
refusal_line (refusal.Csv fault) = csv_line fault
refusal_line (refusal.Vcd fault) = vcd_line fault
refusal_line (refusal.Report at) = line_at (codes "report: bad line ") at
refusal_line (refusal.Certificate at) = line_at (codes "certificate: bad line ") at
refusal_line (refusal.Image fault) = image_line fault
refusal_line (refusal.Audit not_sound) = audit_line not_sound.fault
refusal_line (refusal.Stuck gap low high) = line_with (codes "stuck ") (numbers_text (gap ∷ low ∷ high ∷ []))

-- the line of a limit that was passed
abbrev pub limit_line : Limit → List ℕ
limit_line limit.Places = line (codes "limit: places")
limit_line (limit.States most) = line_at (codes "limit: states ") most
limit_line limit.File = line (codes "limit: file")
limit_line limit.Edges = line (codes "limit: edges")

-- the line of a cause
abbrev pub note_of : Cause → List ℕ
note_of cause.Usage = line (codes "usage")
note_of (cause.Refused r) = refusal_line r
note_of (cause.Limit l) = limit_line l
note_of cause.ReadFault = line (codes "read fault")
note_of cause.WriteFault = line (codes "write fault")
note_of cause.Memory = line (codes "want of memory")
