-- How the commands end, end by end.
use Rattle.std.proofs.Common.{◌≡◌, ℕ, ◌+◌, ◌≤◌, ◌⊎◌, inl, inr, List, [], ◌∷◌, ◌++◌, length, take, drop, Option, Result, Ok, Err, refl, sym, ◌∙◌, subst, ap, arith, append_assoc, length-append, take-append-drop}
use Rattle.std.proofs.lemmas.List.{take-append-le}
use Rattle.std.proofs.Math.Seq.{take-length}
use Rattle.shelf_traits.specs.Shelf.{View}
use Rattle.wheel_types.specs.declared.parts.WheelParts.{WheelParts}
use Rattle.capture_core.specs.declared.capture.Capture.{Capture}
use Rattle.capture_core.specs.declared.capture.End.{End}
use Rattle.capture_core.specs.declared.capture.End.TheVariants.{Clean, Csv, Vcd}
use Rattle.c_tables.specs.Slots.{slots_text}
use Rattle.command_words.specs.Options.{Options}
use Rattle.run_ends.specs.declared.cause.Done.{Done}
use Rattle.run_ends.specs.declared.cause.Done.TheVariants as done
use Rattle.run_ends.specs.declared.cause.Cause.{Cause}
use Rattle.run_ends.specs.declared.cause.Cause.TheVariants as cause
use Rattle.run_ends.specs.Works.{Work, Told, Judges, Writes, StopsOpen, StopsRead, StopsJudge, StopsWrite}
use Rattle.run_ends.proofs.Outcomes.{reads_out, judges_out, writes_out, hands_out, opens_out, closes_out, takes_out, lines_out}
use Rattle.run_ends.specs.Lines.{MarkedLine, WritesLines, text_of}
use Rattle.run_ends.specs.Stages.{Closes}
use Rattle.run_files.specs.Causes.{FileGives, SourceGives, ended_by}
use Rattle.run_files.specs.Files.{HasTable}
use Rattle.image_layout.specs.Fields.{wheel_parts_of}
use Rattle.table_images.specs.Images.{IsSoundImage}
use Rattle.table_models.specs.Models.{HasModelImage, HasModel, IsNoModel, TableGives, NotSoundGives}
use Rattle.table_models.proofs.Ready.{has_model}
use Rattle.named_captures.specs.Captures.{HasNamedCapture}
use Rattle.wheelsync.specs.Complete.{AreRead}
use Rattle.wheelsync.specs.Headline.{IsReport}
use Rattle.wheelsync.specs.Replay.{IsReplay, IsReplayOver, IsReplayPast, IsReported}
use Rattle.wheelsync.specs.Reported.{AreReported}
use Rattle.wheelsync.proofs.Reports.{text_append}
use Rattle.wheelsync.specs.Import.{IsImport}
use Rattle.wheelsync.specs.Endings.{GotReport, GotFront, ReplayEnds, GotTableFront, ImportEnds, ReplaysEnd, ImportsEnd}
use Rattle.wheelsync.proofs.Endings.{IsSlotsLine}

-- a whole text is a front of itself
all_of : (text : List ℕ) → text ≡ take (length text) text
all_of text = sym (take-length text)

-- ---- replay

model_not_opened : (v : View) (m f : List ℕ) (o : Options) (e : Cause) → StopsOpen v m e → ReplayEnds v m f o (Err e) []
model_not_opened v m f o cause.ReadFault s = (refl, λ told steady. inl (s told steady))
model_not_opened v m f o cause.Memory s = λ told. inl refl
model_not_opened v m f o cause.Usage s = absurd s
model_not_opened v m f o (cause.Refused r) s = absurd s
model_not_opened v m f o (cause.Limit l) s = absurd s
model_not_opened v m f o cause.WriteFault s = absurd s

model_not_read : (v : View) (m f : List ℕ) (o : Options) (e : Cause) → StopsRead v (TableGives v.file m) e → ReplayEnds v m f o (Err e) []
model_not_read v m f o cause.ReadFault s = (refl, λ told steady. absurd (s steady))
model_not_read v m f o cause.Memory s = λ told. inl refl
model_not_read v m f o cause.Usage s = absurd s
model_not_read v m f o (cause.Refused r) s = λ told. inl (refl, inl (s told))
model_not_read v m f o (cause.Limit l) s = (refl, λ told. inl (inl (s told)))
model_not_read v m f o cause.WriteFault s = absurd s

model_not_sound : (v : View) (m f : List ℕ) (o : Options) (image : List ℕ) (e : Cause) → Told v (HasModelImage v.file m image) → StopsJudge (NotSoundGives image) e → ReplayEnds v m f o (Err e) []
model_not_sound v m f o image cause.ReadFault a s = absurd s
model_not_sound v m f o image cause.Memory a s = λ told. inl refl
model_not_sound v m f o image cause.Usage a s = absurd s
model_not_sound v m f o image (cause.Refused r) a s = λ told. inl (refl, inr (image, (a told, s)))
model_not_sound v m f o image (cause.Limit l) a s = (refl, λ told. inl (inr (image, (a told, s))))
model_not_sound v m f o image cause.WriteFault a s = absurd s

capture_not_opened : (v : View) (m f : List ℕ) (o : Options) (w : WheelParts) (e : Cause) → Told v (HasModel v.file m w) → StopsOpen v f e → ReplayEnds v m f o (Err e) []
capture_not_opened v m f o w cause.ReadFault a s = (refl, λ told steady. inr (w, (a told, s told steady)))
capture_not_opened v m f o w cause.Memory a s = λ told. inl refl
capture_not_opened v m f o w cause.Usage a s = absurd s
capture_not_opened v m f o w (cause.Refused r) a s = absurd s
capture_not_opened v m f o w (cause.Limit l) a s = absurd s
capture_not_opened v m f o w cause.WriteFault a s = absurd s

capture_not_read : (v : View) (m f : List ℕ) (o : Options) (w : WheelParts) (e : Cause) → Told v (HasModel v.file m w) → StopsRead v (FileGives v.file f) e → ReplayEnds v m f o (Err e) []
capture_not_read v m f o w cause.ReadFault a s = (refl, λ told steady. absurd (s steady))
capture_not_read v m f o w cause.Memory a s = λ told. inl refl
capture_not_read v m f o w cause.Usage a s = absurd s
capture_not_read v m f o w (cause.Refused r) a s = λ told. absurd (s told)
capture_not_read v m f o w (cause.Limit l) a s = (refl, λ told. inr (w, (a told, s told)))
capture_not_read v m f o w cause.WriteFault a s = absurd s

report_written : (v : View) (m f : List ℕ) (o : Options) (w : WheelParts) (c : Capture) (end : End) (text : List ℕ) → Told v (AreRead v.file m f o w c) → c.end ≡ end → IsReport w c.instants text
    → ReplayEnds v m f o (ended_by end) text
report_written v m f o w c Clean text a is r = (refl, λ told. (w, (c, (a told, (ap ended_by (sym is), r)))))
report_written v m f o w c (Csv fault) text a is r = λ told. inr (w, (c, (a told, (ap ended_by (sym is), r))))
report_written v m f o w c (Vcd fault) text a is r = λ told. inr (w, (c, (a told, (ap ended_by (sym is), r))))

-- lines, and a front of the next one, are a front of all
front_of_lines : (before rest : List MarkedLine) (cut : MarkedLine) (k : ℕ)
    → (n : ℕ) × ((n ≤ length (text_of (before ++ cut ∷ rest))) × (text_of before ++ take k cut.text ≡ take n (text_of (before ++ cut ∷ rest))))
front_of_lines before rest cut k =
    let whole : text_of (before ++ cut ∷ rest) ≡ (text_of before ++ take k cut.text) ++ (drop k cut.text ++ text_of rest)
    = text_append before (cut ∷ rest)
    ∙ ap (λ t. text_of before ++ (t ++ text_of rest)) (sym (take-append-drop k cut.text))
    ∙ ap (λ t. text_of before ++ t) (append_assoc (take k cut.text) (drop k cut.text) (text_of rest))
    ∙ sym (append_assoc (text_of before) (take k cut.text) (drop k cut.text ++ text_of rest)) in
    let first : List ℕ = text_of before ++ take k cut.text in
    let last : List ℕ = drop k cut.text ++ text_of rest in
    let size : length (first ++ last) ≡ length first + length last = length-append first last in (
      length first,
      (subst (λ (t : List ℕ). length first ≤ length t) (sym whole) (omega (arith, size)), sym (ap (take (length first)) whole ∙ take-append-le (length first) first last (omega arith) ∙ take-length first)),
    )

report_cut : (v : View) (m f : List ℕ) (o : Options) (w : WheelParts) (c : Capture) (e : Cause) (before rest : List MarkedLine) (cut : MarkedLine) (k : ℕ) → Told v (AreRead v.file m f o w c) → AreReported w c.instants (before ++ cut ∷ rest)
    → StopsWrite e → ReplayEnds v m f o (Err e) (text_of before ++ take k cut.text)
report_cut v m f o w c e before rest cut k a r s = by e s
  where
    got : Told v (GotFront v.file m f o (text_of before ++ take k cut.text))
    got told = let n = front_of_lines before rest cut k in inr (w, (c, (text_of (before ++ cut ∷ rest), (n.0, (a told, (r.report, (n.1.0, n.1.1)))))))

    by : (e : Cause) → StopsWrite e → ReplayEnds v m f o (Err e) (text_of before ++ take k cut.text)
    by cause.WriteFault s = got
    by cause.Memory s = got
    by cause.Usage s = absurd s
    by cause.ReadFault s = absurd s
    by (cause.Refused x) s = absurd s
    by (cause.Limit l) s = absurd s

front_of : (file : List ℕ → Option (List ℕ)) (m f : List ℕ) (o : Options) (end : Result Done Cause) (out : List ℕ) → GotReport file m f o end out → GotFront file m f o out
front_of file m f o end out (w, (c, (a, (is, r)))) = inr (w, (c, (out, (length out, (a, (r, (omega arith, all_of out)))))))

-- however it ends, out got a front of the report, where there is one
got_front : (v : View) (m f : List ℕ) (o : Options) (end : Result Done Cause) (out : List ℕ) → ReplayEnds v m f o end out → Told v (GotFront v.file m f o out)
got_front v m f o (Ok x) out h = λ told. front_of v.file m f o (Ok done.Whole) out (h.1 told)
got_front v m f o (Err (cause.Refused r)) out h = λ told. by (h told)
  where
    by : ((out ≡ []) × IsNoModel v.file m (cause.Refused r)) ⊎ GotReport v.file m f o (Err (cause.Refused r)) out → GotFront v.file m f o out
    by (inl (is, g)) = inl is
    by (inr g) = front_of v.file m f o (Err (cause.Refused r)) out g
got_front v m f o (Err (cause.Limit l)) out h = λ told. inl h.0
got_front v m f o (Err cause.ReadFault) out h = λ told. inl h.0
got_front v m f o (Err cause.WriteFault) out h = h
got_front v m f o (Err cause.Memory) out h = h
got_front v m f o (Err cause.Usage) out h = absurd h

replay_over_ends : (v : View) (tails : List ℕ → List ℕ) (m f : List ℕ) (o : Options) (w : WheelParts) (work : Work) → Told v (HasModel v.file m w) → IsReplayOver v tails w f o work → ReplayEnds v m f o work.end work.out
replay_over_ends v tails m f o w work a r =
    opens_out v f (Closes tails (IsReplayPast v w f o)) (ReplayEnds v m f o) work (λ e s. capture_not_opened v m f o w e a s)
    (λ more q.
    closes_out tails (IsReplayPast v w f o) (ReplayEnds v m f o) more
    (λ last p.
    takes_out v (FileGives v.file f) (HasNamedCapture v.file f w o) (λ c. WritesLines (IsReported w c)) (ReplayEnds v m f o) last (λ e s. capture_not_read v m f o w e a s)
    (λ c b t.
    lines_out (IsReported w c) (ReplayEnds v m f o) last
    (λ all end d. subst (λ end. ReplayEnds v m f o end (text_of all)) (sym d.1) (report_written v m f o w c c.end (text_of all) (λ told. record { model_file = a told; capture_file = b told }) refl d.0.report))
    (λ e before cut rest end k d s. report_cut v m f o w c e before rest cut k (λ told. record { model_file = a told; capture_file = b told }) d.0 s) t) p)
    (λ end out h. got_front v m f o end out h) q)
    r

replay_ends : (v : View) (tails : List ℕ → List ℕ) (m f : List ℕ) (o : Options) (work : Work) → IsReplay v tails m f o work → ReplayEnds v m f o work.end work.out
replay_ends v tails m f o work r =
    reads_out v m (TableGives v.file m) (HasModelImage v.file m) (λ image. Judges (NotSoundGives image) (IsSoundImage image) (IsReplayOver v tails (wheel_parts_of image) f o)) (ReplayEnds v m f o) work
    (model_not_opened v m f o) (model_not_read v m f o)
    (λ image rest h n.
    judges_out (NotSoundGives image) (IsSoundImage image) (IsReplayOver v tails (wheel_parts_of image) f o) (ReplayEnds v m f o) rest (λ e s. model_not_sound v m f o image e h s)
    (λ sound k. replay_over_ends v tails m f o (wheel_parts_of image) rest (λ told. has_model v.file m image (h told) sound) k) n)
    r

pub replays_end : ReplaysEnd
replays_end v tails m f o work r =
    hands_out (IsReplay v tails m f o) (ReplayEnds v m f o) work (λ rest n. replay_ends v tails m f o rest n) (λ end out h. got_front v m f o end out h) r

-- ---- import

source_not_opened : (v : View) (source name : List ℕ) (e : Cause) → StopsOpen v source e → ImportEnds v source name (Err e) []
source_not_opened v source name cause.ReadFault s = (refl, λ told steady. s told steady)
source_not_opened v source name cause.Memory s = λ told. inl refl
source_not_opened v source name cause.Usage s = absurd s
source_not_opened v source name (cause.Refused r) s = absurd s
source_not_opened v source name (cause.Limit l) s = absurd s
source_not_opened v source name cause.WriteFault s = absurd s

source_not_read : (v : View) (source name : List ℕ) (e : Cause) → StopsRead v (SourceGives v.file source name) e → ImportEnds v source name (Err e) []
source_not_read v source name cause.ReadFault s = (refl, λ told steady. absurd (s steady))
source_not_read v source name cause.Memory s = λ told. inl refl
source_not_read v source name cause.Usage s = absurd s
source_not_read v source name (cause.Refused r) s = (refl, s)
source_not_read v source name (cause.Limit l) s = (refl, s)
source_not_read v source name cause.WriteFault s = absurd s

line_cut : (v : View) (source name slots : List ℕ) (e : Cause) (text : List ℕ) (k : ℕ) → Told v (HasTable v.file source name slots) → text ≡ slots_text slots → k ≤ length text → StopsWrite e
    → ImportEnds v source name (Err e) (take k text)
line_cut v source name slots cause.WriteFault text k a is within s = λ told. inr (slots, (k, (a told, (subst (λ t. k ≤ length t) is within, ap (λ t. take k t) is))))
line_cut v source name slots cause.Memory text k a is within s = λ told. inr (slots, (k, (a told, (subst (λ t. k ≤ length t) is within, ap (λ t. take k t) is))))
line_cut v source name slots cause.Usage text k a is within s = absurd s
line_cut v source name slots cause.ReadFault text k a is within s = absurd s
line_cut v source name slots (cause.Refused x) text k a is within s = absurd s
line_cut v source name slots (cause.Limit l) text k a is within s = absurd s

table_front : (file : List ℕ → Option (List ℕ)) (source name out : List ℕ) → (slots : List ℕ) × (HasTable file source name slots × (out ≡ slots_text slots)) → GotTableFront file source name out
table_front file source name out (slots, (a, is)) = inr (slots, (length (slots_text slots), (a, (omega arith, is ∙ all_of (slots_text slots)))))

import_cut : (v : View) (source name : List ℕ) (end : Result Done Cause) (out : List ℕ) → ImportEnds v source name end out → ImportEnds v source name (Err cause.WriteFault) out
import_cut v source name (Ok x) out h = λ told. table_front v.file source name out (h.1 told)
import_cut v source name (Err cause.ReadFault) out h = λ told. inl h.0
import_cut v source name (Err cause.WriteFault) out h = h
import_cut v source name (Err cause.Memory) out h = h
import_cut v source name (Err cause.Usage) out h = λ told. inl h.0
import_cut v source name (Err (cause.Refused r)) out h = λ told. inl h.0
import_cut v source name (Err (cause.Limit l)) out h = λ told. inl h.0

import_ends : (v : View) (source name : List ℕ) (work : Work) → IsImport v source name work → ImportEnds v source name work.end work.out
import_ends v source name work r =
    reads_out v source (SourceGives v.file source name) (HasTable v.file source name) (λ slots. Writes (IsSlotsLine slots)) (ImportEnds v source name) work
    (source_not_opened v source name) (source_not_read v source name)
    (λ slots last a p.
    writes_out (IsSlotsLine slots) (ImportEnds v source name) last
    (λ text end d. subst (λ end. ImportEnds v source name end text) (sym d.1) (refl, λ told. (slots, (a told, d.0))))
    (λ e text end k d within s. line_cut v source name slots e text k a d.0 within s)
    (λ told. inl refl) p)
    r

pub imports_end : ImportsEnd
imports_end v source name work r = hands_out (IsImport v source name) (ImportEnds v source name) work (λ rest n. import_ends v source name rest n) (import_cut v source name) r
