-- A report and its certificate that are written line by line.
use Rattle.std.proofs.Common.{◌≡◌, ℕ, zero, suc, ◌+◌, ◌<◌, ◌⊎◌, inl, inr, ℤ, ◌<ℤ◌, List, [], ◌∷◌, ◌++◌, length, reverse, take, drop, get_or, refl, sym, ap, ◌∙◌, subst, arith, add-one, append_assoc, append-nil, length-drop}
use Rattle.std.proofs.lemmas.List.{length-take-le, length-reverse, reverse-append, map-append}
use Rattle.std.proofs.lemmas.List.Elements.{All-append, All-cons}
use Rattle.std.proofs.lemmas.Grind.{flat_map-append}
use Rattle.std.proofs.Math.Seq.{take-length, take-suc}
use Rattle.std.specs.Prelude.{All, Option, Some, None, IfSome, IsTrue, Result, Ok, Err, IfErr, OnErr}
use Rattle.std.specs.Io.KnownBytes.{Appends}
use Rattle.std.proofs.KnownBytes.{Appends-trans}
use Rattle.shelf_traits.specs.Shelf.{View, Position, WritesOn}
use Rattle.wheel_types.specs.declared.parts.WheelParts.{WheelParts}
use Rattle.wheel_types.specs.declared.instant.Instant.{Instant}
use Rattle.wheel_types.specs.declared.verdict.Verdict.{Verdict}
use Rattle.wheel_types.specs.Wheels.{IsWheel}
use Rattle.wheel_types.specs.Verdicts.{IsRising}
use Rattle.replay_core.specs.declared.session.Session.{Session}
use Rattle.plain_motion.specs.Memories.{last_time}
use Rattle.image_layout.specs.Fields.{wheel_parts_of}
use Rattle.replay_core.specs.Sessions.{image_of, last_of, stepped_of}
use Rattle.pair_certificate.specs.declared.line.CertLine.{CertLine}
use Rattle.pair_certificate.specs.Reports.{IsReportInRange, IsCertLineInRange}
use Rattle.certificate_checker.specs.Exact.{AreExactLines}
use Rattle.certificate_checker.specs.Reports.{report_of, reports_of}
use Rattle.run_ends.specs.Stages.{Fellows, lines_text, beside_text, marks_beside}
use Rattle.run_ends.specs.Filing.{Grows}
use Rattle.run_ends.specs.declared.cause.Cause.TheVariants as cause
use Rattle.tap_board.specs.Marks.{mark_of}
use Rattle.tap_board.specs.Meanings.{Meaning, told, told_all}
use Rattle.certified_replay.specs.Wholes.{AppendsPart, GrowsByPart}
use Rattle.certified_replay.proofs.Marks.{heard_next}
use Rattle.run_ends.specs.Serving.{Stream}
use Rattle.run_ends.specs.declared.cause.Cause.{Cause}
use Rattle.shelf_traits.specs.Count.{Rose}
use Rattle.shelf_io.specs.Touching.{FailedWrite}
use Rattle.wheel_types.specs.Texts.{report_line_text}
use Rattle.wheel_types.specs.declared.verdict.Report.{Report}
use Rattle.pair_certificate.specs.Certificates.{cert_line_text}
use Rattle.certified_replay.specs.declared.lines.Lines.{Lines}
use Rattle.certified_replay.specs.Walked.{wheel_of, HasWalked}
use Rattle.certified_replay.specs.Lines.{AddsLines}
use Rattle.certified_replay.proofs.Walked.{rising_next}
use Rattle.certified_replay.specs.Certified.{AreCertified}
use Rattle.certified_replay.specs.Puts.{GetsTexts, GetsCut, GetsLines, GetsCutLines, GetsBoth, GetsBothFront, StoppedBoth, stand_beside, fellow_of}
use Rattle.certified_replay.proofs.Fellows.{exact_counts, pairs_of, reports_more, pairs_more, certified_by, believed_by, goes_on}

-- ---- two texts

-- nothing more
pub stays : (v : View) (slot : ℕ) → Grows v v slot []
stays v slot told text is = is ∙ sym (ap Some (append-nil text))

-- and then more of both
pub texts_after : (v u w : View) (slot : ℕ) (old mid new : Option (List ℕ)) (a b c d : List ℕ) → WritesOn v u slot → GetsTexts v u slot old mid a b → GetsTexts u w slot mid new c d → GetsTexts v w slot old new (a ++ c) (b ++ d)
texts_after v u w slot old mid new a b c d keeps p q = record {
  out = Appends-trans old mid new a c p.out q.out;
  file = λ told text is.
      let place : u.place ≡ v.place = keeps.place told in
      let first : u.file (u.place slot).name ≡ Some (text ++ b) = subst (λ (at : ℕ → Position). u.file (at slot).name ≡ Some (text ++ b)) (sym place) (p.file told text is) in
      let both : w.file (v.place slot).name ≡ Some ((text ++ b) ++ d) = subst (λ (at : ℕ → Position). w.file (at slot).name ≡ Some ((text ++ b) ++ d)) place (q.file (keeps.tells ∙ told) (text ++ b) first) in
      both ∙ ap Some (append_assoc text b d);
}

-- a front of the line alone
pub cut_line : (e : Cause) (v : View) (slot : ℕ) (old new : Option (List ℕ)) (line beside : List ℕ) (mark : ℕ) (text : List ℕ) → text ≡ line → AppendsPart old new text → GetsCut e v v slot old new (stand_beside line beside mark)
cut_line e v slot old new line beside mark text is (k, (short, grown)) = record {
  line = take k line;
  beside = [];
  are_cut = inl (k, (λ fault. subst (λ l. k < length l) is short, (refl, refl)));
  texts = record { out = subst (λ l. Appends old new (take k l)) is grown; file = stays v slot };
}

-- the line, and a front of its fellow
pub cut_beside : (e : Cause) (v w : View) (slot : ℕ) (old new : Option (List ℕ)) (line beside : List ℕ) (mark : ℕ) (text piece : List ℕ) → text ≡ line → piece ≡ beside → Appends old new text → GrowsByPart v w slot piece
    → GetsCut e v w slot old new (stand_beside line beside mark)
cut_beside e v w slot old new line beside mark text piece is same grown (k, (short, more)) = record {
  line = line;
  beside = take k beside;
  are_cut = inr (refl, (k, (λ fault. subst (λ l. k < length l) same short, refl)));
  texts = record { out = subst (Appends old new) is grown; file = subst (λ l. Grows v w slot (take k l)) same more };
}

pub besides_cut : (v w : View) (slot : ℕ) (old new : Option (List ℕ)) (line beside : List ℕ) (mark : ℕ) (text piece : List ℕ) (r : Result Unit Cause) → text ≡ line → piece ≡ beside → Appends old new text → OnErr r (GrowsByPart v w slot piece)
    → IfErr r (λ e. GetsCut e v w slot old new (stand_beside line beside mark))
besides_cut v w slot old new line beside mark text piece (Ok x) is same grown more = tt
besides_cut v w slot old new line beside mark text piece (Err e) is same grown more = cut_beside e v w slot old new line beside mark text piece is same grown more

-- both whole, where memory was wanting past them
pub cut_past : (v w : View) (slot : ℕ) (old new : Option (List ℕ)) (line beside : List ℕ) (mark : ℕ) → GetsTexts v w slot old new line beside → GetsCut cause.Memory v w slot old new (stand_beside line beside mark)
cut_past v w slot old new line beside mark texts = record {
  line = line;
  beside = take (length beside) beside;
  are_cut = inr (refl, (length beside, (λ fault. let no : cause.Memory ≡ cause.WriteFault = fault in absurd (cc), refl)));
  texts = subst (GetsTexts v w slot old new line) (sym (take-length beside)) texts;
}

-- ---- one instant

pub lines_put : (w : WheelParts) (set : Session) (v u : View) (slot : ℕ) (old new : Option (List ℕ)) (taps live : List Meaning) (i : Instant) (past : List Instant) (verdicts : List Verdict) (certificate : List CertLine) (lines : Lines)
    → AddsLines w set i past verdicts certificate lines → GetsTexts v u slot old new lines.report.items lines.certificate.items → live ≡ told (mark_of lines.said.verdict) taps → GetsLines w set v u slot old new taps live i past verdicts certificate
lines_put w set v u slot old new taps live i past verdicts certificate lines a texts heard = record {
  takes = a.takes;
  texts = subst (GetsTexts v u slot old new (report_line_text (report_of (length past + 1) i a.takes.verdict))) a.line_text (subst (λ l. GetsTexts v u slot old new l lines.certificate.items) a.report_text texts);
  heard = heard ∙ ap (λ (r : Report). told (mark_of r.verdict) taps) a.said;
}

pub lines_cut : (e : Cause) (w : WheelParts) (set : Session) (v u : View) (slot : ℕ) (old new : Option (List ℕ)) (i : Instant) (past : List Instant) (verdicts : List Verdict) (certificate : List CertLine) (lines : Lines)
    → AddsLines w set i past verdicts certificate lines → GetsCut e v u slot old new (stand_beside lines.report.items lines.certificate.items (mark_of lines.said.verdict)) → GetsCutLines e w set v u slot old new i past verdicts certificate
lines_cut e w set v u slot old new i past verdicts certificate lines a cut = record {
  takes = a.takes;
  cut = subst (λ (r : Report). GetsCut e v u slot old new (stand_beside (report_line_text (report_of (length past + 1) i a.takes.verdict)) (cert_line_text a.takes.line) (mark_of r.verdict))) a.said
      (subst (λ l. GetsCut e v u slot old new (stand_beside (report_line_text (report_of (length past + 1) i a.takes.verdict)) l (mark_of lines.said.verdict))) a.line_text
      (subst (λ l. GetsCut e v u slot old new (stand_beside l lines.certificate.items (mark_of lines.said.verdict))) a.report_text cut));
}

-- what stopped past calls on which no count rose
pub stopped_past : (v u w : View) (old mid new : Stream) (slot : ℕ) (e : Cause) → WritesOn v u slot → mid.faults ≡ old.faults → u.faults_out ≡ v.faults_out → (IsTrue old.steady → IsTrue mid.steady) → StoppedBoth u w mid new e → StoppedBoth v w old new e
stopped_past v u w old mid new slot e keeps same files still s = record {
  kinds = s.kinds;
  fault = λ is. by (s.fault is);
  calm = λ is steady calm. s.calm is (still steady) (keeps.steady calm);
  settled = λ n. let kept = s.settled n in (kept.0 ∙ same, kept.1 ∙ files);
}
  where
    by : Rose mid.faults new.faults ⊎ FailedWrite u w → Rose old.faults new.faults ⊎ FailedWrite v w
    by (inl rose) = inl (subst (λ n. Rose n new.faults) same rose)
    by (inr failed) = inr (record { rose = subst (λ n. Rose n w.faults_out) files failed.rose; unsteady = λ calm. failed.unsteady (keeps.steady calm) })

-- a shelf that nothing is written to
pub unwritten : (v : View) (slot : ℕ) → WritesOn v v slot
unwritten v slot = record {
  no_less = omega arith;
  reads = refl;
  ways = refl;
  tells = refl;
  steady = λ h. h;
  calm = λ h. refl;
  place = λ h. refl;
  files = λ h n d. refl;
}

-- ---- the first k instants

-- they were taken, out and the file have their lines, and the taps were told their marks
pub record HasPut (first set : Session) (v u : View) (slot : ℕ) (old new : Option (List ℕ)) (taps live : List Meaning) (is : List Instant) (k : ℕ) : Type 0 where
  pub verdicts : List Verdict
  pub lines : List CertLine
  pub window : List Instant
  pub walked : HasWalked set (reverse (take k is)) verdicts
  pub exact : AreExactLines (wheel_of first) (reverse (take k is)) verdicts lines window
  pub image : image_of set ≡ image_of first
  pub last : last_of set ≡ last_time (reverse (take k is))
  pub stepped : stepped_of set ≡ k
  pub reports : All IsReportInRange (reports_of 1 (take k is) (reverse verdicts))
  pub certificate : All IsCertLineInRange (reverse lines)
  pub texts : GetsTexts v u slot old new (lines_text (pairs_of (take k is) verdicts lines)) (beside_text (pairs_of (take k is) verdicts lines))
  pub heard : live ≡ told_all (marks_beside (pairs_of (take k is) verdicts lines)) taps

-- none yet
pub none_put : (first : Session) (v : View) (slot : ℕ) (old : Option (List ℕ)) (taps : List Meaning) (is : List Instant) → HasWalked first [] [] → last_of first ≡ None → stepped_of first ≡ 0 → Appends old old [] → HasPut first first v v slot old old taps taps is 0
none_put first v slot old taps is s l none_stepped a = record {
  verdicts = [];
  lines = [];
  window = [];
  walked = s;
  exact = refl;
  image = refl;
  last = l;
  stepped = none_stepped;
  reports = none IsReportInRange;
  certificate = none IsCertLineInRange;
  texts = record { out = a; file = stays v slot };
  heard = refl;
}
  where
    none : {X : Type 0} (P : X → Type 0) → All P []
    none P k d h = absurd (omega (arith, h))

reverse_next : (is : List Instant) (k : ℕ) (i : Instant) → k < length is → i ≡ get_or is k i → take (suc k) is ≡ take k is ++ i ∷ []
reverse_next is k i h e = take-suc is k i h ∙ ap (λ j. take k is ++ j ∷ []) (sym e)

past_next : (is : List Instant) (k : ℕ) (i : Instant) → k < length is → i ≡ get_or is k i → reverse (take (suc k) is) ≡ i ∷ reverse (take k is)
past_next is k i h e = ap reverse (reverse_next is k i h e) ∙ reverse-append (take k is) (i ∷ [])

past_at : (is : List Instant) (k : ℕ) (d : Instant) → k < length is → reverse (take (suc k) is) ≡ get_or is k d ∷ reverse (take k is)
past_at is k d h = ap reverse (take-suc is k d h) ∙ reverse-append (take k is) (get_or is k d ∷ [])

-- the next instant comes later than the last one
pub later_than_last : (is : List Instant) (k : ℕ) (i : Instant) (last : Option ℤ) → IsRising is → k < length is → i ≡ get_or is k i → last ≡ last_time (reverse (take k is)) → IfSome last (λ t. t <ℤ i.time)
later_than_last is zero i last r h here e = subst (λ o. IfSome o (λ t. t <ℤ i.time)) (sym e) tt
later_than_last is (suc k) i last r h here e =
    let before : k + 1 < length is = omega arith in
    let below : k < length is = omega arith in
    let same : last ≡ Some (get_or is k i).time = e ∙ ap last_time (past_at is k i below) in
    let rises : (get_or is k i).time <ℤ (get_or is (suc k) i).time = rw add-one at (r k i before) in
    subst (λ o. IfSome o (λ t. t <ℤ i.time)) (sym same) (subst (λ (j : Instant). (get_or is k i).time <ℤ j.time) (sym here) rises)

-- how many instants were taken
taken : (is : List Instant) (k : ℕ) → k < length is → length (take k is) ≡ k
taken is k h = length-take-le k is (omega (arith, h))

-- the pairs of one more instant
next_pairs : (w : WheelParts) (is : List Instant) (k : ℕ) (i : Instant) (vs : List Verdict) (cs : List CertLine) (window : List Instant) (v : Verdict) (c : CertLine) → k < length is → i ≡ get_or is k i
    → AreExactLines w (reverse (take k is)) vs cs window
    → pairs_of (take (suc k) is) (v ∷ vs) (c ∷ cs) ≡ pairs_of (take k is) vs cs ++ fellow_of (report_of (length (reverse (take k is)) + 1) i v) c ∷ []
next_pairs w is k i vs cs window v c h here x =
    let n = exact_counts w (reverse (take k is)) vs cs window x in
    let many = n.0 ∙ length-reverse (take k is) in
    let as_many = n.1 ∙ length-reverse (take k is) in
    let number : 1 + length (take k is) ≡ length (reverse (take k is)) + 1 = omega (arith, length-reverse (take k is)) in
    ap (λ l. pairs_of l (v ∷ vs) (c ∷ cs)) (reverse_next is k i h here)
    ∙ pairs_more (take k is) (i ∷ []) vs (v ∷ []) cs (c ∷ []) many as_many
    ∙ ap (λ m. pairs_of (take k is) vs cs ++ fellow_of (report_of m i v) c ∷ []) number

next_reports : (w : WheelParts) (is : List Instant) (k : ℕ) (i : Instant) (vs : List Verdict) (cs : List CertLine) (window : List Instant) (v : Verdict) → k < length is → i ≡ get_or is k i
    → AreExactLines w (reverse (take k is)) vs cs window
    → reports_of 1 (take (suc k) is) (reverse (v ∷ vs)) ≡ reports_of 1 (take k is) (reverse vs) ++ report_of (length (reverse (take k is)) + 1) i v ∷ []
next_reports w is k i vs cs window v h here x =
    let n = exact_counts w (reverse (take k is)) vs cs window x in
    let number : 1 + length (take k is) ≡ length (reverse (take k is)) + 1 = omega (arith, length-reverse (take k is)) in
    ap (λ l. reports_of 1 l (reverse (v ∷ vs))) (reverse_next is k i h here)
    ∙ reports_more (take k is) (i ∷ []) vs (v ∷ []) (n.0 ∙ length-reverse (take k is))
    ∙ ap (λ m. reports_of 1 (take k is) (reverse vs) ++ report_of m i v ∷ []) number

all_one_more : {X : Type 0} (P : X → Type 0) (xs : List X) (x : X) → All P xs → P x → All P (xs ++ x ∷ [])
all_one_more P xs x all here = All-append P xs (x ∷ []) all (All-cons P x [] here none)
  where
    none : All P []
    none k d h = absurd (omega (arith, h))

lines_more : (first rest : List Fellows) → lines_text (first ++ rest) ≡ lines_text first ++ lines_text rest
lines_more first rest = flat_map-append (λ (f : Fellows). f.line) first rest

beside_more : (first rest : List Fellows) → beside_text (first ++ rest) ≡ beside_text first ++ beside_text rest
beside_more first rest = flat_map-append (λ (f : Fellows). f.beside) first rest

marks_more : (first rest : List Fellows) → marks_beside (first ++ rest) ≡ marks_beside first ++ marks_beside rest
marks_more first rest = map-append (λ (f : Fellows). f.mark) first rest

-- the texts with one more pair
one_pair : (v u w : View) (slot : ℕ) (old mid new : Option (List ℕ)) (first all : List Fellows) (f : Fellows) → WritesOn v u slot → all ≡ first ++ f ∷ [] → GetsTexts v u slot old mid (lines_text first) (beside_text first)
    → GetsTexts u w slot mid new f.line f.beside → GetsTexts v w slot old new (lines_text all) (beside_text all)
one_pair v u w slot old mid new first all f keeps is p q =
    let line : f.line ≡ lines_text (f ∷ []) = sym (append-nil f.line) in
    let beside : f.beside ≡ beside_text (f ∷ []) = sym (append-nil f.beside) in
    let t = texts_after v u w slot old mid new (lines_text first) (beside_text first) (lines_text (f ∷ [])) (beside_text (f ∷ [])) keeps p
    (subst (GetsTexts u w slot mid new (lines_text (f ∷ []))) beside (subst (λ l. GetsTexts u w slot mid new l f.beside) line q)) in
    subst (λ l. GetsTexts v w slot old new (lines_text l) (beside_text l)) (sym is)
    (subst (GetsTexts v w slot old new (lines_text (first ++ f ∷ []))) (sym (beside_more first (f ∷ [])))
    (subst (λ l. GetsTexts v w slot old new l (beside_text first ++ beside_text (f ∷ []))) (sym (lines_more first (f ∷ []))) t))

-- one more instant
pub next_put : (first before after : Session) (v u w : View) (slot : ℕ) (old mid new : Option (List ℕ)) (taps some live : List Meaning) (is : List Instant) (k : ℕ) (i : Instant) → IsRising is → k < length is → i ≡ get_or is k i → WritesOn v u slot
    → (p : HasPut first before v u slot old mid taps some is k) → image_of after ≡ image_of before → last_of after ≡ Some i.time → stepped_of after ≡ stepped_of before + 1
    → ((past : List Instant) (verdicts : List Verdict) (certificate : List CertLine) (window : List Instant) → HasWalked before past verdicts → IsRising (reverse (i ∷ past)) → AreExactLines (wheel_of before) past verdicts certificate window
    → GetsLines (wheel_of before) after u w slot mid new some live i past verdicts certificate)
    → HasPut first after v w slot old new taps live is (k + 1)
next_put first before after v u w slot old mid new taps some live is k i rising h here keeps p image last stepped step = rw add-one (by g)
  where
    x : AreExactLines (wheel_of before) (reverse (take k is)) p.verdicts p.lines p.window
    x = subst (λ wheel. AreExactLines wheel (reverse (take k is)) p.verdicts p.lines p.window) (sym (ap wheel_parts_of p.image)) p.exact

    g : GetsLines (wheel_of before) after u w slot mid new some live i (reverse (take k is)) p.verdicts p.lines
    g = step (reverse (take k is)) p.verdicts p.lines p.window p.walked (rising_next is k i h here rising) x

    by : GetsLines (wheel_of before) after u w slot mid new some live i (reverse (take k is)) p.verdicts p.lines → HasPut first after v w slot old new taps live is (suc k)
    by g =
        let t = g.takes in
        let past : reverse (take (suc k) is) ≡ i ∷ reverse (take k is) = past_next is k i h here in
        let reports = next_reports (wheel_of first) is k i p.verdicts p.lines p.window t.verdict h here p.exact in
        let pairs = next_pairs (wheel_of first) is k i p.verdicts p.lines p.window t.verdict t.line h here p.exact in
        record {
          verdicts = t.verdict ∷ p.verdicts;
          lines = t.line ∷ p.lines;
          window = t.window;
          walked = subst (λ l. HasWalked after l (t.verdict ∷ p.verdicts)) (sym past) t.walked;
          exact = subst (λ l. AreExactLines (wheel_of first) l (t.verdict ∷ p.verdicts) (t.line ∷ p.lines) t.window) (sym past)
              (subst (λ wheel. AreExactLines wheel (i ∷ reverse (take k is)) (t.verdict ∷ p.verdicts) (t.line ∷ p.lines) t.window) (ap wheel_parts_of p.image) t.exact);
          image = image ∙ p.image;
          stepped = omega (arith, stepped, p.stepped);
          last = last ∙ ap last_time (sym past);
          reports = subst (All IsReportInRange) (sym reports) (all_one_more IsReportInRange (reports_of 1 (take k is) (reverse p.verdicts)) (report_of (length (reverse (take k is)) + 1) i t.verdict) p.reports t.report_range);
          certificate = subst (All IsCertLineInRange) (sym (reverse-append (t.line ∷ []) p.lines)) (all_one_more IsCertLineInRange (reverse p.lines) t.line p.certificate t.line_range);
          texts = one_pair v u w slot old mid new (pairs_of (take k is) p.verdicts p.lines) (pairs_of (take (suc k) is) (t.verdict ∷ p.verdicts) (t.line ∷ p.lines)) (fellow_of (report_of (length (reverse (take k is)) + 1) i t.verdict) t.line)
              keeps pairs p.texts g.texts;
          heard = heard_next taps some live (marks_beside (pairs_of (take k is) p.verdicts p.lines)) (marks_beside (pairs_of (take (suc k) is) (t.verdict ∷ p.verdicts) (t.line ∷ p.lines))) (mark_of t.verdict) p.heard g.heard
              (ap marks_beside pairs ∙ marks_more (pairs_of (take k is) p.verdicts p.lines) (fellow_of (report_of (length (reverse (take k is)) + 1) i t.verdict) t.line ∷ []));
        }

-- ---- where writing stopped

some_first : {X : Type 0} (xs : List X) (n : ℕ) → 0 < n → length xs ≡ n → (x : X) × ((rest : List X) × (xs ≡ x ∷ rest))
some_first [] n h e = absurd (omega (arith, h, e))
some_first (x ∷ rest) n h e = (x, (rest, refl))

pub stopped : (e : Cause) (first before after : Session) (v u w : View) (slot : ℕ) (old mid new : Option (List ℕ)) (taps some live : List Meaning) (is : List Instant) (k : ℕ) (i : Instant) → IsWheel (wheel_of first) → IsRising is → k < length is → i ≡ get_or is k i → WritesOn v u slot
    → (p : HasPut first before v u slot old mid taps some is k) → (e ≡ cause.WriteFault → live ≡ some)
    → ((past : List Instant) (verdicts : List Verdict) (certificate : List CertLine) (window : List Instant) → HasWalked before past verdicts → IsRising (reverse (i ∷ past)) → AreExactLines (wheel_of before) past verdicts certificate window
    → ((e ≡ cause.Memory) × GetsTexts u w slot mid new [] []) ⊎ GetsCutLines e (wheel_of before) after u w slot mid new i past verdicts certificate)
    → GetsBothFront e (wheel_of first) is v w slot old new taps live
stopped e first before after v u w slot old mid new taps some live is k i wheel rising h here keeps p untold step = by (step (reverse (take k is)) p.verdicts p.lines p.window p.walked (rising_next is k i h here rising) x)
  where
    x : AreExactLines (wheel_of before) (reverse (take k is)) p.verdicts p.lines p.window
    x = subst (λ wheel. AreExactLines wheel (reverse (take k is)) p.verdicts p.lines p.window) (sym (ap wheel_parts_of p.image)) p.exact

    by : ((e ≡ cause.Memory) × GetsTexts u w slot mid new [] []) ⊎ GetsCutLines e (wheel_of before) after u w slot mid new i (reverse (take k is)) p.verdicts p.lines → GetsBothFront e (wheel_of first) is v w slot old new taps live
    by (inl (want, none)) =
        let more = goes_on (wheel_of first) is k p.verdicts p.lines p.window wheel rising p.exact in
        let f = some_first more.rest (length (drop k is)) (omega (arith, h, length-drop k is)) more.many in
        record {
          before = pairs_of (take k is) p.verdicts p.lines;
          cut = f.0;
          rest = f.1.0;
          certified = subst (λ l. AreCertified (wheel_of first) is (pairs_of (take k is) p.verdicts p.lines ++ l)) f.1.1 more.certified;
          line = [];
          beside = [];
          are_cut = inl (0, (λ fault. let no : cause.Memory ≡ cause.WriteFault = sym want ∙ fault in absurd (cc), (refl, refl)));
          texts = texts_after v u w slot old mid new (lines_text (pairs_of (take k is) p.verdicts p.lines)) (beside_text (pairs_of (take k is) p.verdicts p.lines)) [] [] keeps p.texts none;
          heard = λ fault. untold fault ∙ p.heard;
        }
    by (inr g) =
        let t = g.takes in
        let past : reverse (take (suc k) is) ≡ i ∷ reverse (take k is) = past_next is k i h here in
        let f = fellow_of (report_of (length (reverse (take k is)) + 1) i t.verdict) t.line in
        let exact : AreExactLines (wheel_of first) (reverse (take (suc k) is)) (t.verdict ∷ p.verdicts) (t.line ∷ p.lines) t.window
        = subst (λ l. AreExactLines (wheel_of first) l (t.verdict ∷ p.verdicts) (t.line ∷ p.lines) t.window) (sym past)
        (subst (λ wheel. AreExactLines wheel (i ∷ reverse (take k is)) (t.verdict ∷ p.verdicts) (t.line ∷ p.lines) t.window) (ap wheel_parts_of p.image) t.exact) in
        let more = goes_on (wheel_of first) is (suc k) (t.verdict ∷ p.verdicts) (t.line ∷ p.lines) t.window wheel rising exact in
        let pairs = next_pairs (wheel_of first) is k i p.verdicts p.lines p.window t.verdict t.line h here p.exact in
        record {
          before = pairs_of (take k is) p.verdicts p.lines;
          cut = f;
          rest = more.rest;
          certified = subst (AreCertified (wheel_of first) is) (append_assoc (pairs_of (take k is) p.verdicts p.lines) (f ∷ []) more.rest) (subst (λ l. AreCertified (wheel_of first) is (l ++ more.rest)) pairs more.certified);
          line = g.cut.line;
          beside = g.cut.beside;
          are_cut = g.cut.are_cut;
          texts = texts_after v u w slot old mid new (lines_text (pairs_of (take k is) p.verdicts p.lines)) (beside_text (pairs_of (take k is) p.verdicts p.lines)) g.cut.line g.cut.beside keeps p.texts g.cut.texts;
          heard = λ fault. untold fault ∙ p.heard;
        }

-- ---- all instants

pub all_put : (first set : Session) (v u : View) (slot : ℕ) (old new : Option (List ℕ)) (taps live : List Meaning) (is : List Instant) → IsWheel (wheel_of first) → IsRising is → HasPut first set v u slot old new taps live is (length is)
    → GetsBoth (wheel_of first) is v u slot old new taps live
all_put first set v u slot old new taps live is wheel rising p =
    let all : take (length is) is ≡ is = take-length is in
    let exact : AreExactLines (wheel_of first) (reverse is) p.verdicts p.lines p.window = subst (λ l. AreExactLines (wheel_of first) (reverse l) p.verdicts p.lines p.window) all p.exact in
    record {
      all = pairs_of is p.verdicts p.lines;
      certified = certified_by (wheel_of first) is p.verdicts p.lines p.window exact;
      texts = subst (λ l. GetsTexts v u slot old new (lines_text (pairs_of l p.verdicts p.lines)) (beside_text (pairs_of l p.verdicts p.lines))) all p.texts;
      believed = believed_by (wheel_of first) is p.verdicts p.lines p.window wheel rising exact (subst (λ l. All IsReportInRange (reports_of 1 l (reverse p.verdicts))) all p.reports) p.certificate;
      heard = subst (λ l. live ≡ told_all (marks_beside (pairs_of l p.verdicts p.lines)) taps) all p.heard;
    }
