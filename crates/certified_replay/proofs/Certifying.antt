-- A replay with a certificate, served call by call.
use Rattle.std.proofs.Common.{◌≡◌, ◌≢◌, ℕ, ◌+◌, ◌<◌, ◌≤◌, ◌⊎◌, inl, inr, List, [], ◌∷◌, ◌++◌, length, slice_get, Option, None, Some, unwrap_or, Result, Ok, Err, refl, sym, ◌∙◌, ap, subst, arith, length-append}
use Rattle.std.proofs.Math.Seq.{get_or-append_seam}
use Rattle.std.proofs.lemmas.Option.{slice_get-get_or, slice_get_within, get_or_from_slice_get}
use Rattle.std.proofs.lemmas.List.{get_or_append_left}
use Rattle.std.specs.Prelude.{IsTrue, IsSome}
use Rattle.std.proofs.KnownBytes.{Appends-nil}
use Rattle.shelf_traits.specs.declared.shelf.Way.{Way}
use Rattle.shelf_traits.specs.declared.shelf.Way.TheVariants as way
use Rattle.shelf_traits.specs.Count.{Rose, RoseWhere}
use Rattle.shelf_traits.specs.Shelf.{View, Position, ReadsOn, WritesOn, IsReader, IsWriter}
use Rattle.shelf_io.specs.Touching.{Opened, Touches, FailedWrite}
use Rattle.shelf_io.proofs.Touching.{touches_after, touches_read}
use Rattle.wheel_types.specs.declared.parts.WheelParts.{WheelParts}
use Rattle.wheel_types.specs.declared.instant.Instant.{Instant}
use Rattle.capture_core.specs.declared.capture.Capture.{Capture}
use Rattle.capture_core.specs.declared.capture.End.{End}
use Rattle.capture_core.specs.declared.capture.End.TheVariants.{Clean, Csv, Vcd}
use Rattle.command_words.specs.Options.{Options}
use Rattle.run_ends.specs.declared.cause.Done.{Done}
use Rattle.run_ends.specs.declared.cause.Cause.{Cause}
use Rattle.run_ends.specs.declared.cause.Cause.TheVariants as cause
use Rattle.run_ends.specs.Works.{Work, StopsWrite, stopped, read_slot, after}
use Rattle.run_ends.specs.Stages.{Fellows, Past, Takes, write_slot, lines_text, beside_text, marks_beside}
use Rattle.run_ends.specs.Filing.{HasCreated, NotCreated, Grows}
use Rattle.run_ends.specs.Serving.{Stream, Tells}
use Rattle.run_ends.proofs.Tapping.{stops_write}
use Rattle.run_ends.proofs.CreatedFiles.{touches_grown}
use Rattle.run_files.specs.Causes.{FileGives, ended_by}
use Rattle.named_captures.specs.Captures.{HasNamedCapture}
use Rattle.certified_replay.proofs.Taking.{IsLeft, left_whole, stops_reading, accepted, takes_before, opens_before}
use Rattle.certified_replay.specs.Openings.{HasOpened, StopsTaking, IsTaken}
use Rattle.certified_replay.specs.Certified.{AreCertified, WritesCertified, IsCertifiedPast, IsCertifiedOver}
use Rattle.tap_board.specs.Meanings.{Meaning, told_all}
use Rattle.certified_replay.specs.Puts.{StoppedBoth, GetsBoth, GetsBothFront}

-- ---- causes

not_taking : (v : View) (slot : ℕ) (e : Cause) → StopsTaking v slot e → e ≡ cause.WriteFault → ⊥
not_taking v slot cause.WriteFault s is = s
not_taking v slot cause.ReadFault s is = cc
not_taking v slot cause.Memory s is = cc
not_taking v slot cause.Usage s is = s
not_taking v slot (cause.Refused r) s is = s
not_taking v slot (cause.Limit l) s is = cc

no_read : (e : Cause) → StopsWrite e → e ≡ cause.ReadFault → ⊥
no_read cause.WriteFault s is = cc
no_read cause.Memory s is = cc
no_read cause.ReadFault s is = s
no_read cause.Usage s is = s
no_read (cause.Refused r) s is = s
no_read (cause.Limit l) s is = s

no_fault : (end : End) → (ended_by end ≡ Err cause.ReadFault → ⊥) × (ended_by end ≡ Err cause.WriteFault → ⊥)
no_fault Clean = ((λ is. cc), (λ is. cc))
no_fault (Csv fault) = ((λ is. cc), (λ is. cc))
no_fault (Vcd fault) = ((λ is. cc), (λ is. cc))

failed_before : (v u w : View) → u.faults_out ≡ v.faults_out → (IsTrue v.steady → IsTrue u.steady) → FailedWrite u w → FailedWrite v w
failed_before v u w same still f = record { rose = subst (λ n. Rose n w.faults_out) same f.rose; unsteady = λ steady. f.unsteady (still steady) }

-- ---- the capture is opened, and the certificate's file created

pub not_created : (v u x : View) (w : WheelParts) (capture cert : List ℕ) (o : Options) (out : Stream) (told : List ℕ → Type 0) (slot : ℕ) (e : Cause) → HasOpened v u capture slot → NotCreated u x cert e
    → told [] → Tells (Past capture (IsCertifiedPast v w capture cert o)) (Some cert) v x out out told (Err e)
not_created v u x w capture cert o out told slot e h n t = record {
  served = record {
    work = after (read_slot capture 0) (stopped [] e);
    allowed = (0, (stopped [] e, (record { went = inl (e, (n.stopped.kinds, refl)) }, refl)));
    ends = refl;
    closes = refl;
    out = Appends-nil out.taken;
    shelf = touches_after v u x (read_slot capture 0) [] (Some cert) None h.touches n.touches;
    read = λ is. let same : e ≡ cause.ReadFault = cc in absurd (no_read e n.stopped.kinds same);
    read_settled = λ a b m. n.stopped.reads ∙ h.reads;
    write = λ is. let same : e ≡ cause.WriteFault = cc in inr (failed_before v u x h.touches.counts_out h.touches.steady (n.stopped.fault same));
    write_settled = λ a. (refl, n.stopped.settled (λ is. a (ap Err is)) ∙ h.touches.counts_out);
    calm = λ is still steady. let same : e ≡ cause.WriteFault = cc in (n.stopped.fault same).unsteady (h.touches.steady steady);
    later = omega arith;
    steady = λ k. k;
  };
  heard = λ n. t;
}

-- both are open, nothing was taken or put yet, and no count rose
pub record Begun (v x : View) (capture cert : List ℕ) (source slot : ℕ) : Type 0 where
  pub first : source ≡ length v.ways
  pub second : slot ≡ length v.ways + 1
  pub touches : Touches v x (read_slot capture 0 ∷ write_slot cert ∷ []) (Some cert) (Some [])
  pub there : IsTrue v.tells → IsSome (v.file capture)
  pub writer : IsWriter x slot
  pub named : IsTrue x.tells → (x.place slot).name ≡ cert
  pub reads : x.faults_in ≡ v.faults_in
  pub writes : x.faults_out ≡ v.faults_out

pub begun : (v u x : View) (capture cert : List ℕ) (source slot : ℕ) → HasOpened v u capture source → HasCreated u x cert slot → Begun v x capture cert source slot
begun v u x capture cert source slot h n = record {
  first = h.next;
  second = n.last ∙ ap length h.touches.ways ∙ length-append v.ways (way.Reads ∷ []);
  touches = touches_after v u x (read_slot capture 0) (write_slot cert ∷ []) (Some cert) (Some []) h.touches n.touches;
  there = h.there;
  writer = n.writer;
  named = n.named;
  reads = n.reads ∙ h.reads;
  writes = n.writes ∙ h.touches.counts_out;
}

reader_at : (ways rest : List Way) (slot : ℕ) → slot ≡ length ways → slice_get (ways ++ way.Reads ∷ rest) slot ≡ Some way.Reads
reader_at ways rest slot is =
    let within : length ways < length (ways ++ way.Reads ∷ rest) = omega (arith, length-append ways (way.Reads ∷ rest)) in
    ap (slice_get (ways ++ way.Reads ∷ rest)) is ∙ slice_get-get_or (ways ++ way.Reads ∷ rest) (length ways) way.Reads within ∙ ap Some (get_or-append_seam ways way.Reads rest way.Reads)

-- a slot stays what it is as more are opened
pub slot_stays : (ways more : List Way) (slot : ℕ) (x : Way) → slice_get ways slot ≡ Some x → slice_get (ways ++ more) slot ≡ Some x
slot_stays ways more slot x is =
    let within : slot < length ways = slice_get_within ways slot x is in
    let among : slot < length (ways ++ more) = omega (arith, length-append ways more) in
    slice_get-get_or (ways ++ more) slot x among ∙ ap Some (get_or_append_left ways more x slot within ∙ get_or_from_slice_get ways slot x x is)

-- the capture's slot reads
pub reader_begun : (v x : View) (capture cert : List ℕ) (source slot : ℕ) → Begun v x capture cert source slot → IsReader x source
reader_begun v x capture cert source slot b = subst (λ (ways : List Way). slice_get ways source ≡ Some way.Reads) (sym b.touches.ways) (reader_at v.ways (way.Writes ∷ []) source b.first)

-- ---- the capture is taken

-- the capture's slot has moved on
pub record Taken (v x y : View) (capture cert : List ℕ) (source slot : ℕ) : Type 0 where
  pub begun : Begun v x capture cert source slot
  pub keeps : ReadsOn x y source
  pub same : IsTrue x.tells → (y.place source).name ≡ (x.place source).name

pub touches_taken : (v x y : View) (capture cert : List ℕ) (source slot : ℕ) → Taken v x y capture cert source slot
    → Touches v y (read_slot capture (y.place source).at ∷ write_slot cert ∷ []) (Some cert) (Some [])
touches_taken v x y capture cert source slot t =
    touches_read v x y capture 0 (y.place source).at (write_slot cert ∷ []) (Some cert) (Some []) t.begun.touches (subst (ReadsOn x y) t.begun.first t.keeps)
    (λ told.
    let at : x.place (length v.ways) ≡ (let p : Position = record { name = capture; at = 0 } in p) = (t.begun.touches.stand (sym t.begun.touches.tells ∙ told)).0 in
    let name : (x.place source).name ≡ capture = subst (λ (s : ℕ). (x.place s).name ≡ capture) (sym t.begun.first) (ap (λ (p : Position). p.name) at) in
    subst (λ (s : ℕ). y.place s ≡ (let p : Position = record { name = capture; at = (y.place source).at } in p)) t.begun.first
    (ap (λ (n : List ℕ). let p : Position = record { name = n; at = (y.place source).at } in p) (t.same told ∙ name)))

-- all of the capture's file is left of its slot
pub begun_left : (v x : View) (capture cert : List ℕ) (source slot : ℕ) → Begun v x capture cert source slot → capture ≢ cert → IsLeft v x capture source
begun_left v x capture cert source slot b apart = record {
  tells = b.touches.tells;
  steady = b.touches.steady;
  there = b.there;
  whole = λ told. left_whole v x capture source (subst (λ (s : ℕ). x.place s ≡ (let p : Position = record { name = capture; at = 0 } in p)) (sym b.first) (b.touches.stand told).0) ((b.touches.files told).1 capture apart);
}

pub not_taken : (v x y : View) (w : WheelParts) (capture cert : List ℕ) (o : Options) (out : Stream) (told : List ℕ → Type 0) (source slot : ℕ) (e : Cause) → Taken v x y capture cert source slot → capture ≢ cert
    → RoseWhere (e ≡ cause.ReadFault) x.faults_in y.faults_in → StopsTaking x source e → told []
    → Tells (Past capture (IsCertifiedPast v w capture cert o)) (Some cert) v y out out told (Err e)
not_taken v x y w capture cert o out told source slot e b apart r s t = record {
  served = record {
    work = after (read_slot capture (y.place source).at) (record (after (write_slot cert) (stopped [] e)) { made = Some [] });
    allowed = ((y.place source).at, (record (after (write_slot cert) (stopped [] e)) { made = Some [] }, (record { went = inr (stopped [] e, (record { went = inl (e, (stops_reading v x capture source e (begun_left v x capture cert source slot b.begun apart) s, refl)) }, refl)) }, refl)));
    ends = refl;
    closes = refl;
    out = Appends-nil out.taken;
    shelf = touches_taken v x y capture cert source slot b;
    read = λ is. let same : e ≡ cause.ReadFault = cc in subst (λ n. Rose n y.faults_in) b.begun.reads (r.rose same);
    read_settled = λ a d m. r.stays (λ is. a (ap Err is)) ∙ b.begun.reads;
    write = λ is. let same : e ≡ cause.WriteFault = cc in absurd (not_taking x source e s same);
    write_settled = λ a. (refl, b.keeps.out ∙ b.begun.writes);
    calm = λ is still steady. let same : e ≡ cause.WriteFault = cc in not_taking x source e s same;
    later = omega arith;
    steady = λ h. h;
  };
  heard = λ n. t;
}

-- ---- the lines are put

-- the certificate's slot writes its file
named_still : (v x y : View) (capture cert : List ℕ) (source slot : ℕ) → Taken v x y capture cert source slot → IsTrue y.tells → (y.place slot).name ≡ cert
named_still v x y capture cert source slot t told =
    let before : IsTrue x.tells = sym t.keeps.tells ∙ told in
    ap (λ (p : Position). p.name) (t.keeps.others before slot (λ is. not_same is)) ∙ t.begun.named before
  where
    not_same : slot ≡ source → ⊥
    not_same is = omega (arith, is, t.begun.first, t.begun.second)

pub writer_still : (v x y : View) (capture cert : List ℕ) (source slot : ℕ) → Taken v x y capture cert source slot → IsWriter y slot
writer_still v x y capture cert source slot t = subst (λ (ways : List Way). slice_get ways slot ≡ Some way.Writes) (sym t.keeps.ways) t.begun.writer

-- what the certificate's file got
put_into : (v x y z : View) (capture cert piece : List ℕ) (source slot : ℕ) → Taken v x y capture cert source slot → WritesOn y z slot → Grows y z slot piece
    → Touches v z (read_slot capture (y.place source).at ∷ write_slot cert ∷ []) (Some cert) (Some piece)
put_into v x y z capture cert piece source slot t keeps more =
    touches_grown v y z (read_slot capture (y.place source).at ∷ write_slot cert ∷ []) cert [] piece slot (touches_taken v x y capture cert source slot t) keeps (named_still v x y capture cert source slot t) more

-- what is due of the lines
abbrev pub AreDue : WheelParts → Capture → List Fellows → Result Done Cause → Type 0
AreDue w c all end = AreCertified w c.instants all × (end ≡ ended_by c.end)

-- what was put of these instants over this wheel, where others are the same
pub front_as : (e : Cause) (x w : WheelParts) (is js : List Instant) (y z : View) (slot : ℕ) (old new : Option (List ℕ)) (taps live : List Meaning) → x ≡ w → is ≡ js → GetsBothFront e x is y z slot old new taps live
    → GetsBothFront e w js y z slot old new taps live
front_as e x w is js y z slot old new taps live same alike g = subst (λ (u : WheelParts). GetsBothFront e u js y z slot old new taps live) same (subst (λ (l : List Instant). GetsBothFront e x l y z slot old new taps live) alike g)

pub both_as : (x w : WheelParts) (is js : List Instant) (y z : View) (slot : ℕ) (old new : Option (List ℕ)) (taps live : List Meaning) → x ≡ w → is ≡ js → GetsBoth x is y z slot old new taps live → GetsBoth w js y z slot old new taps live
both_as x w is js y z slot old new taps live same alike g = subst (λ (u : WheelParts). GetsBoth u js y z slot old new taps live) same (subst (λ (l : List Instant). GetsBoth x l y z slot old new taps live) alike g)

pub cut_short : (v x y z : View) (w : WheelParts) (capture cert : List ℕ) (o : Options) (c : Capture) (old new : Stream) (taps live : List Meaning) (source slot : ℕ) (e : Cause) → Taken v x y capture cert source slot → capture ≢ cert
    → IsTaken x source w o c → y.faults_in ≡ x.faults_in → WritesOn y z slot → GetsBothFront e w c.instants y z slot old.taken new.taken taps live → StoppedBoth y z old new e → old.faults ≤ new.faults → (IsTrue old.steady → IsTrue new.steady)
    → Tells (Past capture (IsCertifiedPast v w capture cert o)) (Some cert) v z old new (λ marks. live ≡ told_all marks taps) (Err e)
cut_short v x y z w capture cert o c old new taps live source slot e t apart k same keeps f s later still = record {
  served = record {
    work = after (read_slot capture (y.place source).at) (record (after (write_slot cert) rest) { made = Some (beside_text f.before ++ f.beside) });
    allowed = ((y.place source).at, (record (after (write_slot cert) rest) { made = Some (beside_text f.before ++ f.beside) }, (record { went = inr (rest, (takes, refl)) }, refl)));
    ends = refl;
    closes = refl;
    out = f.texts.out;
    shelf = put_into v x y z capture cert (beside_text f.before ++ f.beside) source slot t keeps f.texts.file;
    read = λ is. let fault : e ≡ cause.ReadFault = cc in absurd (no_read e s.kinds fault);
    read_settled = λ a b m. keeps.reads ∙ same ∙ t.begun.reads;
    write = λ is. let fault : e ≡ cause.WriteFault = cc in by_fault (s.fault fault);
    write_settled = λ a. let kept = s.settled (λ is. a (ap Err is)) in (kept.0, kept.1 ∙ t.keeps.out ∙ t.begun.writes);
    calm = λ is steady files. let fault : e ≡ cause.WriteFault = cc in s.calm fault steady (t.keeps.steady (t.begun.touches.steady files));
    later = later;
    steady = still;
  };
  heard = λ n. f.heard (stops_write e s.kinds n);
}
  where
    rest : Work
    rest = record (stopped [] e) { out = lines_text f.before ++ f.line; made = Some (beside_text f.before ++ f.beside); marks = marks_beside f.before }

    no_end : (d : Done) → ◌≡◌ {A = Result Done Cause} (Err e) (Ok d) → ⊥
    no_end d is = cc

    takes : Takes v (FileGives v.file capture) (HasNamedCapture v.file capture w o) (λ c. WritesCertified w c) (record (stopped [] e) { out = lines_text f.before ++ f.line; made = Some (beside_text f.before ++ f.beside); marks = marks_beside f.before })
    takes = record {
      went = inr (
        c,
        (
          accepted v x w capture o c source (begun_left v x capture cert source slot t.begun apart) k,
          (
            record {
              went = inr (record {
                before = f.before;
                cut = f.cut;
                rest = f.rest;
                end = ended_by c.end;
                is_due = (f.certified, refl);
                why = e;
                stops = s.kinds;
                line = f.line;
                beside = f.beside;
                are_cut = f.are_cut;
                marks = marks_beside f.before;
                told = λ is. refl;
                came = refl;
              });
            },
            λ d is. absurd (no_end d is),
          ),
        ),
      );
    }

    by_fault : Rose old.faults new.faults ⊎ FailedWrite y z → Rose old.faults new.faults ⊎ FailedWrite v z
    by_fault (inl rose) = inl rose
    by_fault (inr failed) = inr (failed_before v y z (t.keeps.out ∙ t.begun.writes) (λ steady. t.keeps.steady (t.begun.touches.steady steady)) failed)

pub whole : (v x y z : View) (w : WheelParts) (capture cert : List ℕ) (o : Options) (c : Capture) (old new : Stream) (taps live : List Meaning) (source slot : ℕ) → Taken v x y capture cert source slot → capture ≢ cert
    → IsTaken x source w o c → y.faults_in ≡ x.faults_in → WritesOn y z slot → GetsBoth w c.instants y z slot old.taken new.taken taps live → (new.faults ≡ old.faults) × (z.faults_out ≡ y.faults_out) → (IsTrue old.steady → IsTrue new.steady)
    → Tells (Past capture (IsCertifiedPast v w capture cert o)) (Some cert) v z old new (λ marks. live ≡ told_all marks taps) (ended_by c.end)
whole v x y z w capture cert o c old new taps live source slot t apart k same keeps g quiet still = record {
  served = record {
    work = after (read_slot capture (y.place source).at) (record (after (write_slot cert) rest) { made = Some (beside_text g.all) });
    allowed = ((y.place source).at, (record (after (write_slot cert) rest) { made = Some (beside_text g.all) }, (record { went = inr (rest, (takes, refl)) }, refl)));
    ends = refl;
    closes = refl;
    out = g.texts.out;
    shelf = put_into v x y z capture cert (beside_text g.all) source slot t keeps g.texts.file;
    read = λ is. absurd ((no_fault c.end).0 is);
    read_settled = λ a b m. keeps.reads ∙ same ∙ t.begun.reads;
    write = λ is. absurd ((no_fault c.end).1 is);
    write_settled = λ a. (quiet.0, quiet.1 ∙ t.keeps.out ∙ t.begun.writes);
    calm = λ is steady files. (no_fault c.end).1 is;
    later = omega (arith, quiet.0);
    steady = still;
  };
  heard = λ n. g.heard;
}
  where
    rest : Work
    rest = record { opened = []; out = lines_text g.all; made = Some (beside_text g.all); marks = marks_beside g.all; tails = []; end = ended_by c.end }

    takes : Takes v (FileGives v.file capture) (HasNamedCapture v.file capture w o) (λ c. WritesCertified w c) (record { opened = []; out = lines_text g.all; made = Some (beside_text g.all); marks = marks_beside g.all; tails = []; end = ended_by c.end })
    takes = record {
      went = inr (
        c,
        (
          accepted v x w capture o c source (begun_left v x capture cert source slot t.begun apart) k,
          (
            record { went = inl (g.all, (ended_by c.end, ((g.certified, refl), refl))) },
            λ d is. (beside_text g.all, (refl, g.believed)),
          ),
        ),
      );
    }

-- what the rest says of files is so of those that were told before
pub over_before : (t v : View) (opened : List Opened) (tails : List ℕ → List ℕ) (w : WheelParts) (capture cert : List ℕ) (o : Options) (work : Work) → Touches t v opened None None → IsCertifiedOver v tails w capture cert o work
    → IsCertifiedOver t tails w capture cert o work
over_before t v opened tails w capture cert o work p r = opens_before t v opened capture tails (IsCertifiedPast v w capture cert o) (IsCertifiedPast t w capture cert o) work p (λ rest n. record { went = by rest n.went }) r
  where
    by : (rest : Work) → ((e : Cause) × (StopsWrite e × (rest ≡ stopped [] e))) ⊎ ((more : Work) × (Takes v (FileGives v.file capture) (HasNamedCapture v.file capture w o) (λ c. WritesCertified w c) more × (rest ≡ record (after (write_slot cert) more) { made = Some (unwrap_or more.made []) })))
        → ((e : Cause) × (StopsWrite e × (rest ≡ stopped [] e))) ⊎ ((more : Work) × (Takes t (FileGives t.file capture) (HasNamedCapture t.file capture w o) (λ c. WritesCertified w c) more × (rest ≡ record (after (write_slot cert) more) { made = Some (unwrap_or more.made []) })))
    by rest (inl stops) = inl stops
    by rest (inr (more, (n, is))) = inr (more, (takes_before t v opened w capture o (λ c. WritesCertified w c) more p n, is))
