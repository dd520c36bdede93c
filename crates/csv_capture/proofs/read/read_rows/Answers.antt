use Rattle.std.proofs.Common.{◌∙◌, [], ◌∷◌, ◌++◌, refl, sym, ap, arith, length-append}
use Rattle.csv_capture.specs.RecordsOf.{row_of}
use Rattle.capture_core.specs.Captures.{capture_of}
use Rattle.csv_capture.specs.Captures.{with_row}
use Rattle.csv_capture.proofs.Keeping.{walks_clean, walks_on, walks_refused}
use Rattle.csv_capture.proofs.Reading.{few_rows, stands_front}
use Rattle.csv_capture.proofs.read.read_rows.Goals as goal

pub rows-init : goal.rows-init
rows-init c = record { few = (c.requires.0 ∷ [], refl, c.requires.1); told = λ header watch h k. ([], h, [], k, λ more. refl) }

pub returns-then-not-more : goal.returns-then-not-more
returns-then-not-more c = λ header watch h k.
    let (seen, reads, told, keeps, walks) = c.rows.invariant.told header watch h k in
    let all = rw c.if-not-more.true at (c.in_ok-more.ensures c.args.bytes.now (header ∷ seen) reads) in
    c.in_ok-capture.ensures watch told keeps ∙ ap (capture_of watch) (sym (walks_clean c.args.columns c.rows.number header seen _ told walks all))

pub returns-in-Err : goal.returns-in-Err
returns-in-Err c = λ header watch h k.
    let (seen, reads, told, keeps, walks) = c.rows.invariant.told header watch h k in
    let on = rw c.if-not-more.false at (c.in_ok-more.ensures c.args.bytes.now (header ∷ seen) reads) in
    let row = row_of c.advance.new.self in
    let (more, all) = stands_front c.args.bytes.now (header ∷ seen ++ row ∷ []) _ on in
    let bad = sym (c.row_stamp.ensures ∙ rw (c.row.ensures, c.last_time.ensures watch told keeps) refl) ∙ c.in-Err.is in
    c.refused.ensures watch told keeps ∙ ap (capture_of watch) (sym (walks_refused c.args.columns c.rows.number header row seen _ more told c.in-Err.fault walks all bad))

pub rows-preserved : goal.rows-preserved
rows-preserved c = record {
  few =
      let (all, count, reads) = c.rows.invariant.few in
      let on = rw c.if-not-more.false at (c.in_ok-more.ensures c.args.bytes.now all reads) in
      (all ++ row_of c.advance.new.self ∷ [], omega (arith, count, length-append all (row_of c.advance.new.self ∷ [])), on);
  told = λ header watch h k.
      let (seen, reads, told, keeps, walks) = c.rows.invariant.told header watch h k in
      let on = rw c.if-not-more.false at (c.in_ok-more.ensures c.args.bytes.now (header ∷ seen) reads) in
      let row = row_of c.advance.new.self in
      let good = sym (c.row_stamp.ensures ∙ rw (c.row.ensures, c.last_time.ensures watch told keeps) refl) ∙ c.in-Ok.is in
      (seen ++ row ∷ [], on, with_row c.in-Ok.stamp told, c.in_ok-take-in-Ok.ensures watch told keeps, walks_on c.args.columns c.rows.number row seen told c.in-Ok.stamp walks good);
}

-- a row more stands in the bytes
pub overflow_add-number : goal.overflow_add-number
overflow_add-number c =
    let (all, count, reads) = c.rows.invariant.few in
    let on = rw c.if-not-more.false at (c.in_ok-more.ensures c.args.bytes.now all reads) in
    omega (arith, count, length-append all (row_of c.advance.new.self ∷ []), few_rows c.args.bytes.now (all ++ row_of c.advance.new.self ∷ []) c.advance.new.self.reader on)

pub rows-smaller : goal.rows-smaller
rows-smaller c =
    let (all, count, reads) = c.rows.invariant.few in
    let on = rw c.if-not-more.false at (c.in_ok-more.ensures c.args.bytes.now all reads) in
    omega (arith, count, length-append all (row_of c.advance.new.self ∷ []), few_rows c.args.bytes.now (all ++ row_of c.advance.new.self ∷ []) c.advance.new.self.reader on)
