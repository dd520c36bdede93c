use Rattle.csv_capture.proofs.Reading.{errors_stop, rows_read}
use Rattle.csv_capture.proofs.records.read_row.Goals as goal

pub returns-clause-reads : goal.returns-clause-reads
returns-clause-reads c =
    rows_read c.read_byte_record.result _ c.args.reader.now c.read_byte_record.new.self c.read_byte_record.ensures.reads c.read_byte_record.ensures.ready c.read_byte_record.ensures.flexible

pub returns-clause-only : goal.returns-clause-only
returns-clause-only c = errors_stop c.read_byte_record.result c.args.reader.now c.read_byte_record.new.self c.read_byte_record.ensures.why
