use Rattle.csv_capture.proofs.Reading.{stands_first}
use Rattle.csv_capture.proofs.records.Records.new.Goals as goal

pub returns : goal.returns
returns c = stands_first _ _ c.row_reader.ensures
