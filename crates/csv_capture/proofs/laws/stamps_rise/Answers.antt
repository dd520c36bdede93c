use Rattle.csv_capture.proofs.Rising.{stamps-rise}
use Rattle.csv_capture.proofs.laws.stamps_rise.Goals as goal

pub returns : goal.returns
returns c = stamps-rise
