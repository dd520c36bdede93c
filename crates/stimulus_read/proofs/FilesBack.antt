-- A stimulus' own files read back.
use Rattle.std.proofs.Common.{◌∙◌, ap}
use Rattle.csv_capture.specs.Captures.{csv_capture}
use Rattle.vcd_reader.specs.Dumps.{vcd_capture}
use Rattle.stimulus_files.specs.FilesOf.{watch_of}
use Rattle.stimulus.proofs.WritableFiles.{stimuli_are_writable}
use Rattle.stimulus_read.specs.ReadBack.{CsvReadsBack, VcdReadsBack}
use Rattle.stimulus_read.proofs.TablesBack.{table_back}
use Rattle.stimulus_read.proofs.VcdBack.{vcd_back}

pub vcd_reads_back : VcdReadsBack
vcd_reads_back w names seed gaps is bytes wheel few times default s text =
    let can = stimuli_are_writable w seed gaps is wheel few times s in
    ap (vcd_capture names (watch_of w)) text.1.1 ∙ vcd_back (watch_of w) names is text.0 default s.rise can.2 can.1 text.1.0

pub csv_reads_back : CsvReadsBack
csv_reads_back w names seed gaps is bytes wheel few times default s text =
    let can = stimuli_are_writable w seed gaps is wheel few times s in
    ap (csv_capture names (watch_of w)) text.1.1 ∙ table_back (watch_of w) names is text.0 default s.rise can.2 can.1 text.1.0
