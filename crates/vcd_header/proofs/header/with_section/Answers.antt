use Rattle.vcd_header.proofs.KeptWords.{becomes_kept}
use Rattle.vcd_header.proofs.header.with_section.Goals as goal

pub returns : goal.returns
returns c = becomes_kept c.with_words.result c.args.wanted.now c.args.header.now c.with_words.new.header c.args.section c.args.words.now c.with_words.ensures
