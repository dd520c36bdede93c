use Rattle.std.proofs.Common.{◌∙◌, []}
use Rattle.capture_file.proofs.DumpCaptures.{dump_instants, dump_capture, dump_rises, dump_within}
use Rattle.capture_file.proofs.read.read_vcd.Goals as goal

pub returns-clause-capture : goal.returns-clause-capture
returns-clause-capture c =
    let begins = c.in_ok-reader.ensures.stands in
    dump_capture c.args.names.now c.args.watch c.args.bytes.now c.read_through.new.reader _ c.in_ok-end.end
    (c.in_ok-end.ensures.stands c.args.names.now c.args.watch [] [] begins) (c.from_vec.ensures ∙ c.in_ok-instants.ensures) (c.in_ok-end.ensures.end c.args.names.now c.args.watch [] [] begins)

pub returns-clause-rising : goal.returns-clause-rising
returns-clause-rising c =
    dump_rises c.args.names.now c.args.watch c.args.bytes.now _
    (c.from_vec.ensures ∙ c.in_ok-instants.ensures ∙ dump_instants c.args.names.now c.args.watch c.args.bytes.now c.read_through.new.reader (c.in_ok-end.ensures.stands c.args.names.now c.args.watch [] [] c.in_ok-reader.ensures.stands))

pub returns-clause-within : goal.returns-clause-within
returns-clause-within c =
    dump_within c.args.names.now c.args.watch c.args.bytes.now _
    (c.from_vec.ensures ∙ c.in_ok-instants.ensures ∙ dump_instants c.args.names.now c.args.watch c.args.bytes.now c.read_through.new.reader (c.in_ok-end.ensures.stands c.args.names.now c.args.watch [] [] c.in_ok-reader.ensures.stands))
