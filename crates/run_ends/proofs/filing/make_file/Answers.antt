use Rattle.run_ends.proofs.CreatedFiles.{makes}
use Rattle.run_ends.proofs.filing.make_file.Goals as goal

pub returns : goal.returns
returns g c =
    makes _ _ _ _ _ c.in_ok-slot.slot _ c.in_ok-slot.ensures.created c.put_piece.ensures.keeps c.put_piece.ensures.grows c.put_piece.ensures.settled c.put_piece.ensures.front c.put_piece.ensures.stopped
