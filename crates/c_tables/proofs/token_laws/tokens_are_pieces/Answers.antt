use Rattle.c_tables.proofs.Pieces.{tokens-are_pieces}
use Rattle.c_tables.proofs.token_laws.tokens_are_pieces.Goals as goal

pub returns : goal.returns
returns c = tokens-are_pieces
