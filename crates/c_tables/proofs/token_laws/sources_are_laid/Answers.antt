use Rattle.c_tables.proofs.Gaps.{sources-are_laid}
use Rattle.c_tables.proofs.token_laws.sources_are_laid.Goals as goal

pub returns : goal.returns
returns c = sources-are_laid
