use Rattle.std.proofs.Common.{ap, rules, string_bytes}
use Rattle.std.proofs.Math.Seq.{map-set_same}
use Rattle.std.proofs.lemmas.List.{map-set}
use Rattle.mem_io.proofs.mem_files.Files.empty.Goals as goal

pub returns-clause-names : goal.returns-clause-names
returns-clause-names c = map-set_same (λ f. string_bytes f.0) _ _ _ c.index_mut.result.now (ap (λ f. string_bytes f.0) c.index_mut.ensures.value)

pub returns-clause-contents : goal.returns-clause-contents
returns-clause-contents c = simp map-set (search rules)
