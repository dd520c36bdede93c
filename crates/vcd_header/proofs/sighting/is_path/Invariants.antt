use Rattle.std.proofs.Common.{◌≡◌, drop}
use Rattle.vcd_header.specs.Headers.{path_of}
use Rattle.vcd_header.specs.Texts.{same}
use Rattle.vcd_header.proofs.sighting.is_path.Given as goal

abbrev pub invariant-scopes : goal.invariant-scopes
invariant-scopes l = same (path_of (drop l.scope-index l.scopes) l.own) l.rest ≡ same (path_of l.fn.scopes l.fn.own) l.fn.name
