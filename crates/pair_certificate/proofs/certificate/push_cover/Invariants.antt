use Rattle.std.proofs.Common.{◌≡◌, ◌++◌, string_bytes, drop}
use Rattle.pair_certificate.specs.Certificates.{cover_text}
use Rattle.pair_certificate.proofs.certificate.push_cover.Given as goal

abbrev pub invariant-loop-place : goal.invariant-loop-place
invariant-loop-place l = string_bytes l.line ++ cover_text (drop l.place-index l.cover) ≡ string_bytes l.fn.line ++ cover_text l.cover
