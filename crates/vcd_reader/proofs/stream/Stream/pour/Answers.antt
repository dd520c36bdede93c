use Rattle.std.proofs.Common.{◌<◌, ◌++◌, ◌∷◌, [], List, ℕ, length, take, get_or, append_assoc, ap, sym, subst, ◌∙◌, arith}
use Rattle.std.proofs.lemmas.List.{take_more}
use Rattle.vcd_reader.specs.Streams.{StandsFor}
use Rattle.vcd_reader.proofs.stream.Stream.pour.Goals as goal

pub bytes-preserved : goal.bytes-preserved
bytes-preserved c =
    let inside : c.bytes.b-index < length c.args.piece.now = omega arith in
    record {
      count = omega (arith, c.byte.ensures.count, c.bytes.invariant.count);
      stands = λ wanted watch handed bytes s.
          subst (λ (read : List ℕ). StandsFor wanted watch handed c.byte.new.self read)
          (append_assoc bytes (take c.bytes.b-index c.args.piece.now) (get_or c.args.piece.now c.bytes.b-index 0 ∷ [])
          ∙ ap (λ (l : List ℕ). bytes ++ l) (sym (take_more c.args.piece.now c.bytes.b-index 0 inside)))
          (c.in_ok-byte.ensures.ok wanted watch handed (bytes ++ take c.bytes.b-index c.args.piece.now) (c.bytes.invariant.stands wanted watch handed bytes s));
    }
