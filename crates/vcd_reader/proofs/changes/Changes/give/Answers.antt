use Rattle.std.proofs.Common.{◌∙◌, ap, ℕ, List}
use Rattle.vcd_header.specs.Texts.{same}
use Rattle.vcd_reader.proofs.Keeping.{given_three}
use Rattle.vcd_reader.proofs.changes.Changes.give.Goals as goal

pub returns-in-Some : goal.returns-in-Some
returns-in-Some c = λ watch handed waiting b k.
    let first = c.give_if.ensures.stands b.now b.closed k.levels in
    let second = c.give_if-in-Some.ensures.stands _ b.closed first in
    let third = c.give_if-in-Some-2.ensures.stands _ b.closed second in
    record {
      scale = k.scale;
      signals = k.signals;
      time = k.time;
      levels = record { known = third.known; given = third.given ∙ given_three b _ _ _ _ _ _ _ c.in-Some.is k.signals (c.eq.ensures ∙ ap (λ (x : List ℕ). same x c.args.code.now) c.as_slice.ensures) c.is_code.ensures c.is_code-in-Some.ensures; last = third.last; is_open = third.is_open };
      watched = c.give_if-in-Some-2.ensures.watch ∙ c.give_if-in-Some.ensures.watch ∙ c.give_if.ensures.watch ∙ k.watched;
      waits = k.waits;
    }
