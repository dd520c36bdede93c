use Rattle.std.proofs.Common.{◌∙◌, ap, length, ◌++◌, take, List, ℕ}
use Rattle.vcd_header.proofs.KeptWords.{front_kept}
use Rattle.vcd_header.proofs.section.keep_front.Goals as goal

pub returns : goal.returns
returns c = record {
  ok = λ all is.
      let taken = c.front_of-front.ensures all is in
      front_kept all c.front_of-front.result c.args.text.now c.extend_from_slice.new.self.items _ c.push.new.self.items c.saturating_sub-room.result c.min-count.result (length c.as_slice.result.now)
      taken.0 (c.words.view_is ∙ taken.1) (ap (λ (l : List ℕ). length l) c.as_slice.ensures) c.saturating_sub-room.ensures c.min-count.ensures
      (c.in_ok-extend_from_slice.ensures.items ∙ ap (λ (l : List ℕ). l ++ take c.min-count.result c.args.text.now) c.front.view_is) c.in_ok-push.ensures.items;
}
