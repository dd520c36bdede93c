use Rattle.std.proofs.Common.{ℕ, ◌+◌, List, sym, subst, ◌∙◌, arith, rules, w64, All}
use Rattle.std.proofs.lemmas.Int.{ints}
use Rattle.std.proofs.lemmas.List.Elements.{All-push}
use Rattle.std.proofs.lemmas.Nat.Bits.{bit_at-trailing_zeros}
use Rattle.std.specs.Int.{trailing_zeros}
use Rattle.wheel_types.specs.declared.place.Place.{Place}
use Rattle.image_layout.proofs.Images.{no_fault}
use Rattle.image_format.proofs.Tables.{layout_tells}
use Rattle.pair_certificate.specs.Reports.{IsPlaceInRange}
use Rattle.replay_core.proofs.Members.{inside, in_word, is_member, pushed_on, rest_on, none_left}
use Rattle.replay_core.proofs.cover.add_word.Goals as goal

pub place-requires : goal.place-requires
place-requires c =
    let b = c.args.view.now.bytes.now in
    let q : ℕ = c.args.state in
    let w : ℕ = c.args.word in
    let left : ℕ = c.loop-left.left in
    let rest = c.loop-left.invariant.rest in
    let low = bit_at-trailing_zeros w64 left (omega arith) (search rules) in
    let within = in_word b q w c.loop-left.number left rest (trailing_zeros w64 left) low.1 low.2 in
    let word = c.requires.word in
    inside b q (layout_tells b (no_fault _ c.args.view.now.keeps)) c.requires.state (c.loop-left.number + trailing_zeros w64 left)
    (omega (arith, within, word)) (is_member b q w c.loop-left.number left rest (trailing_zeros w64 left) low.1 low.2)

pub loop-left-preserved : goal.loop-left-preserved
loop-left-preserved c =
    let b = c.args.view.now.bytes.now in
    let q : ℕ = c.args.state in
    let w : ℕ = c.args.word in
    let n : ℕ = c.loop-left.number in
    let left : ℕ = c.loop-left.left in
    let t : ℕ = trailing_zeros w64 left in
    let rest = c.loop-left.invariant.rest in
    let low = bit_at-trailing_zeros w64 left (omega arith) (search rules) in
    let range : IsPlaceInRange c.place.result = record {
      j = omega arith;
      n1 = (omega (arith, ints), omega (arith, ints));
      n2 = (omega (arith, ints), omega (arith, ints));
    } in
    record {
      rest = rest_on b q w n left rest t low.1 low.2;
      places = pushed_on b q w n left rest t low.1 low.2 _ _ _ c.in_ok-push.ensures.items c.loop-left.invariant.places c.place.ensures;
      range = subst (All IsPlaceInRange) (sym {A = List Place} c.in_ok-push.ensures.items)
          (All-push IsPlaceInRange c.loop-left.places.items c.place.result c.loop-left.invariant.range range);
    }

pub returns-clause-after : goal.returns-clause-after
returns-clause-after c =
    let b = c.args.view.now.bytes.now in
    c.loop-left.invariant.places
    ∙ sym (none_left b c.args.state c.args.word c.loop-left.number c.loop-left.left c.loop-left.invariant.rest (omega arith))
