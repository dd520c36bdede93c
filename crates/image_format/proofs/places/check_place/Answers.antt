use Rattle.std.proofs.Common.{◌≡◌, ◌∙◌, ◌-◌, arith, false, sym}
use Rattle.std.proofs.lemmas.Bool.{or_from, ne_eqb}
use Rattle.image_layout.specs.Fields.{place_at}
use Rattle.image_layout.specs.ListRules.{is_below}
use Rattle.image_layout.proofs.Firsts.{first_next, first_found, unless_true, unless_false}
use Rattle.image_format.proofs.places.check_place.Goals as goal

pub returns-then-not-is_below : goal.returns-then-not-is_below
returns-then-not-is_below c =
    let b = c.args.bytes.now in
    let below : is_below (place_at b (c.args.i - 1)) (place_at b c.args.i) ≡ false = rw (c.place-before.ensures, c.place-here.ensures) at (sym c.if-not-is_below.ensures) in
    first_next _ _ (unless_true _ _ (cc))
    ∙ first_found _ _ _ (unless_false _ _ (or_from _ _ (ne_eqb _ _ (λ e. omega arith)) below))
