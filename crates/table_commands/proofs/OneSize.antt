-- One wheel has one line of sizes.
use Rattle.std.proofs.Common.{◌≡◌, ℕ, ◌≤◌, length, sym, ap, subst, ◌∙◌, arith}
use Rattle.std.proofs.lemmas.Map.Made.{length-le_from_is_member}
use Rattle.std.proofs.lemmas.Map.Views.{list_any-from_Contains, Contains-from_any}
use Rattle.wheel_types.specs.declared.parts.WheelParts.{WheelParts}
use Rattle.wheel_pattern.proofs.OneMeaning.{one_wheel}
use Rattle.position_nfa.specs.Alphabets.{Alphabet}
use Rattle.position_nfa.proofs.States.{same-equal, same-laws}
use Rattle.table_commands.specs.States.{CountsStates}
use Rattle.table_commands.specs.Size.{Sizes, HasSizes, size_text}
use Rattle.table_commands.specs.Laws.{OneSize}
use Rattle.table_commands.proofs.OneFamily.{IsSameAs, one_alphabet, reached}

-- the states of the one are among those of the other
no_more : (a b : Alphabet) (m n : ℕ) → IsSameAs a b → CountsStates b m → CountsStates a n → m ≤ n
no_more a b m n s c k =
    let fewer : length c.states ≤ length k.states = length-le_from_is_member same-laws c.states k.states c.family.once (λ q h.
    let word = c.family.sound q (Contains-from_any same-equal q c.states h) in
    list_any-from_Contains same-laws q k.states (k.family.whole q (word.0, reached a b s word.0 q word.1))) in
    omega (arith, fewer, c.many, k.many)

both_ways : (m n : ℕ) → m ≤ n → n ≤ m → m ≡ n
both_ways m n h k = omega (arith, h, k)

sizes_by : (s t : Sizes) → s.places ≡ t.places → s.times ≡ t.times → s.ratios ≡ t.ratios → s.states ≡ t.states → s ≡ t
sizes_by s t places times ratios states = λ i. record { places = places i; times = times i; ratios = ratios i; states = states i }

same_sizes : (w : WheelParts) (s t : Sizes) → HasSizes w s → HasSizes w t → s ≡ t
same_sizes w s t h k =
    let same = one_alphabet w h.alphabet k.alphabet h.own k.own in
    let back = one_alphabet w k.alphabet h.alphabet k.own h.own in
    sizes_by s t
    (h.places ∙ ap length same.places ∙ sym k.places) (h.times ∙ ap length same.times ∙ sym k.times) (h.ratios ∙ ap length same.ratios ∙ sym k.ratios)
    (both_ways s.states t.states (no_more k.alphabet h.alphabet s.states t.states back h.states k.states) (no_more h.alphabet k.alphabet t.states s.states same k.states h.states))

pub one_size : OneSize
one_size bytes w v text other end last file file_too (s, (h, (is, done))) (t, (k, (other_is, over))) =
    let wheel : v ≡ w = one_wheel bytes v w file_too file in
    is ∙ ap size_text (same_sizes w s t h (subst (λ u. HasSizes u t) wheel k)) ∙ sym other_is
