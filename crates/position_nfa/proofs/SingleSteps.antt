-- Laws of single steps.
use Rattle.std.proofs.Common.{◌≡◌, ℕ, ◌<◌, inl, inr, sym, ap, arith}
use Rattle.std.proofs.lemmas.Bool.Decides.{nat_tests}
use Rattle.std.specs.Prelude.{Option, Some, None}
use Rattle.position_nfa.specs.declared.pair.Pair.{Pair}
use Rattle.position_nfa.specs.Alphabets.{time_classes, ratio_classes}
use Rattle.position_nfa.specs.Letters.{leads}
use Rattle.position_nfa.specs.Sets.{effect}
use Rattle.position_nfa.specs.Step.{state_if, state_of}
use Rattle.position_nfa.specs.StepLaws.{OtherLettersLeadNowhere, StepsMakeSets}

past_five : (times ratios phase column : ℕ) → 5 < phase → leads times ratios phase column ≡ None
past_five times ratios phase column h = grind (arith, nat_tests)

pub other_letters_lead_nowhere : OtherLettersLeadNowhere
other_letters_lead_nowhere a p column (inl none) = ap (λ o. state_if a o column p) none
other_letters_lead_nowhere a p column (inr past) = ap (λ o. state_if a o column p) (past_five (time_classes a) (ratio_classes a) p.phase column past)

pub steps_make_sets : StepsMakeSets
steps_make_sets a p q column h = by (leads (time_classes a) (ratio_classes a) p.phase column) h
  where
    by : (o : Option ℕ) → state_if a o column p ≡ Some q → q.set ≡ effect a column p.set
    by None e = absurd (cc)
    by (Some to) e =
        let d : state_of (record { phase = to; set = effect a column p.set }) ≡ q = cc in
        ap (λ (r : Pair). r.set) (sym d)
