-- The line that is due for a wheel.
use Rattle.std.proofs.Common.{◌≡◌, ℕ, List, length, Ok, refl, ◌∙◌, ap}
use Rattle.gap_thresholds.specs.declared.cuts.Cuts.{Cuts}
use Rattle.gap_thresholds.specs.Classes.{times_of, ratios_of}
use Rattle.position_nfa.specs.declared.nfa.Nfa.{Nfa}
use Rattle.position_nfa.specs.Alphabets.{IsAlphabetOf, wheel, count}
use Rattle.position_nfa.specs.Views.{alphabet}
use Rattle.run_ends.specs.declared.cause.Done.TheVariants.{Whole}
use Rattle.table_commands.specs.States.{CountsStates}
use Rattle.table_commands.specs.Size.{IsSized, size_text}

-- it is that of the numbers that were counted
pub sized : (nfa : Nfa) (cuts : Cuts) (p t r q : ℕ) (text : List ℕ) → IsAlphabetOf (wheel (alphabet nfa)) (alphabet nfa) → cuts ≡ (alphabet nfa).cuts → p ≡ count (alphabet nfa)
    → t ≡ length (times_of cuts) → r ≡ length (ratios_of cuts) → CountsStates (alphabet nfa) q → text ≡ size_text (record { places = p; times = t; ratios = r; states = q })
    → IsSized (wheel (alphabet nfa)) text (Ok Whole)
sized nfa cuts p t r q text own same places times ratios states is = (
  record { places = p; times = t; ratios = r; states = q },
  (
    record {
      alphabet = alphabet nfa;
      own = own;
      places = places;
      times = times ∙ ap (λ (c : Cuts). length (times_of c)) same;
      ratios = ratios ∙ ap (λ (c : Cuts). length (ratios_of c)) same;
      states = states;
    },
    (is, refl),
  ),
)
