-- The states of a wheel's table, and their limit.
use Rattle.std.specs.Prelude.{◌≡◌, ℕ, List, length}
use Rattle.wheel_types.specs.declared.parts.WheelParts.{WheelParts}
use Rattle.position_nfa.specs.declared.pair.Pair.{Pair}
use Rattle.position_nfa.specs.Alphabets.{Alphabet, IsAlphabetOf}
use Rattle.position_nfa.specs.Families.{IsLeastFamily}
use Rattle.subset_build.specs.Families.{HasMore}
use Rattle.subset_build.specs.Limit.{effective_limit}
use Rattle.run_ends.specs.declared.cause.Cause.{Cause}
use Rattle.run_ends.specs.declared.cause.Cause.TheVariants as cause
use Rattle.run_ends.specs.declared.cause.Limit.TheVariants as limit

-- the limit on states that commands give
abbrev pub given_limit : ℕ
given_limit = 65535

-- the least family over an alphabet has so many states
pub record CountsStates (a : Alphabet) (count : ℕ) : Type 0 where
  pub states : List Pair
  pub family : IsLeastFamily a states
  pub many : count ≡ length states

-- the least family of a wheel has no more states than the limit that holds
pub record HasFewStates (w : WheelParts) : Type 0 where
  pub alphabet : Alphabet
  pub own : IsAlphabetOf w alphabet
  pub few : ¬ HasMore alphabet (effective_limit alphabet given_limit)

-- it has more than this limit, which is the one that holds
pub record HasManyStates (w : WheelParts) (most : ℕ) : Type 0 where
  pub alphabet : Alphabet
  pub own : IsAlphabetOf w alphabet
  pub holds : most ≡ effective_limit alphabet given_limit
  pub many : HasMore alphabet most

-- a wheel gives this cause by its family: it has more states than the limit that holds
abbrev pub FamilyGives : WheelParts → Cause → Type 0
FamilyGives w (cause.Limit (limit.States most)) = HasManyStates w most
FamilyGives w e = ⊥
