-- What the kinds of an image say.
use Rattle.std.specs.Prelude.{◌≡◌, ℕ, ◌<◌, List, length, slice_get, slice_index_or, Some}
use Rattle.place_words.specs.Words.{IsSet}
use Rattle.position_nfa.specs.declared.pair.Pair.{Pair}
use Rattle.position_nfa.specs.Alphabets.{Alphabet, count}
use Rattle.image_layout.specs.declared.kind.Kind.{Kind}
use Rattle.image_layout.specs.declared.kind.Kind.TheVariants as kinds
use Rattle.position_nfa.specs.Sound.{Says, Nothing, At, Open, SetSays}

-- the same of the engine's position
abbrev pub says_of : Kind → Says
says_of kinds.Dead = Nothing
says_of (kinds.At j) = At j
says_of (kinds.Open e f) = Open e f

-- each state has a set of the alphabet's places
abbrev pub AreSets : Alphabet → List Pair → Type 0
AreSets a states = (q : ℕ) (p : Pair) → slice_get states q ≡ Some p → IsSet (count a) p.set

-- the first n states have kinds, which say what their sets say
pub record KindsSayTo (a : Alphabet) (states : List Pair) (n : ℕ) (list : List Kind) : Type 0 where
  pub long : length list ≡ n
  pub says : (q : ℕ) (p : Pair) → q < n → slice_get states q ≡ Some p → SetSays a p.set (says_of (slice_index_or list q kinds.Dead))
