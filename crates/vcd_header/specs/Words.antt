-- The words of a header's section that a reader keeps.
use Rattle.std.specs.Prelude.{ℕ, Bool, false, nat_lt, List, [], ◌∷◌, take}
use Rattle.std.specs.List.{flat_map}
use Rattle.vcd_header.specs.declared.section.Section.{Section}
use Rattle.vcd_header.specs.declared.section.Section.TheVariants.{Timescale, Scope, Upscope, Variable, EndDefinitions, Other}

-- the first six bytes of the words of a timescale, as one word: a timescale has five at most
abbrev pub front_word : List (List ℕ) → List (List ℕ)
front_word [] = []
front_word (w ∷ words) = take 6 (flat_map (λ x. x) (w ∷ words)) ∷ []

-- what the section's end needs: the front of a timescale's words, two words of a scope, four of a variable, and none of another section
abbrev pub kept_words : Section → List (List ℕ) → List (List ℕ)
kept_words Timescale words = front_word words
kept_words Scope words = take 2 words
kept_words Variable words = take 4 words
kept_words Upscope words = []
kept_words EndDefinitions words = []
kept_words Other words = []

-- one more is kept as it is, where so many are
abbrev pub is_kept : Section → ℕ → Bool
is_kept Timescale count = false
is_kept Scope count = nat_lt count 2
is_kept Variable count = nat_lt count 4
is_kept Upscope count = false
is_kept EndDefinitions count = false
is_kept Other count = false
