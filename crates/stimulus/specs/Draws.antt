-- Numbers drawn from a generator: each takes its next two words.
use Rattle.std.specs.Prelude.{ℕ, zero, suc, ◌+◌, ◌-◌, ◌*◌, ◌%◌, ◌^◌, ℤ, pos, ◌+ℤ◌, ◌-ℤ◌, unsigned_abs}
use Rattle.rand_pcg.specs.Lcg.{Lcg, started, increment_of}
use Rattle.rand_pcg.specs.Pcg.{multiplier_64, pcg32}

-- the generator of a seed and a stream
unfoldable pub generator_of : ℕ → ℕ → Lcg
generator_of seed stream = started 64 multiplier_64 seed (increment_of 64 stream)

-- the next word of 32 bits
abbrev pub word_of : Lcg → ℕ
word_of g = (pcg32 g).0

-- the generator after it
abbrev pub after_word : Lcg → Lcg
after_word g = (pcg32 g).1

-- the next two words, the low one first
unfoldable pub two_words : Lcg → ℕ
two_words g = word_of g + 2 ^ 32 * word_of (after_word g)

-- the generator after them
unfoldable pub after_draw : Lcg → Lcg
after_draw g = after_word (after_word g)

-- the generator before draw n, from 0
abbrev pub before_draw : Lcg → ℕ → Lcg
before_draw g zero = g
before_draw g (suc n) = after_draw (before_draw g n)

-- how far above its least number a draw from so many numbers comes
abbrev pub part_of : ℕ → Lcg → ℕ
part_of count g = two_words g % count

-- the number that is drawn from `low` to `high`
abbrev pub drawn : ℕ → ℕ → Lcg → ℕ
drawn low high g = low + part_of (high - low + 1) g

-- the angle that is drawn from `low` to `high`
abbrev pub drawn_angle : ℤ → ℤ → Lcg → ℤ
drawn_angle low high g = low +ℤ pos (part_of (unsigned_abs (high -ℤ low) + 1) g)
