use Rattle.std.proofs.Common.{◌≡◌, drop, map, string_bytes}
use Rattle.command_words.specs.Spoken.{spoken_of, silence, after_words}
use Rattle.command_words.proofs.spoken.hear.Given as goal

abbrev pub invariant-loop-word : goal.invariant-loop-word
invariant-loop-word l = after_words silence (map string_bytes l.words) ≡ after_words (spoken_of l.spoken) (map string_bytes (drop l.word-index l.words))
