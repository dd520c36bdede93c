-- What words give, past the command.
use Rattle.std.specs.Prelude.{ℕ, List, [], ◌∷◌, Some, None, option_map, option_and_then, if◌then◌else◌}
use Rattle.std.specs.Option.{is_none}
use Rattle.std.specs.declared.option.Option.{Option}
use Rattle.command_words.specs.declared.options.Wanted.{Wanted}
use Rattle.command_words.specs.declared.options.Wanted.TheVariants.{Name, Cert}
use Rattle.command_words.specs.declared.spoken.Spoken.{Spoken as Borrowed}
use Rattle.command_words.specs.Options.{Options, no_options, options_of, wanted_by, once, with_option}
use Rattle.command_words.specs.Same.{is_option, is_operand}

-- the operands in order, the options, the file of a certificate, and what still wants its value
pub record Spoken : Type 0 where
  pub first : Option (List ℕ)
  pub second : Option (List ℕ)
  pub third : Option (List ℕ)
  pub fourth : Option (List ℕ)
  pub options : Options
  pub cert : Option (List ℕ)
  pub wants : Option Wanted

-- before the first word
abbrev pub silence : Spoken
silence = record { first = None; second = None; third = None; fourth = None; options = no_options; cert = None; wants = None }

-- the texts of borrowed words
abbrev pub spoken_of : Borrowed → Spoken
spoken_of s = record {
  first = option_map (λ t. t.now) s.first;
  second = option_map (λ t. t.now) s.second;
  third = option_map (λ t. t.now) s.third;
  fourth = option_map (λ t. t.now) s.fourth;
  options = options_of s.options;
  cert = option_map (λ t. t.now) s.cert;
  wants = s.wants;
}

-- one more operand, of which there are at most four
abbrev pub with_operand : Spoken → List ℕ → Option Spoken
with_operand s word =
    if is_none s.first then Some (record s { first = Some word })
    else if is_none s.second then Some (record s { second = Some word })
    else if is_none s.third then Some (record s { third = Some word })
    else if is_none s.fourth then Some (record s { fourth = Some word })
    else None

-- a word that no option wants: an option's name, or an operand
abbrev pub with_word : Spoken → List ℕ → Option Spoken
with_word s word =
    if is_option word then option_map (λ w. record s { wants = Some w }) (wanted_by word)
    else if is_operand word then with_operand s word
    else None

-- the value of an option that wants it, whatever that is, where the option was not given before
abbrev pub with_value : Spoken → Wanted → List ℕ → Option Spoken
with_value s (Name name) word = option_map (λ o. record s { options = o; wants = None }) (with_option s.options name word)
with_value s Cert word = option_map (λ c. record s { cert = c; wants = None }) (once s.cert word)

-- one more word, whatever it is where an option wants it
abbrev pub after_word : Spoken → Option Wanted → List ℕ → Option Spoken
after_word s None word = with_word s word
after_word s (Some wants) word = with_value s wants word

-- all words, one after the other
abbrev pub after_words : Spoken → List (List ℕ) → Option Spoken
after_words s [] = Some s
after_words s (word ∷ words) = option_and_then (λ t. after_words t words) (after_word s s.wants word)
