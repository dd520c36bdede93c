-- The options of a command: the names of a capture's columns, and the file of a certificate.
use Rattle.std.specs.Prelude.{ℕ, List, codes, Some, None, option_map, if◌then◌else◌}
use Rattle.std.specs.declared.option.Option.{Option}
use Rattle.command_words.specs.declared.options.OptionName.{OptionName}
use Rattle.command_words.specs.declared.options.OptionName.TheVariants.{Time, Crank, Cam1, Cam2}
use Rattle.command_words.specs.declared.options.Wanted.{Wanted}
use Rattle.command_words.specs.declared.options.Wanted.TheVariants.{Name, Cert}
use Rattle.command_words.specs.declared.options.Options.{Options as Given}
use Rattle.command_words.specs.Same.{same}

-- the names that options give
pub record Options : Type 0 where
  pub time : Option (List ℕ)
  pub crank : Option (List ℕ)
  pub cam1 : Option (List ℕ)
  pub cam2 : Option (List ℕ)

-- no option is given
abbrev pub no_options : Options
no_options = record { time = None; crank = None; cam1 = None; cam2 = None }

-- the texts of borrowed words
abbrev pub options_of : Given → Options
options_of o = record { time = option_map (λ s. s.now) o.time; crank = option_map (λ s. s.now) o.crank; cam1 = option_map (λ s. s.now) o.cam1; cam2 = option_map (λ s. s.now) o.cam2 }

-- the option that a word names
abbrev pub option_named : List ℕ → Option OptionName
option_named word =
    if same word (codes "--time") then Some Time
    else if same word (codes "--crank") then Some Crank
    else if same word (codes "--cam1") then Some Cam1
    else if same word (codes "--cam2") then Some Cam2
    else None

-- what the option that a word names wants: the file of a certificate, or a name of the capture's columns
abbrev pub wanted_by : List ℕ → Option Wanted
wanted_by word = if same word (codes "--cert") then Some Cert else option_map (λ name. Name name) (option_named word)

-- a value where none was before
abbrev pub once : Option (List ℕ) → List ℕ → Option (Option (List ℕ))
once None value = Some (Some value)
once (Some before) value = None

-- the options with one more, where it was not given yet
abbrev pub with_option : Options → OptionName → List ℕ → Option Options
with_option o Time value = option_map (λ v. record o { time = v }) (once o.time value)
with_option o Crank value = option_map (λ v. record o { crank = v }) (once o.crank value)
with_option o Cam1 value = option_map (λ v. record o { cam1 = v }) (once o.cam1 value)
with_option o Cam2 value = option_map (λ v. record o { cam2 = v }) (once o.cam2 value)
