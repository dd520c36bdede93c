-- What the sections of a dump's header declare.
use Rattle.std.specs.Prelude.{ℕ, ◌-◌, Bool, true, false, ◌||◌, ◌&&◌, not, ◌==◌, if◌then◌else◌, List, [], ◌∷◌, ◌++◌, length, take, Option, Some, None, codes, is_some}
use Rattle.std.specs.List.{list_all, flat_map}
use Rattle.vcd_header.specs.declared.section.Section.{Section}
use Rattle.vcd_header.specs.declared.section.Section.TheVariants as section
use Rattle.capture_core.specs.Numerals.{is_digit}
use Rattle.vcd_header.specs.Texts.{same, is_end, is_keyword, is_code_byte}
use Rattle.vcd_header.specs.Timescales.{scale_of}

-- a variable: its identifier code, its name, the scopes' names with its own, and whether it is no single bit
pub record Var : Type 0 where
  pub code : List ℕ
  pub name : List ℕ
  pub path : List ℕ
  pub wide : Bool

-- what sections declare: femtoseconds for a unit of time, the open scopes with the outermost first, and the variables in order
pub record Header : Type 0 where
  pub scale : Option ℕ
  pub scopes : List (List ℕ)
  pub vars : List Var

-- nothing is declared yet
abbrev pub empty_header : Header
empty_header = record { scale = None; scopes = []; vars = [] }

-- the kind of section that a keyword begins
abbrev pub section_of : List ℕ → Section
section_of text =
    if same text (codes "$timescale") then section.Timescale else
    if same text (codes "$scope") then section.Scope else
    if same text (codes "$upscope") then section.Upscope else
    if same text (codes "$var") then section.Variable else
    if same text (codes "$enddefinitions") then section.EndDefinitions else section.Other

abbrev pub is_timescale : Section → Bool
is_timescale section.Timescale = true
is_timescale s = false

-- the section that a token between two sections begins: none, where it is no keyword, an end or a second timescale
abbrev pub section_begun : Header → List ℕ → Option Section
section_begun h text =
    if is_keyword text && not (is_end text) && not (is_timescale (section_of text) && is_some h.scale) then Some (section_of text) else None

-- a word may stand in a section with so many words before it: a variable's size is digits, and its code has bytes from `!` to `~`
abbrev pub word_fits : Section → ℕ → List ℕ → Bool
word_fits section.Variable k text = if k == 1 then list_all is_digit text else if k == 2 then list_all is_code_byte text else true
word_fits s k text = true

-- the names of scopes, each with a point behind it, and a name in them
abbrev pub path_of : List (List ℕ) → List ℕ → List ℕ
path_of scopes name = flat_map (λ s. s ++ 46 ∷ []) scopes ++ name

abbrev pub is_empty : List ℕ → Bool
is_empty [] = true
is_empty (d ∷ digits) = false

-- the digits spell 1: zeros, and then a one alone
abbrev pub is_one : List ℕ → Bool
is_one [] = false
is_one (d ∷ digits) = if d == 48 then is_one digits else (d == 49) && is_empty digits

-- more or less than one bit, or a real number
abbrev pub is_wide : List ℕ → List ℕ → Bool
is_wide kind size = if is_one size then same kind (codes "real") || same kind (codes "realtime") else true

-- a timescale of the form is declared
abbrev pub with_scale : Header → Option ℕ → Option Header
with_scale h None = None
with_scale h (Some scale) = Some (record { scale = Some scale; scopes = h.scopes; vars = h.vars })

-- a scope is opened: its type and its name, and more that is skipped
abbrev pub with_scope : Header → List (List ℕ) → Option Header
with_scope h (kind ∷ name ∷ more) = Some (record { scale = h.scale; scopes = h.scopes ++ name ∷ []; vars = h.vars })
with_scope h words = None

-- the innermost scope is left, where one is open
abbrev pub without_scope : Header → Header
without_scope h = record { scale = h.scale; scopes = take (length h.scopes - 1) h.scopes; vars = h.vars }

-- a variable is declared: its type, size, code and name, and more that is skipped
abbrev pub with_var : Header → List (List ℕ) → Option Header
with_var h (kind ∷ size ∷ code ∷ name ∷ more) =
    Some (record { scale = h.scale; scopes = h.scopes; vars = h.vars ++ record { code = code; name = name; path = path_of h.scopes name; wide = is_wide kind size } ∷ [] })
with_var h words = None

-- what a whole section declares: none, where it is refused at its end
abbrev pub with_section : Header → Section → List (List ℕ) → Option Header
with_section h section.Timescale words = with_scale h (scale_of (flat_map (λ w. w) words))
with_section h section.Scope words = with_scope h words
with_section h section.Upscope words = Some (without_scope h)
with_section h section.Variable words = with_var h words
with_section h section.EndDefinitions words = Some h
with_section h section.Other words = Some h
