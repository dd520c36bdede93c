-- What a reader keeps of a header, which is less than the header declares.
use Rattle.std.specs.Prelude.{◌≡◌, ℕ, Bool, true, false, not, if◌then◌else◌, List, [], ◌∷◌, Option, Some, None, Result, Ok, Err, filter}
use Rattle.std.specs.List.{list_all, list_any}
use Rattle.vcd_header.specs.declared.header.HeaderState.{HeaderState}
use Rattle.vcd_header.specs.declared.sighting.Sighting.{Sighting}
use Rattle.vcd_header.specs.declared.signals.Signals.{Signals}
use Rattle.vcd_header.specs.Headers.{Header, Var}
use Rattle.vcd_header.specs.Signals.{is_named, some_code}
use Rattle.vcd_header.specs.declared.signals.Missing.{Missing}
use Rattle.vcd_header.specs.declared.signals.Missing.TheVariants.{NoneHasIt, TwoCodes, TooWide}
use Rattle.vcd_header.specs.Texts.{same}

-- the code of the first of these variables
abbrev pub first_code : List Var → Option (List ℕ)
first_code [] = None
first_code (v ∷ vs) = Some v.code

-- not all of them have one code
abbrev pub are_twofold : List Var → Bool
are_twofold [] = false
are_twofold (v ∷ vs) = not (list_all (λ w. same w.code v.code) vs)

-- what these variables say of the name that they have
abbrev pub sighting_of : List Var → Sighting
sighting_of vs = record { code = first_code vs; is_twofold = are_twofold vs; is_wide = list_any (λ w. w.wide) vs }

-- what variables say of a name
abbrev pub sighted : List ℕ → List Var → Sighting
sighted name vars = sighting_of (filter (is_named name) vars)

-- what they say of a name that may not be wanted
abbrev pub sighted_if : Option (List ℕ) → List Var → Sighting
sighted_if None vars = sighting_of []
sighted_if (Some name) vars = sighted name vars

-- the one code that was seen, of one bit
abbrev pub one_code : Option (List ℕ) → Bool → Bool → Result (List ℕ) Missing
one_code None is_twofold is_wide = Err NoneHasIt
one_code (Some code) is_twofold is_wide = if is_twofold then Err TwoCodes else if is_wide then Err TooWide else Ok code

abbrev pub answer_of : Sighting → Result (List ℕ) Missing
answer_of s = one_code s.code s.is_twofold s.is_wide

-- the same of a channel that may not be watched
abbrev pub answer_if : Option (List ℕ) → Sighting → Result (Option (List ℕ)) Missing
answer_if None s = Ok None
answer_if (Some name) s = some_code (answer_of s)

-- a reader keeps the unit of time and the open scopes that the header declares, and what its variables say of the wanted names
pub record SumsUp (wanted : Signals) (s : HeaderState) (h : Header) : Type 0 where
  pub scale : s.scale ≡ h.scale
  pub scopes : s.scopes ≡ h.scopes
  pub crank : s.crank ≡ sighted wanted.crank h.vars
  pub cam1 : s.cam1 ≡ sighted_if wanted.cam1 h.vars
  pub cam2 : s.cam2 ≡ sighted_if wanted.cam2 h.vars

-- it keeps so of the header that is due, or none is due and the answer says so
abbrev pub Becomes : Signals → Bool → Option Header → HeaderState → Type 0
Becomes wanted true (Some h) s = SumsUp wanted s h
Becomes wanted true None s = ⊥
Becomes wanted false (Some h) s = ⊥
Becomes wanted false None s = Unit {0}
