-- The watched signals of a dump, found by their names.
use Rattle.std.specs.Prelude.{ℕ, Bool, ◌||◌, if◌then◌else◌, List, [], ◌∷◌, Option, Some, None, Result, Ok, Err, filter, string_bytes}
use Rattle.std.specs.List.{list_all, list_any}
use Rattle.wheel_types.specs.declared.channel.Channel.{Channel}
use Rattle.wheel_types.specs.declared.channel.Channel.TheVariants.{Crank, Cam1, Cam2}
use Rattle.wheel_types.specs.declared.channel.Keep.{Keep}
use Rattle.capture_core.specs.declared.capture.Names.{Names}
use Rattle.capture_core.specs.declared.capture.VcdFault.{VcdFault}
use Rattle.capture_core.specs.declared.capture.VcdFault.TheVariants.{NoSuchSignal, TwoSignals, WideSignal}
use Rattle.capture_core.specs.declared.capture.Watch.{Watch}
use Rattle.vcd_header.specs.declared.signals.Signals.{Signals}
use Rattle.vcd_header.specs.declared.signals.Missing.{Missing}
use Rattle.vcd_header.specs.declared.signals.Missing.TheVariants.{NoneHasIt, TwoCodes, TooWide}
use Rattle.vcd_header.specs.Headers.{Var}
use Rattle.vcd_header.specs.Texts.{same}

-- the name of a cam that is watched
abbrev pub name_if : Option Keep → List ℕ → Option (List ℕ)
name_if None name = None
name_if (Some keep) name = Some name

-- the names of the watched channels
abbrev pub wanted_by : Names → Watch → Signals
wanted_by names watch =
    record { crank = string_bytes names.crank; cam1 = name_if watch.cam1 (string_bytes names.cam1); cam2 = name_if watch.cam2 (string_bytes names.cam2) }

-- the variable has the name or the path
abbrev pub is_named : List ℕ → Var → Bool
is_named name v = same v.name name || same v.path name

-- the one code of these variables, which are of one bit
abbrev pub code_of_all : List Var → Result (List ℕ) Missing
code_of_all [] = Err NoneHasIt
code_of_all (v ∷ vs) =
    if list_all (λ w. same w.code v.code) vs
    then (if list_any (λ w. w.wide) (v ∷ vs) then Err TooWide else Ok v.code)
    else Err TwoCodes

-- the code of the signal with this name
abbrev pub code_of : List Var → List ℕ → Result (List ℕ) Missing
code_of vars name = code_of_all (filter (is_named name) vars)

-- what is wrong with a channel's name
abbrev pub name_fault : Channel → Missing → VcdFault
name_fault c NoneHasIt = NoSuchSignal c
name_fault c TwoCodes = TwoSignals c
name_fault c TooWide = WideSignal c

abbrev pub some_code : Result (List ℕ) Missing → Result (Option (List ℕ)) Missing
some_code (Ok code) = Ok (Some code)
some_code (Err m) = Err m

-- the code of a channel that is watched
abbrev pub code_if : Option (List ℕ) → List Var → Result (Option (List ℕ)) Missing
code_if None vars = Ok None
code_if (Some name) vars = some_code (code_of vars name)

-- all the codes, or the first fault of crank and cams
abbrev pub all_found : Result (List ℕ) Missing → Result (Option (List ℕ)) Missing → Result (Option (List ℕ)) Missing → Result Signals VcdFault
all_found (Err m) cam1 cam2 = Err (name_fault Crank m)
all_found (Ok crank) (Err m) cam2 = Err (name_fault Cam1 m)
all_found (Ok crank) (Ok cam1) (Err m) = Err (name_fault Cam2 m)
all_found (Ok crank) (Ok cam1) (Ok cam2) = Ok (record { crank = crank; cam1 = cam1; cam2 = cam2 })

-- the codes of the wanted signals among the variables
abbrev pub signals_of : Signals → List Var → Result Signals VcdFault
signals_of wanted vars = all_found (code_of vars wanted.crank) (code_if wanted.cam1 vars) (code_if wanted.cam2 vars)
