-- The words of a command.
use Rattle.std.specs.Prelude.{ℕ, Bool, not, ◌&&◌, List, [], ◌∷◌, if◌then◌else◌, codes, Some, None, option_and_then}
use Rattle.std.specs.declared.option.Option.{Option}
use Rattle.command_words.specs.declared.options.Wanted.{Wanted}
use Rattle.command_words.specs.declared.numbers.Form.{Form}
use Rattle.command_words.specs.Options.{Options}
use Rattle.command_words.specs.Numbers.{seed_of, gaps_of, form_of}
use Rattle.command_words.specs.Same.{same, is_operand}
use Rattle.command_words.specs.Spoken.{silence, after_words}
pub use Rattle.command_words.specs.Orders.{Order, Replay, Import, Size, Compile, Check, Audit, Trace, Stim, SelfTest}
pub use Rattle.command_words.specs.Orders.{order_of, AreApart, HasGaps, AsksGaps, writes_of}

-- whether the file names of a replay differ: the model's, the capture's and, where it is given, the certificate's
abbrev pub apart : (model capture : List ℕ) → (cert : Option (List ℕ)) → Bool
apart model capture None = not (same model capture)
apart model capture (Some cert) = not (same model capture) && not (same model cert) && not (same capture cert)

-- the replay of files of different names, where there is no third operand and no option wants a value
abbrev pub replay_of : Option (List ℕ) → Option (List ℕ) → Option (List ℕ) → (cert : Option (List ℕ)) → Options → Option Wanted → Option Order
replay_of (Some model) (Some capture) None cert options None = if apart model capture cert then Some (Replay model capture cert options) else None
replay_of first second third cert options wants = None

-- the order of a replay's words
abbrev pub replay_by : List (List ℕ) → Option Order
replay_by words = option_and_then (λ s. replay_of s.first s.second s.third s.cert s.options s.wants) (after_words silence words)

-- whether four words all differ
abbrev pub differ : (a b c d : List ℕ) → Bool
differ a b c d = (not (same a b) && not (same a c) && not (same a d)) && (not (same b c) && not (same b d) && not (same c d))

-- the check of four files of different names, where no file is to get a certificate and no option wants a value
abbrev pub check_of : Option (List ℕ) → Option (List ℕ) → Option (List ℕ) → Option (List ℕ) → (made : Option (List ℕ)) → Options → Option Wanted → Option Order
check_of (Some wheel) (Some capture) (Some report) (Some cert) None options None =
    if differ wheel capture report cert then Some (Check wheel capture report cert options) else None
check_of first second third fourth made options wants = None

-- the order of a check's words
abbrev pub check_by : List (List ℕ) → Option Order
check_by words = option_and_then (λ s. check_of s.first s.second s.third s.fourth s.cert s.options s.wants) (after_words silence words)

-- the order of an import's words: a source, and the name of a table in it
abbrev pub import_by : List (List ℕ) → Option Order
import_by (source ∷ name ∷ []) = if is_operand source && is_operand name then Some (Import source name) else None
import_by words = None

-- the order of a size's words: a wheel's file
abbrev pub size_by : List (List ℕ) → Option Order
size_by (wheel ∷ []) = if is_operand wheel then Some (Size wheel) else None
size_by words = None

-- the order of a compile's words: a wheel's file, and another one for the image
abbrev pub compile_by : List (List ℕ) → Option Order
compile_by (wheel ∷ image ∷ []) = if (is_operand wheel && is_operand image) && not (same wheel image) then Some (Compile wheel image) else None
compile_by words = None

-- the order of an audit's words: an image's file
abbrev pub audit_by : List (List ℕ) → Option Order
audit_by (image ∷ []) = if is_operand image then Some (Audit image) else None
audit_by words = None

-- the trace of two files of different names, where there is no third operand, no file is to get a certificate and no option wants a value
abbrev pub trace_of : (image capture third made : Option (List ℕ)) →
    Options → Option Wanted → Option Order
trace_of (Some image) (Some capture) None None options None = if not (same image capture) then Some (Trace image capture options) else None
trace_of first second third made options wants = None

-- the order of a trace's words
abbrev pub trace_by : List (List ℕ) → Option Order
trace_by words = option_and_then (λ s. trace_of s.first s.second s.third s.cert s.options s.wants) (after_words silence words)

-- the stimulus over a wheel's file, and another one for the capture
abbrev pub stim_of : (wheel : List ℕ) → Option Form → (seed gaps : Option ℕ) → (file : List ℕ) → Option Order
stim_of wheel (Some form) (Some seed) (Some gaps) file =
    if (is_operand wheel && is_operand file) && not (same wheel file) then Some (Stim wheel form seed gaps file) else None
stim_of wheel form seed gaps file = None

-- the order of a stimulus's words: a wheel's file, a form, a seed, how many gaps, and the capture's file
abbrev pub stim_by : List (List ℕ) → Option Order
stim_by (wheel ∷ form ∷ seed ∷ gaps ∷ file ∷ []) = stim_of wheel (form_of form) (seed_of seed) (gaps_of gaps) file
stim_by words = None

-- the test of a wheel's file on itself, with a seed, over so many gaps
abbrev pub self_of : (wheel : List ℕ) → (seed gaps : Option ℕ) → Option Order
self_of wheel (Some seed) (Some gaps) = if is_operand wheel then Some (SelfTest wheel seed gaps) else None
self_of wheel seed gaps = None

-- the order of a self-test's words: a wheel's file, a seed, and how many gaps
abbrev pub self_by : List (List ℕ) → Option Order
self_by (wheel ∷ seed ∷ gaps ∷ []) = self_of wheel (seed_of seed) (gaps_of gaps)
self_by words = None

-- the order that the words give, if they are one
abbrev pub command_of : List (List ℕ) → Option Order
command_of [] = None
command_of (c ∷ words) =
    if same c (codes "replay") then replay_by words
    else if same c (codes "import") then import_by words
    else if same c (codes "size") then size_by words
    else if same c (codes "check") then check_by words
    else if same c (codes "compile") then compile_by words
    else if same c (codes "audit") then audit_by words
    else if same c (codes "trace") then trace_by words
    else if same c (codes "stim") then stim_by words
    else if same c (codes "self") then self_by words
    else None
