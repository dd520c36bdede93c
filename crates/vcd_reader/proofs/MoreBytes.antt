-- What a stream has brought stays when more bytes come.
use Rattle.std.proofs.Common.{◌≡◌, ℕ, List, [], ◌∷◌, ◌++◌, Option, Some, ap, ◌∙◌, length, rules}
use Rattle.capture_core.specs.declared.capture.VcdFault.{VcdFault}
use Rattle.vcd_header.specs.declared.signals.Signals.{Signals}
use Rattle.vcd_reader.specs.declared.token.Token.{Token}
use Rattle.vcd_reader.specs.Dumps.{after_last, after_token, at_end, capture_of, closed_of, fault_of, reading_of, so_far, whole, with_end}
use Rattle.vcd_reader.specs.Laws.{AllAreTaken, FaultsStay, InstantsStay}
use Rattle.vcd_reader.specs.Readings.{Reading, between, inside, changes, wanting, skipping, refused}
use Rattle.vcd_header.specs.Signals.{wanted_by}
use Rattle.vcd_reader.specs.Tokens.{begun, last_open}
use Rattle.vcd_reader.proofs.GrowingStamps.{grows_twice, longer-grows, more-begin, whole-grows}
use Rattle.vcd_reader.proofs.Pieces.{reading_of-refused}
use Rattle.vcd_reader.proofs.Taken.{all_taken}

pub instants_stay : InstantsStay
instants_stay names watch bytes more =
    more-begin watch (so_far (wanted_by names watch) bytes).closed (whole (wanted_by names watch) (bytes ++ more)).closed
    (grows_twice _ (so_far (wanted_by names watch) (bytes ++ more)).closed _ (longer-grows (wanted_by names watch) bytes more) (whole-grows (wanted_by names watch) (bytes ++ more)))

ends_refused : (r : Reading) (length : ℕ) (fault : VcdFault) → fault_of r ≡ Some fault → at_end r length ≡ record { closed = closed_of r; fault = Some fault }
ends_refused (refused closed due) length fault h = ap (λ (f : Option VcdFault). record { closed = closed; fault = f }) h
ends_refused (between k) length fault h = absurd (search rules)
ends_refused (inside k s words) length fault h = absurd (search rules)
ends_refused (changes b) length fault h = absurd (search rules)
ends_refused (wanting b level) length fault h = absurd (search rules)
ends_refused (skipping b) length fault h = absurd (search rules)

with_end-refused : (wanted : Signals) (r : Reading) (ts : List Token) (length : ℕ) (fault : VcdFault) → fault_of r ≡ Some fault
    → with_end wanted r ts length ≡ record { closed = closed_of r; fault = Some fault }
with_end-refused wanted r [] length fault h = ends_refused r length fault h
with_end-refused wanted r (t ∷ more) length fault h =
    ap (λ (o : Option VcdFault). after_last o r (after_token wanted r t) t.at length) h ∙ ends_refused r length fault h

pub faults_stay : FaultsStay
faults_stay names watch bytes more fault h =
    let wanted = wanted_by names watch in
    let same = reading_of-refused wanted bytes more fault h in
    ap (capture_of watch)
    (with_end-refused wanted (reading_of wanted (bytes ++ more)) (begun (last_open (bytes ++ more))) (length (bytes ++ more)) fault (ap fault_of same ∙ h)
    ∙ ap (λ (r : Reading). record { closed = closed_of r; fault = Some fault }) same)

pub all_are_taken : AllAreTaken
all_are_taken names watch handed r bytes h = all_taken (wanted_by names watch) watch handed r.stream bytes h.stream
