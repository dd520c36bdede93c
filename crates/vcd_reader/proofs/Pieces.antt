-- Tokens of joined bytes, and what they bring.
use Rattle.std.proofs.Common.{◌≡◌, ℕ, ◌+◌, List, [], ◌∷◌, ◌++◌, length, refl, ap, sym, ◌∙◌, append_assoc, append-nil, length-append, cond, arith, Some, rules}
use Rattle.std.specs.Prelude.{Bool, true, false}
use Rattle.vcd_reader.specs.White.{is_white}
use Rattle.std.specs.List.{fold}
use Rattle.std.proofs.lemmas.List.Sums.{fold-append}
use Rattle.capture_core.specs.declared.capture.VcdFault.{VcdFault}
use Rattle.vcd_reader.specs.declared.token.Token.{Token}
use Rattle.vcd_header.specs.declared.signals.Signals.{Signals}
use Rattle.vcd_reader.specs.Tokens.{ended_from, open_from, ended_by, open_after, ended, last_open, none_at, begun, with_byte, after_white}
use Rattle.vcd_reader.specs.Readings.{Reading, between, inside, changes, wanting, skipping, refused}
use Rattle.vcd_reader.specs.Dumps.{after_tokens, after_token, fault_of, reading_of}

-- however a stream is cut, its tokens are those of the first piece and those of the second after it
pub ended_from-append : (run : Token) (a b : List ℕ) → ended_from run (a ++ b) ≡ ended_from run a ++ ended_from (open_from run a) b
ended_from-append run [] b = refl
ended_from-append run (x ∷ a) b =
    ap (λ (ts : List Token). ended_by run x ++ ts) (ended_from-append (open_after run x) a b) ∙ sym (append_assoc (ended_by run x) (ended_from (open_after run x) a) (ended_from (open_from (open_after run x) a) b))

pub open_from-append : (run : Token) (a b : List ℕ) → open_from run (a ++ b) ≡ open_from (open_from run a) b
open_from-append run [] b = refl
open_from-append run (x ∷ a) b = open_from-append (open_after run x) a b

pub open_after-place : (run : Token) (b : ℕ) → (open_after run b).at + length (open_after run b).text ≡ run.at + length run.text + 1
open_after-place run b =
    elim (is_white b) as (λ t. (cond t (after_white run) (with_byte run b)).at + length (cond t (after_white run) (with_byte run b)).text ≡ run.at + length run.text + 1) [
      | true ↦ omega arith
      | false ↦ omega (arith, length-append run.text (b ∷ []))
    ]

-- one more byte of white space ends the open token
pub ended-white : (bytes : List ℕ) (b : ℕ) → is_white b ≡ true → ended (bytes ++ b ∷ []) ≡ ended bytes ++ begun (last_open bytes)
ended-white bytes b white =
    ended_from-append (none_at 0) bytes (b ∷ [])
    ∙ ap (λ (t : Bool). ended bytes ++ (cond t (begun (last_open bytes)) [] ++ [])) white
    ∙ ap (λ (ts : List Token). ended bytes ++ ts) (append-nil (begun (last_open bytes)))

pub last_open-white : (bytes : List ℕ) (b : ℕ) → is_white b ≡ true → last_open (bytes ++ b ∷ []) ≡ after_white (last_open bytes)
last_open-white bytes b white =
    open_from-append (none_at 0) bytes (b ∷ []) ∙ ap (λ (t : Bool). cond t (after_white (last_open bytes)) (with_byte (last_open bytes) b)) white

-- any other byte joins it
pub ended-dark : (bytes : List ℕ) (b : ℕ) → is_white b ≡ false → ended (bytes ++ b ∷ []) ≡ ended bytes
ended-dark bytes b dark =
    ended_from-append (none_at 0) bytes (b ∷ [])
    ∙ ap (λ (t : Bool). ended bytes ++ (cond t (begun (last_open bytes)) [] ++ [])) dark
    ∙ append-nil (ended bytes)

pub last_open-dark : (bytes : List ℕ) (b : ℕ) → is_white b ≡ false → last_open (bytes ++ b ∷ []) ≡ with_byte (last_open bytes) b
last_open-dark bytes b dark =
    open_from-append (none_at 0) bytes (b ∷ []) ∙ ap (λ (t : Bool). cond t (after_white (last_open bytes)) (with_byte (last_open bytes) b)) dark

-- what tokens bring, and then more tokens
pub after_tokens-append : (wanted : Signals) (ts more : List Token) → after_tokens wanted (ts ++ more) ≡ fold (after_token wanted) (after_tokens wanted ts) more
after_tokens-append wanted ts more = fold-append (after_token wanted) _ ts more

-- the open token ends where the bytes do
pub open_from-place : (run : Token) (bytes : List ℕ) → (open_from run bytes).at + length (open_from run bytes).text ≡ run.at + length run.text + length bytes
open_from-place run [] = omega arith
open_from-place run (b ∷ bytes) = omega (arith, open_from-place (open_after run b) bytes, open_after-place run b)

pub last_open-place : (bytes : List ℕ) → (last_open bytes).at + length (last_open bytes).text ≡ length bytes
last_open-place bytes = omega (arith, open_from-place (none_at 0) bytes)

-- what a stream's tokens bring when more bytes come
pub reading_of-append : (wanted : Signals) (bytes more : List ℕ)
    → reading_of wanted (bytes ++ more) ≡ fold (after_token wanted) (reading_of wanted bytes) (ended_from (last_open bytes) more)
reading_of-append wanted bytes more =
    ap (after_tokens wanted) (ended_from-append (none_at 0) bytes more) ∙ after_tokens-append wanted (ended bytes) (ended_from (last_open bytes) more)

refused-stays : (wanted : Signals) (r : Reading) (ts : List Token) (fault : VcdFault) → fault_of r ≡ Some fault → fold (after_token wanted) r ts ≡ r
refused-stays wanted (refused closed due) [] fault h = refl
refused-stays wanted (refused closed due) (t ∷ ts) fault h = refused-stays wanted (refused closed due) ts fault h
refused-stays wanted (between k) ts fault h = absurd (search rules)
refused-stays wanted (inside k s words) ts fault h = absurd (search rules)
refused-stays wanted (changes b) ts fault h = absurd (search rules)
refused-stays wanted (wanting b level) ts fault h = absurd (search rules)
refused-stays wanted (skipping b) ts fault h = absurd (search rules)

-- after a fault more bytes bring nothing
pub reading_of-refused : (wanted : Signals) (bytes more : List ℕ) (fault : VcdFault) → fault_of (reading_of wanted bytes) ≡ Some fault
    → reading_of wanted (bytes ++ more) ≡ reading_of wanted bytes
reading_of-refused wanted bytes more fault h =
    reading_of-append wanted bytes more ∙ refused-stays wanted (reading_of wanted bytes) (ended_from (last_open bytes) more) fault h

pub count-more : (bytes : List ℕ) (b read : ℕ) → read ≡ length bytes → read + 1 ≡ length (bytes ++ b ∷ [])
count-more bytes b read count = omega (arith, length-append bytes (b ∷ []))

-- after white space the next token would stand at the end of what was read
pub last_open-fresh : (bytes : List ℕ) (b at : ℕ) → is_white b ≡ true → at ≡ length (bytes ++ b ∷ []) → none_at at ≡ last_open (bytes ++ b ∷ [])
last_open-fresh bytes b at white is_end =
    let place : at ≡ (last_open bytes).at + length (last_open bytes).text + 1 = omega (arith, length-append bytes (b ∷ []), last_open-place bytes) in
    ap none_at place ∙ sym (last_open-white bytes b white)
