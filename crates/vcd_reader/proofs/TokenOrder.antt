-- Tokens stand in the order of the bytes, and pieces cut none.
use Rattle.std.proofs.Common.{ℕ, ◌+◌, ◌≤◌, Bool, true, false, cond, List, [], ◌∷◌, ◌++◌, length, arith}
use Rattle.vcd_reader.specs.declared.token.Token.{Token}
use Rattle.vcd_reader.specs.Laws.{IsInOrder, TokensInOrder, TokensOfJoined}
use Rattle.vcd_reader.specs.Tokens.{begun, ended_from, none_at}
use Rattle.vcd_reader.specs.White.{is_white}
use Rattle.vcd_reader.proofs.Pieces.{ended_from-append, open_from-append}

-- the first token stands here or later
abbrev StartsFrom : ℕ → List Token → Type 0
StartsFrom at [] = Unit {0}
StartsFrom at (t ∷ ts) = at ≤ t.at

abbrev AreFrom : ℕ → List Token → Type 0
AreFrom at ts = StartsFrom at ts × IsInOrder ts

earlier : (at later : ℕ) (ts : List Token) → at ≤ later → AreFrom later ts → AreFrom at ts
earlier at later [] le h = h
earlier at later (t ∷ ts) le h = (omega (arith, le, h.0), h.1)

-- a token before these
before : (t : Token) (ts : List Token) → AreFrom (t.at + length t.text + 1) ts → AreFrom t.at (t ∷ ts)
before t [] h = (omega arith, tt)
before t (u ∷ ts) h = (omega arith, (omega (arith, h.0), h.1))

begun_before : (xs : List ℕ) (at : ℕ) (ts : List Token) → AreFrom (at + length xs + 1) ts → AreFrom at (begun (record { text = xs; at = at }) ++ ts)
begun_before [] at ts h = earlier at (at + 0 + 1) ts (omega arith) h
begun_before (x ∷ xs) at ts h = before (record { text = x ∷ xs; at = at }) ts h

from_run : (xs : List ℕ) (at : ℕ) (bytes : List ℕ) → AreFrom at (ended_from (record { text = xs; at = at }) bytes)
from_run xs at [] = (tt, tt)
from_run xs at (b ∷ bytes) = by (is_white b) (from_run [] (at + length xs + 1) bytes) (from_run (xs ++ b ∷ []) at bytes)
  where
    by : (w : Bool) → AreFrom (at + length xs + 1) (ended_from (none_at (at + length xs + 1)) bytes) → AreFrom at (ended_from (record { text = xs ++ b ∷ []; at = at }) bytes)
        → AreFrom at (cond w (begun (record { text = xs; at = at })) [] ++ ended_from (cond w (none_at (at + length xs + 1)) (record { text = xs ++ b ∷ []; at = at })) bytes)
    by true after more = begun_before xs at _ after
    by false after more = more

pub in_order : TokensInOrder
in_order bytes = (from_run [] 0 bytes).1

pub of_joined : TokensOfJoined
of_joined a b = (ended_from-append (none_at 0) a b, open_from-append (none_at 0) a b)
