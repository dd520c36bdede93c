-- Calls that are numbered from 0, of which those whose number is in a list fail.
use Rattle.std.specs.Prelude.{◌≡◌, ◌⊎◌, ℕ, ◌+◌, ◌-◌, ◌^◌, min, Bool, List, nat_lt, nat_eq, IsTrue}
use Rattle.std.specs.List.{list_all, list_any}
use Rattle.mem_io.specs.declared.calls.Calls.{Calls}

-- this call is among those that fail
abbrev pub is_among : ℕ → List ℕ → Bool
is_among call fails = list_any (λ x. nat_eq x call) fails

-- no call from this one on is among those that fail
abbrev pub is_calm : List ℕ → ℕ → Bool
is_calm fails next = list_all (λ call. nat_lt call next) fails

-- one call was counted; it failed if its number is among those that fail, and else only for the other reason
pub record IsCall (old new : Calls) (failed other : Type 0) : Type 0 where
  pub fails : new.fails.items ≡ old.fails.items
  pub next : new.next ≡ min (old.next + 1) (2 ^ 64 - 1)
  pub chosen : IsTrue (is_among old.next old.fails.items) → failed
  pub only : failed → IsTrue (is_among old.next old.fails.items) ⊎ other
