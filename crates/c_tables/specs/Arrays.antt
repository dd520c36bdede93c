-- Where the arrays of a name stand among the tokens of a C source.
use Rattle.std.specs.Prelude.{ℕ, Bool, bytes_eq, codes, if◌then◌else◌, List, [], ◌∷◌, ◌++◌, Option, Some, None, option_to_list, Result, Ok, Err}
use Rattle.std.specs.List.{list_all}
use Rattle.c_tables.specs.declared.fault.TableFault.{TableFault}
use Rattle.c_tables.specs.declared.fault.TableFault.TheVariants.{NoArray, TwoArrays}
use Rattle.c_tables.specs.Tokens.{Token, is_digit}

-- the token has these bytes
abbrev pub is : List ℕ → Token → Bool
is text t = bytes_eq t.text text

-- the token has nothing but digits
abbrev pub is_number : Token → Bool
is_number t = list_all is_digit t.text

-- what follows a token that passes a test, where such a one is the first
abbrev pub after : (Token → Bool) → List Token → Option (List Token)
after test [] = None
after test (t ∷ ts) = if test t then Some ts else None

-- the same, or all of the tokens where no such one is the first
abbrev pub after_any : (Token → Bool) → List Token → List Token
after_any test [] = []
after_any test (t ∷ ts) = if test t then ts else t ∷ ts

-- what the next step makes of the tokens that follow, if the step before was made
infixl 10 ◌>>◌
abbrev pub ◌>>◌ : Option (List Token) → (List Token → Option (List Token)) → Option (List Token)
None >> next = None
Some ts >> next = next ts

-- what follows the `{` of an array, where the tokens behind its name go on so
abbrev pub body_after_name : List Token → Option (List Token)
body_after_name ts =
    after (is (codes "[")) ts >> λ ts.
    after (is (codes "]")) (after_any is_number ts) >> λ ts.
    after (is (codes "=")) (after_any (is (codes "PROGMEM")) ts) >> λ ts.
    after (is (codes "{")) ts

-- the same, where its name is the first token
abbrev pub body_first : List ℕ → List Token → Option (List Token)
body_first name ts = after (is name) ts >> λ ts. body_after_name ts

-- what follows the `{` of each array of this name
abbrev pub bodies : List ℕ → List Token → List (List Token)
bodies name [] = []
bodies name (t ∷ ts) = option_to_list (body_first name (t ∷ ts)) ++ bodies name ts

-- the one body, where there is one alone
abbrev pub one_body : List (List Token) → Result (List Token) TableFault
one_body [] = Err NoArray
one_body (body ∷ []) = Ok body
one_body (body ∷ other ∷ more) = Err TwoArrays
