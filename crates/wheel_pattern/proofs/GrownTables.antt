-- How a table and an array grow.
use Rattle.std.proofs.Common.{◌≡◌, ℕ, List, [], ◌∷◌, ◌++◌, String, Global, string_bytes, pos, Ordering, Less, Equal, Greater, refl, ap}
use Rattle.std.specs.BTreeMap.{insert_entry}
use Rattle.std.specs.Ordering.{match_ordering}
use Rattle.std.specs.String.{string_cmp}
use Rattle.toml.specs.Data.{integer, item, member, push_item}
use Rattle.toml.specs.View.{view, members_view}
use Rattle.toml.specs.declared.value.Value.{Value}
use Rattle.wheel_pattern.specs.Printed.{insert_member, numbers}

-- one entry more in front, by how the key stands to the first one
inserted : (o : Ordering) (k : String Global) (v : Value) (e : String Global × Value) (es : List (String Global × Value))
    → members_view (insert_entry string_cmp es k v) ≡ insert_member (string_bytes k) (view v) (members_view es)
    → members_view (match_ordering o ((k, v) ∷ e ∷ es) ((e.0, v) ∷ es) (e ∷ insert_entry string_cmp es k v))
    ≡ match_ordering o (member (string_bytes k) (view v) (member (string_bytes e.0) (view e.1) (members_view es)))
    (member (string_bytes e.0) (view v) (members_view es))
    (member (string_bytes e.0) (view e.1) (insert_member (string_bytes k) (view v) (members_view es)))
inserted Less k v e es same = refl
inserted Equal k v e es same = refl
inserted Greater k v e es same = ap (member (string_bytes e.0) (view e.1)) same

-- an entry that a table takes up is the member with its name
pub members_view-insert : (k : String Global) (v : Value) (es : List (String Global × Value))
    → members_view (insert_entry string_cmp es k v) ≡ insert_member (string_bytes k) (view v) (members_view es)
members_view-insert k v [] = refl
members_view-insert k v (e ∷ es) = inserted (string_cmp k e.0) k v e es (members_view-insert k v es)

-- one number more at the end is one item more
pub numbers-push : (ns : List ℕ) (n : ℕ) → numbers (ns ++ n ∷ []) ≡ push_item (numbers ns) (integer (pos n))
numbers-push [] n = refl
numbers-push (m ∷ ns) n = ap (item (integer (pos m))) (numbers-push ns n)
