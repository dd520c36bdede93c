-- The document that is printed for a wheel.
use Rattle.std.specs.Prelude.{ℕ, pos, List, [], ◌∷◌, codes}
use Rattle.std.specs.Ordering.{nat_cmp, match_ordering}
use Rattle.std.specs.Cmp.Lexicographic.{slice_cmp}
use Rattle.toml.specs.Data.{Data, integer, string, array, Items, no_items, item, Members, no_members, member}
use Rattle.wheel_types.specs.declared.channel.Keep.{Keep}
use Rattle.wheel_types.specs.declared.channel.Keep.TheVariants.{Rising, Falling, Both}
use Rattle.wheel_types.specs.declared.parts.WheelParts.{WheelParts}
use Rattle.wheel_types.specs.Wheels.{IsWheel}
use Rattle.wheel_pattern.specs.declared.keys.Key.TheVariants.{Degrees, Slots, Crank, Cam1, Cam2, Cam1Early, Cam1Late, Cam2Early, Cam2Late, RpmLow, RpmHigh, Ratio}
use Rattle.wheel_pattern.specs.Keys.{text_of}
use Rattle.wheel_pattern.specs.Lookups.{IsDocumentOf}
use Rattle.wheel_pattern.specs.WheelFile.{MeansWheel}

-- the text that names a kept polarity
abbrev pub keep_text : Keep → List ℕ
keep_text Rising = codes "rising"
keep_text Falling = codes "falling"
keep_text Both = codes "both"

-- the items that are these numbers
abbrev pub numbers : List ℕ → Items
numbers [] = no_items
numbers (n ∷ ns) = item (integer (pos n)) (numbers ns)

-- the members, whose names ascend, with this value at this name
abbrev pub insert_member : List ℕ → Data → Members → Members
insert_member k d no_members = member k d no_members
insert_member k d (member l e ms) = match_ordering (slice_cmp nat_cmp k l)
    (member k d (member l e ms))
    (member l d ms)
    (member l e (insert_member k d ms))

-- the full form of a wheel of these parts: its twelve keys, their texts ascending
abbrev pub members_of_parts : WheelParts → Members
members_of_parts w =
    member (text_of Cam1) (string (keep_text w.cam1))
    (member (text_of Cam1Early) (integer (pos w.cam1_early))
    (member (text_of Cam1Late) (integer (pos w.cam1_late))
    (member (text_of Cam2) (string (keep_text w.cam2))
    (member (text_of Cam2Early) (integer (pos w.cam2_early))
    (member (text_of Cam2Late) (integer (pos w.cam2_late))
    (member (text_of Crank) (string (keep_text w.crank))
    (member (text_of Degrees) (integer (pos w.degrees))
    (member (text_of Ratio) (array (numbers (w.rn ∷ w.rd ∷ [])))
    (member (text_of RpmHigh) (integer (pos w.rpm_high))
    (member (text_of RpmLow) (integer (pos w.rpm_low))
    (member (text_of Slots) (array (numbers w.slots)) no_members)))))))))))

-- the full form of every wheel, read back, is that wheel
abbrev pub WrittenWheelsReadBack : Type 0
WrittenWheelsReadBack = (bytes : List ℕ) (w : WheelParts) → IsWheel w → IsDocumentOf bytes (members_of_parts w) → MeansWheel bytes w
