-- The parts that an image's bytes hold.
use Rattle.std.proofs.Common.{◌≡◌, ℕ, ◌+◌, ◌*◌, ◌^◌, ◌<◌, ◌≤◌, List, length, get_or, refl, ap, ◌∙◌, arith}
use Rattle.std.proofs.lemmas.List.{length-map, get_or-map}
use Rattle.std.specs.Global.{Vec}
use Rattle.std.specs.Prelude.{map}
use denote.RawPtr.{null_ptr}
use Rattle.wheel_types.specs.Edges.{below}
use Rattle.image_layout.specs.declared.parts.ImageParts.{ImageParts}
use Rattle.image_layout.specs.Layout.{number_at, place_total, time_total, ratio_total, state_total, set_words, row_width, members_begin}
use Rattle.image_layout.specs.Fields.{place_at, time_cut_at, ratio_top_at, ratio_bottom_at, phase_at, kind_at, row_number_at, wheel_parts_of}
use Rattle.image_layout.specs.Keeps.{AreCounts}
use Rattle.image_layout.proofs.Below.{length-below, below_at}

-- the values of a function at the numbers below n
pub table_long : {X : Type 0} (f : ℕ → X) (n : ℕ) → length (map f (below n)) ≡ n
table_long f n = length-map (below n) f ∙ length-below n

pub table_at : {X : Type 0} (f : ℕ → X) (n k : ℕ) (d : X) → k < n → get_or (map f (below n)) k d ≡ f k
table_at f n k d lt = let long = length-below n in get_or-map f (below n) k 0 d (omega (arith, long, lt)) ∙ ap f (below_at n k 0 lt)

pub table_short : {X : Type 0} (f : ℕ → X) (n : ℕ) → n ≤ 8388608 → length (map f (below n)) < 2 ^ 63
table_short f n few = let long = table_long f n in omega (arith, long, few)

-- they are the items of a Vec
abbrev pub table : {X : Type 0} (f : ℕ → X) (n : ℕ) → n ≤ 8388608 → Vec X
table f n few = record {
  ptr = null_ptr;
  len = length (map f (below n));
  cap = length (map f (below n));
  alloc = record { memory = record { seal = tt } };
  items = map f (below n);
  ok = (refl, omega arith);
  small = table_short f n few;
}

-- number i of all words of sets
abbrev pub member_number : List ℕ → ℕ → ℕ
member_number b i = number_at 8 b (members_begin b + 8 * i)

-- ratio cut k
abbrev pub ratio_cut_at : List ℕ → ℕ → ℕ × ℕ
ratio_cut_at b k = (ratio_top_at b k, ratio_bottom_at b k)

abbrev pub parts_of : (b : List ℕ) → AreCounts b → ImageParts
parts_of b c = record {
  wheel = wheel_parts_of b;
  places = table (place_at b) (place_total b) (let most = c.places.1 in omega (arith, most));
  time_cuts = table (time_cut_at b) (time_total b) (let most = c.times in omega (arith, most));
  ratio_cuts = table (ratio_cut_at b) (ratio_total b) (let most = c.ratios in omega (arith, most));
  phases = table (phase_at b) (state_total b) (let most = c.states.1 in omega (arith, most));
  kinds = table (kind_at b) (state_total b) (let most = c.states.1 in omega (arith, most));
  members = table (member_number b) (state_total b * set_words b) c.members;
  rows = table (row_number_at b) (state_total b * row_width b) c.rows;
}
