-- The fields of the bytes of parts that keep the rules are the parts.
use Rattle.std.proofs.Common.{◌≡◌, ℕ, ◌+◌, ◌*◌, ◌<◌, ◌≤◌, length, get_or, refl, ap, ◌∙◌, arith}
use Rattle.std.proofs.Math.Nat.{mul-le-mul_left}
use Rattle.image_layout.specs.declared.kind.Kind.{Kind}
use Rattle.image_layout.specs.declared.kind.Kind.TheVariants.{Dead, At, Open}
use Rattle.image_layout.specs.declared.parts.ImageParts.{ImageParts}
use Rattle.image_layout.specs.Layout.{number_at, set_words, words_for, members_begin}
use Rattle.image_layout.specs.Fields.{kind_for, kind_at, member_at, entry_at}
use Rattle.image_layout.specs.Parts.{image_bytes, kind_words}
use Rattle.image_layout.proofs.ReadBack.{slot_total_is, place_total_is, time_total_is, ratio_total_is, state_total_is, time_cut_is, ratio_cut_is, kind_word_is, member_is, entry_is}
use Rattle.image_layout.proofs.WheelBack.{wheel_is}
use Rattle.image_layout.proofs.PartsKept.{phase_is}
use Rattle.image_round.specs.Parts.{KeepsRules, states_of, words_of, width_of, phase_of, kind_of, member_of, entry_of}
use Rattle.image_round.specs.Laws.{ReadsBack}
use Rattle.image_round.proofs.Fitting.{fits}
use Rattle.image_round.proofs.Laid.{place_back, wide}

-- the kind that a state's words say is the one that was written
said_kind : (phase : ℕ) (x : Kind) → kind_for (get_or (kind_words phase x) 1 0) (get_or (kind_words phase x) 2 0) (get_or (kind_words phase x) 3 0) ≡ x
said_kind phase Dead = refl
said_kind phase (At j) = refl
said_kind phase (Open e f) = refl

word_within : (q w n states total : ℕ) → q < states → w < n → total ≡ states * n → q * n + w < total
word_within q w n states total lt small e = let more : n * (q + 1) ≤ n * states = mul-le-mul_left n (omega (arith, lt)) in omega (arith, more, small, e)

module _ (p : ImageParts) (k : KeepsRules p) where
  pub kind_back : (q : ℕ) → q < states_of p → kind_at (image_bytes p) q ≡ kind_of p q
  kind_back q lt =
      let one = kind_word_is p (fits p k) q 1 lt (omega arith) in
      let two = kind_word_is p (fits p k) q 2 lt (omega arith) in
      let three = kind_word_is p (fits p k) q 3 lt (omega arith) in
      rw (one, two, three) (said_kind (phase_of p q) (kind_of p q))

  member_back : (q w : ℕ) → q < states_of p → w < words_of p → member_at (image_bytes p) q w ≡ member_of p q w
  member_back q w lt small =
      let words : set_words (image_bytes p) ≡ words_of p = ap words_for (place_total_is p (fits p k)) in
      let there : q * words_of p + w < length p.members.items = word_within q w (words_of p) (states_of p) (length p.members.items) lt small k.sizes.sets in
      ap (λ m. number_at 8 (image_bytes p) (members_begin (image_bytes p) + 8 * (q * m + w))) words ∙ member_is p (fits p k) (q * words_of p + w) there

  entry_back : (q column : ℕ) → q < states_of p → column < width_of p → entry_at (image_bytes p) q column ≡ entry_of p q column
  entry_back q column lt within =
      entry_is p (fits p k) q column lt (omega (arith, within, wide p k)) ∙ ap (λ m. get_or p.rows.items (q * m + column) 0) (wide p k)

  pub reads_back : ReadsBack p
  reads_back = record {
    counts = record {
      slots = slot_total_is p (fits p k);
      places = place_total_is p (fits p k);
      times = time_total_is p (fits p k);
      ratios = ratio_total_is p (fits p k);
      states = state_total_is p (fits p k);
    };
    wheel = wheel_is p (fits p k);
    places = place_back p k;
    time_cuts = time_cut_is p (fits p k);
    ratio_tops = λ i lt. (ratio_cut_is p (fits p k) i lt).0;
    ratio_bottoms = λ i lt. (ratio_cut_is p (fits p k) i lt).1;
    phases = phase_is p (fits p k);
    kinds = kind_back;
    kind_words = kind_word_is p (fits p k);
    members = member_back;
    entries = entry_back;
  }
