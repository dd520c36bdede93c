-- A table that is sound over one alphabet of a wheel is sound over each.
use Rattle.std.proofs.Common.{◌≡◌, ℕ, ◌+◌, ◌*◌, ◌<◌, List, [], ◌∷◌, length, Some, slice_get, get_or, sym, ap, subst, ◌∙◌}
use Rattle.std.specs.Prelude.{map}
use Rattle.gap_thresholds.specs.declared.cut.Cut.{Cut}
use Rattle.image_layout.specs.Fields.{wheel_parts_of}
use Rattle.position_nfa.specs.declared.pair.Pair.{Pair}
use Rattle.position_nfa.specs.Alphabets.{Alphabet, IsAlphabetOf, width}
use Rattle.position_nfa.specs.Families.{IsReached}
use Rattle.position_nfa.specs.Family as family
use Rattle.position_nfa.specs.Sound.{TableParts, Nothing, IsDue, AreSoundOver}
use Rattle.position_nfa.specs.Step.{same, next_state, dead_state, start_state}
use Rattle.table_images.specs.Images.{table_of, IsSoundImage}
use Rattle.image_audit.proofs.OneAlphabet.{AreOne, alphabets_one, next_one, width_one, dead_one, start_one, says_same}

module _ (a c : Alphabet) (one : AreOne a c) where
  word_one : (word : List ℕ) (p : Pair) → family.Reaches same (next_state a) (width a) (dead_state a) (start_state a) word p → family.Reaches same (next_state c) (width c) (dead_state c) (start_state c) word p
  word_one [] p e = e ∙ start_one a c one
  word_one (l ∷ word) p (q, r, lt, h) = (q, word_one word q r, subst (λ n. l < n) (width_one a c one) lt, sym (next_one a c one q l) ∙ h)

  pub reached_one : (p : Pair) → IsReached a p → IsReached c p
  reached_one p h = (h.0, word_one h.0 p h.1)

back : (a c : Alphabet) → AreOne a c → AreOne c a
back a c one = record { places = sym one.places; wheel = sym one.wheel; times = sym one.times; ratios = sym one.ratios }

module _ (a c : Alphabet) (one : AreOne a c) (t : TableParts) (sound : AreSoundOver a t) where
  due_one : (q column : ℕ) (p : Pair) → slice_get t.states q ≡ Some p → column < width c → q * width c + column < length t.rows → IsDue t.states (next_state c p column) (get_or t.rows (q * width c + column) 0)
  due_one q column p at lt inside =
      let e : width c ≡ width a = sym (width_one a c one) in
      let due = sound.due q column p at (subst (λ n. column < n) e lt) (subst (λ n. q * n + column < length t.rows) e inside) in
      subst (λ n. IsDue t.states (next_state c p column) (get_or t.rows (q * n + column) 0)) (sym e)
      (subst (λ o. IsDue t.states o (get_or t.rows (q * width a + column) 0)) (next_one a c one p column) due)

  pub sound_one : AreSoundOver c t
  sound_one = record {
    places = sound.places ∙ one.places;
    time_cuts = sound.time_cuts ∙ ap (map (λ (k : Cut). k.top)) one.times;
    ratio_cuts = sound.ratio_cuts ∙ ap (map (λ (k : Cut). (k.top, k.bottom))) one.ratios;
    family = record {
      once = sound.family.once;
      sound = λ p h. reached_one a c one p (sound.family.sound p h);
      whole = λ p h. sound.family.whole p (reached_one c a (back a c one) p h);
    };
    dead = sound.dead ∙ ap Some (dead_one a c one);
    start = sound.start ∙ ap Some (start_one a c one);
    all_say = sound.all_say;
    says = λ q p at. says_same a c one p.set (get_or t.says q Nothing) (sound.says q p at);
    entries = sound.entries ∙ ap (λ n. length t.states * n) (width_one a c one);
    due = due_one;
  }

-- so a sound image is sound over each alphabet of its wheel
pub sound_over : (b : List ℕ) (a : Alphabet) → IsAlphabetOf (wheel_parts_of b) a → IsSoundImage b → AreSoundOver a (table_of b)
sound_over b a is image = sound_one image.sound.0 a (alphabets_one (wheel_parts_of b) image.sound.0 a image.sound.1.0 is) (table_of b) image.sound.1.1
