-- Lines that are written one after the other, by a walk of the table.
use Rattle.std.proofs.Common.{◌≡◌, ℕ, zero, suc, ◌+◌, ◌<◌, ◌≤◌, ℤ, ◌<ℤ◌, Bool, true, false, List, [], ◌∷◌, ◌++◌, length, drop, get_or, refl, sym, ap, ◌∙◌, subst, arith, add-one, append_assoc, append-nil, length-append, inl, inr}
use Rattle.std.specs.Prelude.{Option, Some, None, IsTrue, int_lt, ◌==◌, if◌then◌else◌}
use Rattle.std.specs.Io.KnownBytes.{Appends}
use Rattle.std.proofs.KnownBytes.{Appends-nil, Appends-trans}
use Rattle.std.proofs.lemmas.Bool.{cases_Bool}
use Rattle.std.proofs.lemmas.Int.{ints}
use Rattle.std.proofs.lemmas.List.{take-append-le, drop_all}
use Rattle.std.proofs.Math.Seq.{drop-cons}
use Rattle.wheel_types.specs.declared.instant.Instant.{Instant}
use Rattle.wheel_types.specs.Verdicts.{IsRising}
use Rattle.image_layout.specs.Fields.{entry_at}
use Rattle.image_format.specs.Walk.{Stand, fresh, joined, begun, next, end_state, shape_letter, stand_after}
use Rattle.sync_machine.specs.declared.machine.Machine.{Machine}
use Rattle.sync_machine.specs.Machine.{StandsFor}
use Rattle.sync_machine.specs.Times.{is_before}
use Rattle.run_ends.specs.Prefixes.{AppendsPrefix}
use Rattle.run_ends.proofs.Noting.{prefix_after}
use Rattle.image_commands.specs.Trace.{trace_line, trace_after, trace_text}

-- every step leaves the instant's time
next_time : (b : List ℕ) (s : Stand) (i : Instant) → (next b s i).time ≡ Some i.time
next_time b s i = by (end_state b s i == 0)
  where
    begins : (v : Bool) → (if v then fresh (Some i.time) else joined None None i (entry_at b 1 (shape_letter b i))).time ≡ Some i.time
    begins true = refl
    begins false = refl

    loses : (v : Bool) → (if v then begun b i else fresh (Some i.time)).time ≡ Some i.time
    loses true = begins (entry_at b 1 (shape_letter b i) == 0)
    loses false = refl

    by : (v : Bool) → (if v then (if s.started then begun b i else fresh (Some i.time))
        else joined s.crank s.crank_before i (end_state b s i)).time ≡ Some i.time
    by true = loses s.started
    by false = refl

is_below : (x y : ℤ) → x <ℤ y → IsTrue (int_lt x y)
is_below x y h = elim (cases_Bool (int_lt x y)) [ inl e ↦ e | inr e ↦ absurd (omega (arith, ints)) ]

-- The first k instants were stepped from the start of the walk, and their lines were written. The lines of the whole are these and those
-- that are left.
pub record HasTraced (b : List ℕ) (machine : Machine) (old new : Option (List ℕ)) (is : List Instant) (k : ℕ) : Type 0 where
  pub view : machine.view.bytes.now ≡ b
  pub past : List Instant
  pub stands : StandsFor machine past
  pub number : length past ≡ k
  pub later : (i : Instant) → k < length is → i ≡ get_or is k i → IsTrue (is_before machine.time (Some i.time))
  pub text : List ℕ
  pub out : Appends old new text
  pub left : trace_text b is ≡ text ++ trace_after b past (drop k is)

-- before the first one
pub none_traced : (b : List ℕ) (machine : Machine) (out : Option (List ℕ)) (is : List Instant) → machine.view.bytes.now ≡ b → StandsFor machine [] → machine.time ≡ None → HasTraced b machine out out is 0
none_traced b machine out is view stands time = record {
  view = view;
  past = [];
  stands = stands;
  number = refl;
  later = λ i h here. subst (λ t. IsTrue (is_before t (Some i.time))) (sym time) refl;
  text = [];
  out = Appends-nil out;
  left = refl;
}

-- what is left begins with the line of the next instant
next_left : (b : List ℕ) (past is : List Instant) (k : ℕ) (i : Instant) → k < length is → i ≡ get_or is k i
    → trace_after b past (drop k is) ≡ trace_line b past i ++ trace_after b (i ∷ past) (drop (suc k) is)
next_left b past is k i h here = ap (trace_after b past) (drop-cons is k i h ∙ ap (λ j. j ∷ drop (suc k) is) (sym here))

-- the one after it comes later
next_later : (is : List Instant) (k : ℕ) (i j : Instant) (time : Option ℤ) → IsRising is → k < length is → i ≡ get_or is k i → time ≡ Some i.time
    → suc k < length is → j ≡ get_or is (suc k) j → IsTrue (is_before time (Some j.time))
next_later is k i j time rising h here e within there =
    let before : k + 1 < length is = omega (arith, within) in
    let rises : (get_or is k j).time <ℤ (get_or is (suc k) j).time = rw add-one at (rising k j before) in
    let same : get_or is k j ≡ i = at_both is k j i h ∙ sym here in
    subst (λ t. IsTrue (is_before t (Some j.time))) (sym e)
    (is_below i.time j.time (subst (λ (x : Instant). x.time <ℤ j.time) same (subst (λ (x : Instant). (get_or is k j).time <ℤ x.time) (sym there) rises)))
  where
    at_both : (xs : List Instant) (n : ℕ) (d e : Instant) → n < length xs → get_or xs n d ≡ get_or xs n e
    at_both [] n d e h = absurd (omega (arith, h))
    at_both (x ∷ xs) zero d e h = refl
    at_both (x ∷ xs) (suc n) d e h = at_both xs n d e (omega (arith, h))

-- one instant more
pub next_traced : (b : List ℕ) (before after : Machine) (old mid new : Option (List ℕ)) (is : List Instant) (k : ℕ) (i : Instant) → IsRising is → k < length is → i ≡ get_or is k i
    → HasTraced b before old mid is k → ((past : List Instant) → StandsFor before past → StandsFor after (i ∷ past)) → after.view.bytes.now ≡ before.view.bytes.now
    → ((past : List Instant) → StandsFor before past → k + 1 ≡ length past + 1 → Appends mid new (trace_line before.view.bytes.now past i))
    → HasTraced b after old new is (k + 1)
next_traced b before after old mid new is k i rising h here t stands view line =
    let over : after.view.bytes.now ≡ b = view ∙ t.view in
    let now = stands t.past t.stands in
    let time : after.time ≡ Some i.time = ap (λ (s : Stand). s.time) now ∙ next_time after.view.bytes.now (stand_after after.view.bytes.now t.past) i in
    let counted : k + 1 ≡ length t.past + 1 = ap (λ n. n + 1) (sym t.number) in
    let text : Appends mid new (trace_line b t.past i) = subst (λ c. Appends mid new (trace_line c t.past i)) t.view (line t.past t.stands counted) in
    rw add-one (record {
      view = over;
      past = i ∷ t.past;
      stands = now;
      number = ap suc t.number;
      later = λ j within there. next_later is k i j after.time rising h here time within there;
      text = t.text ++ trace_line b t.past i;
      out = Appends-trans old mid new t.text (trace_line b t.past i) t.out text;
      left = t.left ∙ ap (λ l. t.text ++ l) (next_left b t.past is k i h here) ∙ sym (append_assoc t.text (trace_line b t.past i) (trace_after b (i ∷ t.past) (drop (suc k) is)));
    })

prefix_more : (old new : Option (List ℕ)) (text more : List ℕ) → AppendsPrefix old new text → AppendsPrefix old new (text ++ more)
prefix_more old new text more (k, (within, a)) =
    let under : k ≤ length (text ++ more) = omega (arith, length-append text more) in
    (k, (under, subst (Appends old new) (sym (take-append-le k text more within)) a))

-- writing stops within a line, or before it
pub cut_traced : (b : List ℕ) (before : Machine) (old mid new : Option (List ℕ)) (is : List Instant) (k : ℕ) (i : Instant) → k < length is → i ≡ get_or is k i
    → HasTraced b before old mid is k
    → ((past : List Instant) → StandsFor before past → k + 1 ≡ length past + 1 → AppendsPrefix mid new (trace_line before.view.bytes.now past i))
    → AppendsPrefix old new (trace_text b is)
cut_traced b before old mid new is k i h here t line =
    let counted : k + 1 ≡ length t.past + 1 = ap (λ n. n + 1) (sym t.number) in
    let front : AppendsPrefix mid new (trace_line b t.past i) = subst (λ c. AppendsPrefix mid new (trace_line c t.past i)) t.view (line t.past t.stands counted) in
    let rest : List ℕ = trace_after b (i ∷ t.past) (drop (suc k) is) in
    let whole : trace_text b is ≡ (t.text ++ trace_line b t.past i) ++ rest =
    t.left ∙ ap (λ l. t.text ++ l) (next_left b t.past is k i h here) ∙ sym (append_assoc t.text (trace_line b t.past i) rest) in
    subst (AppendsPrefix old new) (sym whole)
    (prefix_more old new (t.text ++ trace_line b t.past i) rest (prefix_after old mid new t.text (trace_line b t.past i) t.out front))

-- all instants were stepped
pub all_traced : (b : List ℕ) (machine : Machine) (old new : Option (List ℕ)) (is : List Instant) (k : ℕ) → length is ≤ k → HasTraced b machine old new is k → Appends old new (trace_text b is)
all_traced b machine old new is k past_all t =
    let whole : trace_text b is ≡ t.text = t.left ∙ ap (λ l. t.text ++ trace_after b t.past l) (drop_all k is past_all) ∙ append-nil t.text in
    subst (Appends old new) (sym whole) t.out
