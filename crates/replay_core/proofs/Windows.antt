-- A machine's verdicts are in the image, and the edges of the next window are those of its instants.
use Rattle.std.proofs.Common.{◌≡◌, ℕ, ◌<◌, Bool, true, false, List, [], ◌∷◌, refl, subst, sym, ap, arith, inl, inr}
use Rattle.std.proofs.lemmas.Bool.{eqb-false}
use Rattle.std.specs.Prelude.{◌==◌, Some, None, if◌then◌else◌}
use Rattle.wheel_types.specs.declared.instant.Instant.{Instant}
use Rattle.image_layout.specs.declared.kind.Kind.TheVariants.{Dead, At, Open}
use Rattle.image_layout.specs.Layout.{state_total, place_total}
use Rattle.image_layout.specs.Fields.{entry_at, kind_at, kind_for, kind_word_at}
use Rattle.image_layout.specs.Tables.{KeepsLayout, IsAt, IsOpen}
use Rattle.image_format.specs.Walk.{Stand, fresh, joined, begun, next, answer, end_state, shape_letter}
use Rattle.sync_machine.specs.Machine.{verdict_of}
use Rattle.sync_machine.specs.declared.verdict.MachineVerdict.{MachineVerdict}
use Rattle.sync_machine.specs.declared.verdict.MachineVerdict.TheVariants as verdict
use Rattle.sound_walk.specs.Windows.{window_next}
use Rattle.replay_core.specs.declared.counts.EdgeCounts.{EdgeCounts}
use Rattle.replay_core.specs.Counts.{with_edges, counts_of}
use Rattle.replay_core.specs.Told.{IsIn, next_counts}

-- a verdict that goes on with its window, and whose numbers are of the image
abbrev GoesOn : List ℕ → MachineVerdict → Type 0
GoesOn b v = IsIn b v × ((started : Bool) (i : Instant) (seen : EdgeCounts) → next_counts started v i seen ≡ seen)

module _ (b : List ℕ) (layout : KeepsLayout b) where
  at_goes_on : (q : ℕ) → IsAt b q → GoesOn b (verdict_of (kind_at b q))
  at_goes_on q is =
      let e : ℕ = kind_word_at b q 2 in
      let kind : kind_at b q ≡ At e = ap (λ k. kind_for k e (kind_word_at b q 3)) is.0 in
      subst (λ k. GoesOn b (verdict_of k)) (sym kind) (is.1, λ started i seen. refl)

  open_goes_on : (q : ℕ) → IsOpen b q → GoesOn b (verdict_of (kind_at b q))
  open_goes_on q is =
      let e : ℕ = kind_word_at b q 2 in
      let f : ℕ = kind_word_at b q 3 in
      let kind : kind_at b q ≡ Open e f = ap (λ k. kind_for k e f) is.0 in
      let lt = is.1 in
      let few = is.2 in
      let both : (e < place_total b) × (f < place_total b) = (omega (arith, lt, few), few) in
      subst (λ k. GoesOn b (verdict_of k)) (sym kind) (both, λ started i seen. refl)

  goes_on : (q : ℕ) → (q == 0) ≡ false → q < state_total b → GoesOn b (verdict_of (kind_at b q))
  goes_on q alive lt =
      let no = eqb-false q 0 alive in
      elim (layout.kinds.kinds q (omega (arith, no)) lt) [ inl is ↦ at_goes_on q is | inr is ↦ open_goes_on q is ]

  module _ (s : Stand) (i : Instant) where
    abbrev lost : Stand
    lost = if s.started then begun b i else fresh (Some i.time)

    pub told_in : (next b s i).state < state_total b → IsIn b (verdict_of (answer b s i))
    told_in = by (end_state b s i == 0) refl
      where
        by : (v : Bool) → (end_state b s i == 0) ≡ v
            → (if v then lost else joined s.crank s.crank_before i (end_state b s i)).state < state_total b
            → IsIn b (verdict_of (if v then Dead else kind_at b (end_state b s i)))
        by true z lt = tt
        by false e lt = (goes_on (end_state b s i) e lt).0

    began : (seen : EdgeCounts) (v : Bool)
        → next_counts (if v then fresh (Some i.time) else joined None None i (entry_at b 1 (shape_letter b i))).started verdict.Lost i seen
        ≡ counts_of (if v then [] else i ∷ [])
    began seen true = refl
    began seen false = refl

    lost_counts : (seen : EdgeCounts) (v : Bool) → next_counts (if v then begun b i else fresh (Some i.time)).started verdict.Lost i seen
        ≡ counts_of (if v then (if entry_at b 1 (shape_letter b i) == 0 then [] else i ∷ []) else [])
    lost_counts seen true = began seen (entry_at b 1 (shape_letter b i) == 0)
    lost_counts seen false = refl

    pub counts_next : (before : List Instant) → (next b s i).state < state_total b
        → next_counts (next b s i).started (verdict_of (answer b s i)) i (with_edges i (counts_of before))
        ≡ counts_of (window_next b s i before)
    counts_next before = by (end_state b s i == 0) refl
      where
        seen : EdgeCounts
        seen = with_edges i (counts_of before)

        by : (v : Bool) → (end_state b s i == 0) ≡ v
            → (if v then lost else joined s.crank s.crank_before i (end_state b s i)).state < state_total b
            → next_counts (if v then lost else joined s.crank s.crank_before i (end_state b s i)).started
            (verdict_of (if v then Dead else kind_at b (end_state b s i))) i seen
            ≡ counts_of
            (if v then (if s.started then (if entry_at b 1 (shape_letter b i) == 0 then [] else i ∷ []) else []) else i ∷ before)
        by true z lt = lost_counts seen s.started
        by false e lt = (goes_on (end_state b s i) e lt).1 true i seen
