-- The edges of a stimulus determine its instants, so there is only one.
use Rattle.std.proofs.Common.{◌≡◌, ◌⊎◌, inl, inr, ◌↔◌, List, [], ◌∷◌, refl, sym, ◌∙◌, ap, subst, arith, ℤ, ◌<ℤ◌}
use Rattle.std.proofs.lemmas.Int.{ints}
use Rattle.std.specs.Prelude.{Contains, Option, Some, None, ⊤}
use Rattle.std.specs.List.{AllByRecursion}
use Rattle.wheel_types.specs.declared.channel.Pol.{Pol}
use Rattle.wheel_types.specs.declared.channel.Channel.{Channel}
use Rattle.wheel_types.specs.declared.instant.Instant.{Instant}
use Rattle.capture_core.specs.Changes.{edge_on}
use Rattle.stimulus_files.specs.Changes.{Edge, with_edge, edges_on}
use Rattle.stimulus.specs.Laws.{OneStimulus}
use Rattle.stimulus_files.proofs.AlongStamps.{contains_here, contains_more, contains_cases, none_in}
use Rattle.stimulus.proofs.DrawnEdges.{across}
use Rattle.stimulus_files.proofs.SameInstants.{Rises, rises, same_instants}

-- all edges are after this time
abbrev pub AllAfter : ℤ → List Edge → Type 0
AllAfter t es = AllByRecursion (λ (e : Edge). t <ℤ e.time) es

-- the times of edges rise
abbrev pub EdgesRise : List Edge → Type 0
EdgesRise [] = ⊤
EdgesRise (e ∷ es) = AllAfter e.time es × EdgesRise es

later_edges : (c : Channel) (t : ℤ) (is : List Instant) → AllByRecursion (λ (j : Instant). t <ℤ j.time) is → AllAfter t (edges_on c is)
later_edges c t [] l = tt
later_edges c t (i ∷ is) l = one (edge_on c i) (edges_on c is) l.0 (later_edges c t is l.1)
  where
    one : (o : Option Pol) (es : List Edge) → t <ℤ i.time → AllAfter t es → AllAfter t (with_edge i.time o es)
    one None es h a = a
    one (Some p) es h a = (h, a)

pub edges_rise : (c : Channel) (is : List Instant) → Rises is → EdgesRise (edges_on c is)
edges_rise c [] r = tt
edges_rise c (i ∷ is) r = one (edge_on c i) (edges_on c is) (later_edges c i.time is r.0) (edges_rise c is r.1)
  where
    one : (o : Option Pol) (es : List Edge) → AllAfter i.time es → EdgesRise es → EdgesRise (with_edge i.time o es)
    one None es a b = b
    one (Some p) es a b = (a, b)

pub is_later : (t : ℤ) (es : List Edge) (x : Edge) → AllAfter t es → Contains es x → t <ℤ x.time
is_later t [] x a h = absurd (none_in x h)
is_later t (e ∷ es) x a h = by (contains_cases x e es h) (is_later t es x a.1)
  where
    by : (e ≡ x) ⊎ Contains es x → (Contains es x → t <ℤ x.time) → t <ℤ x.time
    by (inl q) more = subst (λ (z : Edge). t <ℤ z.time) q a.0
    by (inr k) more = more k

both_ways : (a b : ℤ) → a <ℤ b → b <ℤ a → ⊥
both_ways a b h k = absurd (omega (arith, ints, h, k))

same_head : (e f : Edge) (es fs : List Edge) → AllAfter e.time es → AllAfter f.time fs → (f ≡ e) ⊎ Contains fs e → (e ≡ f) ⊎ Contains es f → e ≡ f
same_head e f es fs a b (inl q) k = sym q
same_head e f es fs a b (inr h) (inl q) = q
same_head e f es fs a b (inr h) (inr k) = absurd (both_ways e.time f.time (is_later e.time es f a k) (is_later f.time fs e b h))

-- of two lists with one head what is in the rest of the one is in that of the other
in_rest : (e f x : Edge) (es fs : List Edge) → e ≡ f → AllAfter e.time es → Contains es x → (f ≡ x) ⊎ Contains fs x → Contains fs x
in_rest e f x es fs head a h (inr k) = k
in_rest e f x es fs head a h (inl q) =
    absurd (both_ways x.time x.time here here)
  where
    here : x.time <ℤ x.time
    here = subst (λ (z : Edge). z.time <ℤ x.time) (head ∙ q) (is_later e.time es x a h)

pub same_edges : (es fs : List Edge) → EdgesRise es → EdgesRise fs → ((e : Edge) → Contains es e ↔ Contains fs e) → es ≡ fs
same_edges [] [] r s h = refl
same_edges [] (f ∷ fs) r s h = absurd (none_in f ((h f).1 (contains_here f fs)))
same_edges (e ∷ es) [] r s h = absurd (none_in e ((h e).0 (contains_here e es)))
same_edges (e ∷ es) (f ∷ fs) r s h =
    let head : e ≡ f =
    same_head e f es fs r.0 s.0 (contains_cases e f fs ((h e).0 (contains_here e es))) (contains_cases f e es ((h f).1 (contains_here f fs))) in
    let rest : es ≡ fs = same_edges es fs r.1 s.1 (λ x. (
      λ k. in_rest e f x es fs head r.0 k (contains_cases x f fs ((h x).0 (contains_more x e es k))),
      λ k. in_rest f e x fs es (sym head) s.0 k (contains_cases x e es ((h x).1 (contains_more x f fs k))),
    )) in
    ap (λ (x : Edge). x ∷ es) head ∙ ap (λ (l : List Edge). f ∷ l) rest

pub turned : {A B : Type 0} → (A ↔ B) → (B ↔ A)
turned p = (p.1, p.0)

pub one_stimulus : OneStimulus
one_stimulus w seed gaps is js s u =
    same_instants is js (rises is s.rise) (rises js u.rise)
    (λ c. same_edges (edges_on c is) (edges_on c js) (edges_rise c is (rises is s.rise)) (edges_rise c js (rises js u.rise)) (λ e. across (s.edges c e) (turned (u.edges c e))))
