-- Given instants have one exact certificate.
use Rattle.std.proofs.Common.{◌≡◌, ℕ, suc, ◌+◌, ◌<◌, ◌⊎◌, inl, inr, ◌↔◌, List, [], ◌∷◌, length, refl, sym, ◌∙◌, ap, subst, arith}
use Rattle.wheel_types.specs.declared.channel.Channel.TheVariants.{Crank}
use Rattle.wheel_types.specs.declared.place.Place.{Place}
use Rattle.wheel_types.specs.declared.instant.Instant.{Instant}
use Rattle.wheel_types.specs.declared.verdict.Verdict.{Verdict}
use Rattle.wheel_types.specs.declared.verdict.Verdict.TheVariants.{At, Open, Lost}
use Rattle.wheel_types.specs.declared.parts.WheelParts.{WheelParts}
use Rattle.wheel_types.specs.Edges.{edge_count}
use Rattle.wheel_types.specs.Verdicts.{EndsAt, Leads}
use Rattle.wheel_types.proofs.Determined.{verdicts_determined, least_once}
use Rattle.wheel_types.proofs.StartsAndEnds.{start_once}
use Rattle.cam_ranges.specs.Places.{IsLess, IsAscending}
use Rattle.cam_ranges.specs.Gathered.{AreExactly}
use Rattle.cam_ranges.proofs.FewPlaces.{not_before_itself, not_both_before}
use Rattle.plain_motion.specs.EndPlaces.{AreEndsOf}
use Rattle.plain_motion.proofs.Listed.{IsIn}
use Rattle.pair_certificate.specs.declared.line.CertKind.{CertKind}
use Rattle.pair_certificate.specs.declared.line.CertKind.TheVariants as kind
use Rattle.pair_certificate.specs.declared.line.CertLine.{CertLine}
use Rattle.certificate_checker.specs.Exact.{HasExactKind, IsExactLine, AreExactLines}
use Rattle.certificate_checker.proofs.ExactExists.{InOrder, has_is_in, is_in_has, exact_verdicts}

-- ---- covers

-- an ascending list is in order
in_order : (ps : List Place) → IsAscending ps → InOrder ps
in_order [] ascend = tt
in_order (p ∷ ps) ascend = (first, in_order ps rest)
  where
    first : (q : Place) → IsIn q ps → IsLess p q
    first q h = let c = is_in_has ps q h in subst (IsLess p) c.2 (ascend 0 (suc c.0) q (omega arith) (omega (arith, c.1)))

    rest : IsAscending ps
    rest a b d h k = ascend (suc a) (suc b) d (omega (arith, h)) (omega (arith, k))

-- lists in order that have the same places are one
order_once : (ps qs : List Place) → InOrder ps → InOrder qs → ((q : Place) → IsIn q ps ↔ IsIn q qs) → ps ≡ qs
order_once [] [] o u same = refl
order_once [] (q ∷ qs) o u same = absurd ((same q).1 (inl refl))
order_once (p ∷ ps) [] o u same = absurd ((same p).0 (inl refl))
order_once (p ∷ ps) (q ∷ qs) o u same =
    let e = heads ((same p).0 (inl refl)) ((same q).1 (inl refl)) in
    let more = order_once ps qs o.1 u.1 (λ r. (there e r, back e r)) in
    rw (e, more) refl
  where
    heads : (q ≡ p) ⊎ IsIn p qs → (p ≡ q) ⊎ IsIn q ps → p ≡ q
    heads (inl e) k = sym e
    heads (inr h) (inl e) = e
    heads (inr h) (inr k) = absurd (not_both_before p q (o.0 q k) (u.0 p h))

    there : p ≡ q → (r : Place) → IsIn r ps → IsIn r qs
    there e r h = by ((same r).0 (inr h))
      where
        by : (q ≡ r) ⊎ IsIn r qs → IsIn r qs
        by (inl f) = absurd (not_before_itself r (subst (λ s. IsLess s r) (e ∙ f) (o.0 r h)))
        by (inr k) = k

    back : p ≡ q → (r : Place) → IsIn r qs → IsIn r ps
    back e r h = by ((same r).1 (inr h))
      where
        by : (p ≡ r) ⊎ IsIn r ps → IsIn r ps
        by (inl f) = absurd (not_before_itself r (subst (λ s. IsLess s r) (sym e ∙ f) (u.0 r h)))
        by (inr k) = k

exactly_once : (P : Place → Type 0) (ps qs : List Place) → AreExactly P ps → AreExactly P qs → ps ≡ qs
exactly_once P ps qs h k = order_once ps qs (in_order ps h.ascend) (in_order qs k.ascend) (λ q. (
  λ c. has_is_in qs q ((k.exact q).1 ((h.exact q).0 (is_in_has ps q c))),
  λ c. has_is_in ps q ((h.exact q).1 ((k.exact q).0 (is_in_has qs q c))),
))

ends_once : (w : WheelParts) (window : List Instant) (ps qs : List Place) → AreEndsOf w window ps → AreEndsOf w window qs → ps ≡ qs
ends_once w [] ps qs h k = h ∙ sym k
ends_once w (i ∷ before) ps qs h k = exactly_once (EndsAt w (i ∷ before)) ps qs h k

-- ---- lines

kind_once : (w : WheelParts) (since : List Instant) (v : Verdict) (c d : CertKind) → 0 < edge_count w Crank → HasExactKind w since v c → HasExactKind w since v d → c ≡ d
kind_once w since (At j slot) (kind.At a) (kind.At b) some h k =
    let same = least_once (EndsAt w since) h.0 k.0 h.1.0 k.1.0 in
    ap kind.At (start_once w since a b k.0 some (subst (Leads w since a) same h.1.1) k.1.1)
kind_once w since (Open x y) (kind.Open a b) (kind.Open c d) some h k = rw (h.0, h.1, k.0, k.1) refl
kind_once w since Lost kind.Lost kind.Lost some h k = refl
kind_once w since (At j slot) (kind.Open a b) d some h k = absurd h
kind_once w since (At j slot) kind.Lost d some h k = absurd h
kind_once w since (At j slot) (kind.At a) (kind.Open c d) some h k = absurd k
kind_once w since (At j slot) (kind.At a) kind.Lost some h k = absurd k
kind_once w since (Open x y) (kind.At a) d some h k = absurd h
kind_once w since (Open x y) kind.Lost d some h k = absurd h
kind_once w since (Open x y) (kind.Open a b) (kind.At c) some h k = absurd k
kind_once w since (Open x y) (kind.Open a b) kind.Lost some h k = absurd k
kind_once w since Lost (kind.At a) d some h k = absurd h
kind_once w since Lost (kind.Open a b) d some h k = absurd h
kind_once w since Lost kind.Lost (kind.At c) some h k = absurd k
kind_once w since Lost kind.Lost (kind.Open c d) some h k = absurd k

same_line : (c d : CertLine) → c.index ≡ d.index → c.kind ≡ d.kind → c.cover ≡ d.cover → c ≡ d
same_line c d e f g = by c.index d.index c.kind d.kind c.cover d.cover e f g
  where
    by : (m n : ℕ) (k l : CertKind) (ps qs : List Place) → m ≡ n → k ≡ l → ps ≡ qs
        → ◌≡◌ {A = CertLine} (record { index = m; kind = k; cover = ps }) (record { index = n; kind = l; cover = qs })
    by m n k l ps qs e f g = rw (e, f, g) refl

line_once : (w : WheelParts) (n : ℕ) (since : List Instant) (v : Verdict) (next : List Instant) (c d : CertLine) → 0 < edge_count w Crank
    → IsExactLine w n since v next c → IsExactLine w n since v next d → c ≡ d
line_once w n since v next c d some h k =
    same_line c d (h.index ∙ sym k.index) (kind_once w since v c.kind d.kind some h.kind k.kind) (ends_once w next c.cover d.cover h.cover k.cover)

-- the same verdicts and windows have the same lines
pub exact_once : (w : WheelParts) (past : List Instant) (vs us : List Verdict) (cs ds : List CertLine) (g m : List Instant) → 0 < edge_count w Crank
    → AreExactLines w past vs cs g → AreExactLines w past us ds m → cs ≡ ds
exact_once w [] [] [] [] [] g m some x y = refl
exact_once w [] (v ∷ vs) us cs ds g m some x y = absurd x
exact_once w [] [] us (c ∷ cs) ds g m some x y = absurd x
exact_once w [] [] (u ∷ us) [] ds g m some x y = absurd y
exact_once w [] [] [] [] (d ∷ ds) g m some x y = absurd y
exact_once w (i ∷ past) [] us cs ds g m some x y = absurd x
exact_once w (i ∷ past) (v ∷ vs) us [] ds g m some x y = absurd x
exact_once w (i ∷ past) (v ∷ vs) [] (c ∷ cs) ds g m some x y = absurd y
exact_once w (i ∷ past) (v ∷ vs) (u ∷ us) (c ∷ cs) [] g m some x y = absurd y
exact_once w (i ∷ past) (v ∷ vs) (u ∷ us) (c ∷ cs) (d ∷ ds) g m some x y =
    let all = verdicts_determined w (i ∷ past) (v ∷ vs) (u ∷ us) g m some (exact_verdicts w (i ∷ past) (v ∷ vs) (c ∷ cs) g x) (exact_verdicts w (i ∷ past) (u ∷ us) (d ∷ ds) m y) in
    let old = verdicts_determined w past vs us x.0 y.0 some (exact_verdicts w past vs cs x.0 x.1.0) (exact_verdicts w past us ds y.0 y.1.0) in
    let head : v ≡ u = first_of v u vs us all.0 in
    let line : IsExactLine w (length past + 1) (i ∷ x.0) v g d
    = subst (λ n. IsExactLine w (length past + 1) (i ∷ x.0) v n d) (sym all.1)
    (subst (λ b. IsExactLine w (length past + 1) (i ∷ b) v m d) (sym old.1) (subst (λ t. IsExactLine w (length past + 1) (i ∷ y.0) t m d) (sym head) y.1.1.1.1)) in
    rw (line_once w (length past + 1) (i ∷ x.0) v g c d some x.1.1.1.1 line, exact_once w past vs us cs ds x.0 y.0 some x.1.0 y.1.0) refl
  where
    first_of : (a b : Verdict) (more rest : List Verdict) → a ∷ more ≡ b ∷ rest → a ≡ b
    first_of a b more rest e = cc
