use Rattle.std.proofs.Common.{◌≡◌, ℕ, ◌+◌, ◌≤◌, ◌<◌, ◌^◌, List, ◌∷◌, ◌++◌, length, take, drop, take_all, ◌-◌, ◌∙◌, ap, arith}
use Rattle.std.specs.Prelude.{decimal}
use Rattle.stimulus_files.specs.Files.{last_digits}
use Rattle.stimulus_files.proofs.Texts.{behind_one, on_ok}
use Rattle.stimulus_files.proofs.text.push_decimals.Goals as goal

digits_are : (part : ℕ) (ds text : List ℕ) → ds ≡ text → text ≡ decimal (10 ^ 15 + part) → part < 10 ^ 15 → ds ≡ 49 ∷ last_digits 15 part
digits_are part ds text e f h = e ∙ f ∙ behind_one 15 part h (omega (arith, h))

some : (ds rest : List ℕ) → ds ≡ 49 ∷ rest → 1 ≤ length ds
some ds rest e = let f : length ds ≡ length (49 ∷ rest) = ap length e in omega (arith, f)

after_first : (ds rest : List ℕ) → ds ≡ 49 ∷ rest → take (length ds - 1) (drop 1 ds) ≡ rest
after_first ds rest e = ap (λ v. take (length v - 1) (drop 1 v)) e ∙ take_all (length (49 ∷ rest) - 1) rest (enough rest)
  where
    enough : (v : List ℕ) → length v ≤ length (49 ∷ v) - 1
    enough v = omega arith

pub slice_bounds-push-count : goal.slice_bounds-push-count
slice_bounds-push-count c = some _ _ (digits_are c.args.part _ _ c.as_bytes-digits.ensures.value c.format.ensures.text c.requires)

pub slice_bounds-push-start : goal.slice_bounds-push-start
slice_bounds-push-start c = some _ _ (digits_are c.args.part _ _ c.as_bytes-digits.ensures.value c.format.ensures.text c.requires)

pub returns : goal.returns
returns c =
    on_ok c.push.result
    (λ e. e ∙ ap (λ ds. c.args.text.now.items ++ ds)
    (after_first _ _ (digits_are c.args.part _ _ c.as_bytes-digits.ensures.value c.format.ensures.text c.requires)))
    c.push.ensures
