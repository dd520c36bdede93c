-- Texts that are put at the end piece by piece, and the digits of a number behind a one.
use Rattle.std.proofs.Common.{◌≡◌, ℕ, zero, suc, ◌+◌, ◌*◌, ◌/◌, ◌%◌, ◌^◌, ◌<◌, List, [], ◌∷◌, ◌++◌, ◌∙◌, ap, arith, append_assoc, Ok, Err}
use Rattle.std.proofs.Common.{OnOk}
use Rattle.std.specs.Prelude.{Result, decimal}
use Rattle.std.proofs.Math.Nat.{pow-succ'}
use Rattle.std.proofs.lemmas.Fmt.{decimal_digit, decimal_step_wide}
use Rattle.capture_core.specs.declared.capture.Given.{Given}
use Rattle.capture_core.specs.declared.capture.Stamp.{Stamp}
use Rattle.capture_core.specs.declared.capture.Watch.{Watch}
use Rattle.capture_core.specs.Stamps.{known_after}
use Rattle.stimulus_files.specs.Files.{last_digits, row_text, rows_text, csv_header, csv_text, stamp_text, stamps_text, vcd_header}
use Rattle.stimulus_files.specs.Files.{vcd_text}

pub on_ok : {A E P Q : Type 0} (r : Result A E) → (P → Q) → OnOk r P → OnOk r Q
on_ok (Ok a) f h = f h
on_ok (Err e) f h = tt

pub second : (old a b x y : List ℕ) → x ≡ old ++ a → y ≡ x ++ b → y ≡ old ++ (a ++ b)
second old a b x y e f = f ∙ ap (λ v. v ++ b) e ∙ append_assoc old a b

pub third : (old a b d x y z : List ℕ) → x ≡ old ++ a → y ≡ x ++ b → z ≡ y ++ d → z ≡ old ++ (a ++ (b ++ d))
third old a b d x y z e f g = second old a (b ++ d) x z e (second x b d y z f g)

pub fifth : (old a b d m n v w x y z : List ℕ) → v ≡ old ++ a → w ≡ v ++ b → x ≡ w ++ d → y ≡ x ++ m → z ≡ y ++ n
    → z ≡ old ++ (a ++ (b ++ (d ++ (m ++ n))))
fifth old a b d m n v w x y z e f g h k = third old a b (d ++ (m ++ n)) v w z e f (third w d m n x y z g h k)

-- one more stamp of a value change dump
pub vcd_more : (watch : Watch) (r s : Stamp) (past : List Stamp) (x y : List ℕ) → x ≡ vcd_text watch (s ∷ past) → y ≡ x ++ stamp_text r
    → y ≡ vcd_text watch (r ∷ s ∷ past)
vcd_more watch r s past x y e f = second (vcd_header watch) (stamps_text (s ∷ past)) (stamp_text r) x y e f

-- one more row
pub csv_more : (watch : Watch) (r : Stamp) (past : List Stamp) (g : Given) (x y : List ℕ) → x ≡ csv_text watch past
    → g ≡ known_after (r ∷ past) → y ≡ x ++ row_text r.time g → y ≡ csv_text watch (r ∷ past)
csv_more watch r past g x y e k f = second (csv_header watch) (rows_text past) (row_text r.time (known_after (r ∷ past))) x y e
    (f ∙ ap (λ h. x ++ row_text r.time h) k)

-- a number with a one in front has its last digits behind the one
pub behind_one : (k n : ℕ) → n < 10 ^ k → 10 ^ k + n < 10 ^ 64 → decimal (10 ^ k + n) ≡ 49 ∷ last_digits k n
behind_one zero n h small = ap decimal (one n h) ∙ decimal_digit 1 (omega arith)
  where
    one : (n : ℕ) → n < 10 ^ 0 → 10 ^ 0 + n ≡ 1
    one n h = omega (arith, h)
behind_one (suc k) n h small =
    let more : 10 ^ suc k ≡ 10 * 10 ^ k = pow-succ' 10 k in
    let less : n / 10 < 10 ^ k = omega (arith, h, more) in
    let front : (10 ^ suc k + n) / 10 ≡ 10 ^ k + n / 10 = omega (arith, more) in
    let last : (10 ^ suc k + n) % 10 ≡ n % 10 = omega (arith, more) in
    decimal_step_wide (10 ^ suc k + n) (omega (arith, more, less)) small
    ∙ ap (λ m. decimal m ++ (48 + (10 ^ suc k + n) % 10) ∷ []) front ∙ ap (λ d. decimal (10 ^ k + n / 10) ++ (48 + d) ∷ []) last
    ∙ ap (λ ds. ds ++ (48 + n % 10) ∷ []) (behind_one k (n / 10) less (omega (arith, more, small)))
