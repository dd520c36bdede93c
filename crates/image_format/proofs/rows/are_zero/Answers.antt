use Rattle.std.proofs.Common.{◌≡◌, ◌+◌, ◌*◌, eqb-true, eq-eqb, sym, ap, ◌∙◌, arith}
use Rattle.image_layout.specs.Layout.{number_at, rows_begin}
use Rattle.image_format.proofs.Zeros.{four_of_zero, zero_of_four}
use Rattle.image_format.proofs.rows.are_zero.Goals as goal

pub returns : goal.returns
returns c =
    let b = c.args.bytes.now in
    let read : c.long_at.result ≡ number_at 8 b (rows_begin b + 2 * c.args.first) = c.long_at.ensures ∙ ap (λ n. number_at 8 b n) (omega (arith, c.requires.laid.sections.rows_at)) in
    record {
      0 = λ e k lt. ap (λ n. number_at 2 b n) (omega arith) ∙ four_of_zero b _ (sym read ∙ eqb-true _ _ e) k lt;
      1 = λ zeros. eq-eqb _ _ (read ∙ zero_of_four b _ (λ k lt. ap (λ n. number_at 2 b n) (omega arith) ∙ zeros k lt));
    }
