use Rattle.std.proofs.Common.{inr, ◌∙◌, ap, Err, refl, arith}
use Rattle.shelf_io.specs.declared.fault.LoadFault.TheVariants as load
use Rattle.run_ends.proofs.Loading.{stays}
use Rattle.run_ends.proofs.Noting.{rose_before}
use Rattle.run_files.proofs.Decoding.{has_read, too_long, not_failed}
use Rattle.run_files.proofs.loads.load.Goals as goal

pub returns-in-Err-Failed-read_all : goal.returns-in-Err-Failed-read_all
returns-in-Err-Failed-read_all g c =
    let failed = c.in-Err-Failed-read_all.is ∙ ap Err c.in-Err-Failed-read_all.field-0-is in (
      (record {
        later = omega (arith, c.in-Ok.ensures.opens.no_less, c.read_all.ensures.keeps.no_less);
        rose = λ is. rose_before (g.S.Shelf.view c.args.shelf.now).faults_in (g.S.Shelf.view c.open.new.self).faults_in (g.S.Shelf.view c.read_all.new.shelf).faults_in c.in-Ok.ensures.opens.no_less (c.read_all.ensures.cause failed);
        stays = λ n. absurd (n refl);
      }),
      inr (
        has_read _ _ _ _ c.in-Ok.slot c.in-Ok.ensures.opens c.read_all.ensures.keeps (λ told. (c.in-Err-Failed-read_all.ensures.given told).name),
        λ steady. c.read_all.ensures.calm (c.in-Ok.ensures.opens.steady steady) failed,
      ),
    )

pub returns-in-Err-TooLong : goal.returns-in-Err-TooLong
returns-in-Err-TooLong g c =
    let long = c.in-Err-TooLong.is ∙ ap Err c.in-Err-TooLong.field-0-is in (
      stays _ _ _ (λ is. cc) (c.read_all.ensures.quiet (λ is. not_failed _ load.TooLong long (λ same. cc) is) ∙ c.in-Ok.ensures.opens.quiet (λ h. cc)),
      inr (
        has_read _ _ _ _ c.in-Ok.slot c.in-Ok.ensures.opens c.read_all.ensures.keeps (λ told. (c.in-Err-TooLong.ensures.given told).name),
        λ told. too_long _ _ _ c.in-Ok.slot c.in-Ok.ensures.opens told (c.read_all.ensures.long_file (c.in-Ok.ensures.opens.tells ∙ told) long),
      ),
    )

pub returns-in-Err-Memory-read_all : goal.returns-in-Err-Memory-read_all
returns-in-Err-Memory-read_all g c =
    let wanted = c.in-Err-Memory-read_all.is ∙ ap Err c.in-Err-Memory-read_all.field-0-is in (
      stays _ _ _ (λ is. cc) (c.read_all.ensures.quiet (λ is. not_failed _ load.Memory wanted (λ same. cc) is) ∙ c.in-Ok.ensures.opens.quiet (λ h. cc)),
      inr (has_read _ _ _ _ c.in-Ok.slot c.in-Ok.ensures.opens c.read_all.ensures.keeps (λ told. (c.in-Err-Memory-read_all.ensures.given told).name), tt),
    )
