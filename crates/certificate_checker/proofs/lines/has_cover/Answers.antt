use Rattle.certificate_checker.proofs.lines.has_cover.Goals as goal

pub returns-then-ascends : goal.returns-then-ascends
returns-then-ascends c = (
  λ t. record { ascend = c.ascends.ensures.0 c.if-ascends.true; stand = λ k d h. (c.requires.places _).0 (c.has_all.ensures.0 t k d h) },
  λ h. c.has_all.ensures.1 (λ k d b. (c.requires.places _).1 (h.stand k d b)),
)
