use Rattle.compile_command.proofs.image.image_of.Goals as goal

pub returns-in-Err-TooLarge-clause-none : goal.returns-in-Err-TooLarge-clause-none
returns-in-Err-TooLarge-clause-none c =
    let told = c.in-Err-TooLarge.ensures.large c.in-Err-TooLarge.limit c.in-Err-TooLarge.field-0-is in
    (told.1, record { alphabet = told.0.alphabet; own = told.0.of_wheel; holds = told.0.holds; many = told.0.more })
