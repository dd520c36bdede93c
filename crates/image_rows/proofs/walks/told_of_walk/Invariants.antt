use Rattle.image_rows.proofs.walks.told_of_walk.Given as goal

abbrev pub ghosts-told_of_instants : goal.ghosts-told_of_instants
ghosts-told_of_instants a = record { name = a.blank.name; parts = a.blank.parts }
