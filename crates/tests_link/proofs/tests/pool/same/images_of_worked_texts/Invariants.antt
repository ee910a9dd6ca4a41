use Rattle.tests_link.proofs.tests.pool.same.images_of_worked_texts.Given as goal

abbrev pub ghosts-compared : goal.ghosts-compared
ghosts-compared g a = record { queue = a.fresh }
