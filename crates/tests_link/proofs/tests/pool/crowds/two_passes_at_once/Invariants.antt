use Rattle.tests_link.proofs.tests.pool.crowds.two_passes_at_once.Given as goal

abbrev pub ghosts-crowd : goal.ghosts-crowd
ghosts-crowd g a = record { queue = a.fresh }
