use Rattle.tests_link.proofs.tests.pool.crowds.sixteen_fill_the_queue.Given as goal

abbrev pub ghosts-crowd : goal.ghosts-crowd
ghosts-crowd g a = record { queue = a.fresh }
