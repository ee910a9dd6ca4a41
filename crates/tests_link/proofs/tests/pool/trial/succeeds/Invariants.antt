use Rattle.tests_link.proofs.tests.pool.trial.succeeds.Given as goal

abbrev pub ghosts-begins_right : goal.ghosts-begins_right
ghosts-begins_right g a = record { queue = a.fresh }
