use Rattle.tests_link.proofs.tests.pool.ends.a_pass_is_missing.Given as goal

abbrev pub ghosts-missing : goal.ghosts-missing
ghosts-missing g a = record { queue = a.fresh }
