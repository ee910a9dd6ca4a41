-- What the parameter names: the ledger and the queue, and the map that was found.
use Rattle.tests_service.proofs.running.full.units_that_are_there.Given as goal

abbrev pub ghosts-crowded-N-Ledger : goal.ghosts-crowded-N-Ledger
ghosts-crowded-N-Ledger g a = record { name = a.begun.fresh.ledger; parts = 1025 }

abbrev pub ghosts-crowded-N-Queued : goal.ghosts-crowded-N-Queued
ghosts-crowded-N-Queued g a = record { queue = a.begun.fresh.queue }

abbrev pub ghosts-crowded-N-Based : goal.ghosts-crowded-N-Based
ghosts-crowded-N-Based g a = record { base = a.begun.base; failures = 0; from = 0; left = λ image. Unit {0} }
