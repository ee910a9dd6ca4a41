-- What the parameter names: the ledger and the queue, and the map that was found.
use Rattle.tests_service.proofs.running.devices.an_opening_that_fails.Given as goal

abbrev pub ghosts-not_opened-N-Ledger : goal.ghosts-not_opened-N-Ledger
ghosts-not_opened-N-Ledger g a = record { name = a.begun.fresh.ledger; parts = 1025 }

abbrev pub ghosts-not_opened-N-Queued : goal.ghosts-not_opened-N-Queued
ghosts-not_opened-N-Queued g a = record { queue = a.begun.fresh.queue }

abbrev pub ghosts-not_opened-N-Based : goal.ghosts-not_opened-N-Based
ghosts-not_opened-N-Based g a = record { base = a.begun.base; failures = 0; from = 0; left = λ image. Unit {0} }
