-- What the parameter names: the ledger and the queue, and the map that was found.
use Rattle.tests_service.proofs.running.trial.is_right.Given as goal

abbrev pub ghosts-begins_right-N-Ledger : goal.ghosts-begins_right-N-Ledger
ghosts-begins_right-N-Ledger g a = record { name = a.begun.fresh.ledger; parts = 1025 }

abbrev pub ghosts-begins_right-N-Queued : goal.ghosts-begins_right-N-Queued
ghosts-begins_right-N-Queued g a = record { queue = a.begun.fresh.queue }

abbrev pub ghosts-begins_right-N-Based : goal.ghosts-begins_right-N-Based
ghosts-begins_right-N-Based g a = record { base = a.begun.base; failures = 0; from = 0; left = λ image. Unit {0} }
