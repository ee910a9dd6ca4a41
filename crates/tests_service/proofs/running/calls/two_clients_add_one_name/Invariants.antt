-- What the parameter names: the ledger and the queue, and the map that was found.
use Rattle.tests_service.proofs.running.calls.two_clients_add_one_name.Given as goal

abbrev pub ghosts-two_threads-N-Ledger : goal.ghosts-two_threads-N-Ledger
ghosts-two_threads-N-Ledger g a = record { name = a.begun.fresh.ledger; parts = 1025 }

abbrev pub ghosts-two_threads-N-Queued : goal.ghosts-two_threads-N-Queued
ghosts-two_threads-N-Queued g a = record { queue = a.begun.fresh.queue }

abbrev pub ghosts-two_threads-N-Based : goal.ghosts-two_threads-N-Based
ghosts-two_threads-N-Based g a = record { base = a.begun.base; failures = 0; from = 0; left = λ image. Unit {0} }
