-- What the parameter names: the ledger, the queue, and the map that was found.
use Rattle.tests_service.proofs.book.playing.over.Given as goal

abbrev pub ghosts-run-N-Ledger : goal.ghosts-run-N-Ledger
ghosts-run-N-Ledger g a = record { name = a.blank.name; parts = a.blank.parts }

abbrev pub ghosts-run-N-Queued : goal.ghosts-run-N-Queued
ghosts-run-N-Queued g a = record { queue = a.queue }

abbrev pub ghosts-run-N-Based : goal.ghosts-run-N-Based
ghosts-run-N-Based g a = record { base = a.base; failures = 0; from = 0; left = λ image. Unit {0} }
