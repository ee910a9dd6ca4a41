-- What the parameter names: the ledger and the queue, and the map that was found.
use Rattle.tests_service.proofs.running.full.a_compaction_makes_room.Given as goal

abbrev pub ghosts-mended-N-Ledger : goal.ghosts-mended-N-Ledger
ghosts-mended-N-Ledger g a = record { name = a.begun.fresh.ledger; parts = 1025 }

abbrev pub ghosts-mended-N-Queued : goal.ghosts-mended-N-Queued
ghosts-mended-N-Queued g a = record { queue = a.begun.fresh.queue }

abbrev pub ghosts-mended-N-Based : goal.ghosts-mended-N-Based
ghosts-mended-N-Based g a = record { base = a.begun.base; failures = 0; from = 0; left = λ image. Unit {0} }
