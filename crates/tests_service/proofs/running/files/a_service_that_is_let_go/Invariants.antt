-- What the parameter names: the ledger and the queue. A file is not an honest disk, so the map can be any.
use Rattle.std.specs.FinMap.{empty}
use Rattle.tests_service.proofs.running.files.a_service_that_is_let_go.Given as goal

abbrev pub ghosts-not_a_library-N-Ledger : goal.ghosts-not_a_library-N-Ledger
ghosts-not_a_library-N-Ledger g a = record { name = a.fresh.ledger; parts = 1025 }

abbrev pub ghosts-not_a_library-N-Queued : goal.ghosts-not_a_library-N-Queued
ghosts-not_a_library-N-Queued g a = record { queue = a.fresh.queue }

abbrev pub ghosts-not_a_library-N-Based : goal.ghosts-not_a_library-N-Based
ghosts-not_a_library-N-Based g a = record { base = empty; failures = 0; from = 0; left = λ image. Unit {0} }

abbrev pub ghosts-adds-N-Ledger : goal.ghosts-adds-N-Ledger
ghosts-adds-N-Ledger g a = record { name = a.fresh.ledger; parts = 1025 }

abbrev pub ghosts-adds-N-Queued : goal.ghosts-adds-N-Queued
ghosts-adds-N-Queued g a = record { queue = a.fresh.queue }

abbrev pub ghosts-adds-N-Based : goal.ghosts-adds-N-Based
ghosts-adds-N-Based g a = record { base = empty; failures = 0; from = 0; left = λ image. Unit {0} }

abbrev pub ghosts-finds-N-Ledger : goal.ghosts-finds-N-Ledger
ghosts-finds-N-Ledger g a = record { name = a.fresh.ledger; parts = 1025 }

abbrev pub ghosts-finds-N-Queued : goal.ghosts-finds-N-Queued
ghosts-finds-N-Queued g a = record { queue = a.fresh.queue }

abbrev pub ghosts-finds-N-Based : goal.ghosts-finds-N-Based
ghosts-finds-N-Based g a = record { base = empty; failures = 0; from = 0; left = λ image. Unit {0} }
