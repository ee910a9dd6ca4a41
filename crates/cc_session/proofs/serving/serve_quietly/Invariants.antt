-- The service's type names the ledger and the queue that were made for it, the map that the library was opened with, how many calls of its device had failed, and what a crash may leave at the beginning.
use Rattle.cc_session.proofs.serving.serve_quietly.Given as goal

abbrev pub ghosts-serve_begun-N-Ledger : goal.ghosts-serve_begun-N-Ledger
ghosts-serve_begun-N-Ledger g a = record { name = a.begun.fresh.ledger; parts = 1025 }

abbrev pub ghosts-serve_begun-N-Queued : goal.ghosts-serve_begun-N-Queued
ghosts-serve_begun-N-Queued g a = record { queue = a.begun.fresh.queue }

abbrev pub ghosts-serve_begun-N-Based : goal.ghosts-serve_begun-N-Based
ghosts-serve_begun-N-Based g a = record { base = a.begun.library.units; failures = g.D.Disk.failures a.begun.library.disk; from = g.D.Disk.moment a.begun.before.value; left = g.D.Disk.may_leave a.begun.before.value }
