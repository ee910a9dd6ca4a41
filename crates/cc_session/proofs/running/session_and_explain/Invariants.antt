-- The service's type names the ledger and the queue that were made for it, the map that the library was opened with, how many calls of its device had failed, and what a crash may leave at the session's beginning.
use Rattle.cc_session.proofs.running.session_and_explain.Given as goal

abbrev pub ghosts-do_script-N-Ledger : goal.ghosts-do_script-N-Ledger
ghosts-do_script-N-Ledger g a = record { name = a.begun.fresh.ledger; parts = 1025 }

abbrev pub ghosts-do_script-N-Queued : goal.ghosts-do_script-N-Queued
ghosts-do_script-N-Queued g a = record { queue = a.begun.fresh.queue }

abbrev pub ghosts-do_script-N-Based : goal.ghosts-do_script-N-Based
ghosts-do_script-N-Based g a = record { base = a.begun.library.units; failures = g.D.Disk.failures a.begun.library.disk; from = g.D.Disk.moment a.begun.before.value; left = g.D.Disk.may_leave a.begun.before.value }
