-- The bytes counted so far, plus those of the records that are left, are the bytes of all records.
use Rattle.std.proofs.Common.{◌≡◌, ◌+◌, length, drop}
use Rattle.cc_journal.specs.Format.{records}
use Rattle.cc_core.proofs.opening.bytes_taken.Given as goal

abbrev pub invariant-loop-body : goal.invariant-loop-body
invariant-loop-body l = l.taken + length (records (drop l.body-index l.bodies)) ≡ length (records l.bodies)
