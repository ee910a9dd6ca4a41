use Rattle.std.proofs.Common.{◌≡◌, ◌+◌, ◌≤◌, length, drop}
use Rattle.cc_journal.specs.Format.{records}
use Rattle.cc_journal.proofs.log.bytes_taken.Given as goal

-- the records so far and the room that is left make up the area, except for the closed gate
abbrev pub invariant-loop-body : goal.invariant-loop-body
invariant-loop-body l = record {
  room : l.left + 1 ≤ l.area;
  taken : l.left + 1 + length (records l.bodies) ≡ l.area + length (records (drop l.body-index l.bodies));
}
