use Rattle.std.proofs.Common.{◌≡◌, ◌++◌, drop}
use Rattle.cc_journal.specs.Format.{records}
use Rattle.cc_journal.proofs.commit.put_records.Given as goal

-- the bytes so far, followed by the records that are left, are all the bytes
abbrev pub invariant-loop-body : goal.invariant-loop-body
invariant-loop-body l = l.bytes.items ++ records (drop l.body-index l.bodies) ≡ l.initial.bytes.items ++ records l.bodies
