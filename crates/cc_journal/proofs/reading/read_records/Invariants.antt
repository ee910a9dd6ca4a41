use Rattle.std.proofs.Common.{◌≡◌, ◌+◌, ◌-◌, ◌≤◌, ◌++◌, IsTrue, length, drop}
use Rattle.cc_disk.specs.Images.{OnlyReads}
use Rattle.cc_journal.specs.Format.{records}
use Rattle.cc_journal.specs.internal.Reading.{Shows}
use Rattle.cc_journal.proofs.reading.read_records.Given as goal

abbrev pub invariant-loop-window : goal.invariant-loop-window
invariant-loop-window g l = record {
  size : g.D.Disk.size l.disk ≡ g.D.Disk.size l.initial.disk;
  failures : g.D.Disk.failures l.disk ≡ g.D.Disk.failures l.initial.disk;
  taken : l.used ≡ length (records l.bodies.items);
  fits : l.used + 1 ≤ l.area;
  reads : IsTrue g.D.Disk.honest → OnlyReads g.D.Disk.seen g.D.Disk.may_leave g.D.Disk.moment g.D.Disk.left_since l.initial.disk l.disk;
  shown : IsTrue g.D.Disk.honest → Shows l.window.offset l.window.bytes.items (g.D.Disk.seen l.initial.disk);
  prefix : IsTrue g.D.Disk.honest → drop l.start (g.D.Disk.seen l.initial.disk) ≡ records l.bodies.items ++ drop (l.start + l.used) (g.D.Disk.seen l.initial.disk);
}

abbrev pub decreases-loop-window : goal.decreases-loop-window
decreases-loop-window g l = l.area - l.used
