-- The edits taken so far have been carried out, a crash at each moment left the map after some of them, and there is room
-- for all numbers.
use Rattle.std.proofs.Common.{◌≡◌, ◌≤◌, ◌++◌, false, IsTrue, length, vec_capacity}
use Rattle.cc_disk.specs.Images.{LeavesOnly}
use Rattle.cc_library.specs.Runs.{AreEdited, RecoversAmong}
use Rattle.cc_library.proofs.library.Library.run.Given as goal

abbrev pub invariant-loop-edit : goal.invariant-loop-edit
invariant-loop-edit g l = record {
  edited : AreEdited g.D.Disk.honest g.D.Disk.failures l.fn.self l.yielded l.numbers.items l.library;
  size : g.D.Disk.size l.library.disk ≡ g.D.Disk.size l.fn.self.disk;
  edits : l.yielded ++ l.edit-iterator.rest.items ≡ l.fn.edits.items;
  room : length l.fn.edits.items ≤ vec_capacity l.numbers;
  count : length l.numbers.items ≡ length l.yielded;
  stays : l.fn.self.closed ≡ false → l.library.closed ≡ false;
  moments : IsTrue g.D.Disk.honest → l.fn.self.closed ≡ false
      → LeavesOnly g.D.Disk.moment g.D.Disk.left_since l.fn.self.disk l.library.disk (RecoversAmong l.fn.self.units l.yielded l.numbers.items);
}
