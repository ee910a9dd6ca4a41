use Rattle.std.proofs.Common.{◌≡◌, ◌-◌, ◌≤◌, [], IsTrue, replicate}
use Rattle.cc_disk.proofs.over.put_zeros.Given as goal

abbrev pub invariant-loop-done : goal.invariant-loop-done
invariant-loop-done g l = (l.done ≤ l.size) × (IsTrue g.F.FileCalls.honest → g.F.FileCalls.content l.initial.file ≡ [] → g.F.FileCalls.content l.file ≡ replicate l.done 0)

abbrev pub decreases-loop-done : goal.decreases-loop-done
decreases-loop-done g l = l.size - l.done
