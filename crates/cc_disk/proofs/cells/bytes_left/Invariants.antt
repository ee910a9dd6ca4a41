use Rattle.std.proofs.Common.{◌≡◌, ◌++◌, drop, map}
use Rattle.cc_disk.specs.Model.{settled, crashed}
use Rattle.cc_disk.specs.internal.Cells.{cells_of}
use Rattle.cc_disk.proofs.cells.bytes_left.Given as goal

abbrev pub invariant-loop-i : goal.invariant-loop-i
invariant-loop-i l = map settled l.after.items ++ crashed (drop l.i (cells_of l.bytes l.is_settled)) l.rest ≡ crashed (cells_of l.bytes l.is_settled) l.choice
