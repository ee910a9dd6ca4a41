use Rattle.std.proofs.Common.{◌≡◌, ◌≤◌, length, take}
use Rattle.cc_library.proofs.name.Name.new.Given as goal

abbrev pub invariant-loop-i : goal.invariant-loop-i
invariant-loop-i l = (length l.kept ≡ 32) × (length l.bytes ≤ 32) × (take l.i l.kept ≡ take l.i l.bytes)
