-- The lines of the names so far are there.
use Rattle.std.proofs.Common.{take}
use Rattle.cc_packing.specs.Packing.{AreHashLines}
use Rattle.cc_packing.proofs.hashes.hash_lines.Given as goal

abbrev pub invariant-loop-name : goal.invariant-loop-name
invariant-loop-name l = AreHashLines l.units (take l.name-index l.names) l.text.items
