-- The lines so far are written.
use Rattle.std.proofs.Common.{take}
use Rattle.std.specs.Io.KnownBytes.{Appends}
use Rattle.std.specs.List.{flat_map}
use Rattle.cc_findings.specs.Written.{cycle_text}
use Rattle.cc_findings.proofs.sizing.write_cycles.Given as goal

abbrev pub invariant-loop-cycle : goal.invariant-loop-cycle
invariant-loop-cycle g l = Appends (g.W.Write.contents l.initial.writer) (g.W.Write.contents l.writer) (flat_map cycle_text (take l.cycle-index l.cycles))
