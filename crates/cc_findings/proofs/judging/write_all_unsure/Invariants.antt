-- The lines so far are written.
use Rattle.std.proofs.Common.{take}
use Rattle.std.specs.Io.KnownBytes.{Appends}
use Rattle.std.specs.List.{flat_map}
use Rattle.cc_findings.specs.Written.{unsure_text}
use Rattle.cc_findings.proofs.judging.write_all_unsure.Given as goal

abbrev pub invariant-loop-unsure : goal.invariant-loop-unsure
invariant-loop-unsure g l = Appends (g.W.Write.contents l.initial.writer) (g.W.Write.contents l.writer) (flat_map unsure_text (take l.unsure-index l.lines))
