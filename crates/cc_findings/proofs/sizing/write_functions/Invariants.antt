-- The lines so far are written.
use Rattle.std.proofs.Common.{take}
use Rattle.std.specs.Io.KnownBytes.{Appends}
use Rattle.std.specs.List.{flat_map}
use Rattle.cc_findings.specs.Written.{function_size_text}
use Rattle.cc_findings.proofs.sizing.write_functions.Given as goal

abbrev pub invariant-loop-function : goal.invariant-loop-function
invariant-loop-function g l = Appends (g.W.Write.contents l.initial.writer) (g.W.Write.contents l.writer) (flat_map function_size_text (take l.function-index l.functions))
