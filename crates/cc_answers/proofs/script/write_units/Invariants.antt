-- The names so far have been written.
use Rattle.std.proofs.Common.{take}
use Rattle.std.specs.Io.KnownBytes.{Appends}
use Rattle.cc_answers.specs.Telling.{units_text}
use Rattle.cc_answers.proofs.script.write_units.Given as goal

abbrev pub invariant-loop-name : goal.invariant-loop-name
invariant-loop-name g l = Appends (g.W.Write.contents l.initial.writer) (g.W.Write.contents l.writer) (units_text (take l.name-index l.names))
