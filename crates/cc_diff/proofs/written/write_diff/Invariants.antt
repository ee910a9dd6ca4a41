-- The lines so far are written.
use Rattle.std.proofs.Common.{take}
use Rattle.std.specs.Io.KnownBytes.{Appends}
use Rattle.cc_diff.specs.Written.{diff_text}
use Rattle.cc_diff.proofs.written.write_diff.Given as goal

abbrev pub invariant-loop-line : goal.invariant-loop-line
invariant-loop-line g l = Appends (g.W.Write.contents l.initial.writer) (g.W.Write.contents l.writer) (diff_text (take l.line-index l.lines))
