-- The lines so far have been written.
use Rattle.std.proofs.Common.{take}
use Rattle.std.specs.Prelude.{option_map}
use Rattle.std.specs.Io.KnownBytes.{Appends}
use Rattle.cc_log.specs.Written.{log_text}
use Rattle.cc_log.proofs.written.write_log.Given as goal

abbrev pub invariant-loop-i : goal.invariant-loop-i
invariant-loop-i g l = Appends (g.W.Write.contents l.initial.writer) (g.W.Write.contents l.writer) (log_text l.is_hashed (option_map (λ n. n.now) l.name) (take l.i l.commands))
