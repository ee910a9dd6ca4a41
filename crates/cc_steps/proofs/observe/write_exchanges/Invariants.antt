-- The lines so far have been written.
use Rattle.std.proofs.Common.{take}
use Rattle.std.specs.Io.KnownBytes.{Appends}
use Rattle.cc_steps.specs.Observed.{exchanges_text}
use Rattle.cc_steps.proofs.observe.write_exchanges.Given as goal

abbrev pub invariant-loop-exchange : goal.invariant-loop-exchange
invariant-loop-exchange g l = Appends (g.W.Write.contents l.initial.writer) (g.W.Write.contents l.writer) (exchanges_text (take l.exchange-index l.exchanges))
