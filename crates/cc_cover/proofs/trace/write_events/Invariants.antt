-- What was written so far ends with a newline, if anything was.
use Rattle.std.proofs.Common.{◌≡◌, false}
use Rattle.cc_sources.specs.Joined.{lacks_newline}
use Rattle.cc_cover.proofs.trace.write_events.Given as goal

abbrev pub invariant-loop-number : goal.invariant-loop-number
invariant-loop-number l = lacks_newline l.lines.items ≡ false
