-- The number so far and the digits that are left make the whole number, and the number so far has no more digits than were
-- read.
use Rattle.std.specs.Prelude.{◌≡◌, ◌<◌, ◌^◌, drop}
use Rattle.cc_script.specs.Line.{number_from}
use Rattle.cc_runs.proofs.words.word_in.Given as goal

abbrev pub invariant-loop-i : goal.invariant-loop-i
invariant-loop-i l = (number_from 0 l.bytes ≡ number_from l.number (drop l.i l.bytes)) × (l.number < 10 ^ l.i)
