-- The bytes so far are the beginning of the first line.
use Rattle.std.proofs.Common.{◌≡◌, take, drop}
use Rattle.cc_translate.specs.Carried.{before, lines}
use Rattle.cc_translate.proofs.carrying.first_line.Given as goal

abbrev pub invariant-loop-i : goal.invariant-loop-i
invariant-loop-i l = before (take l.i l.text) (lines (drop l.i l.text)) ≡ lines l.text
