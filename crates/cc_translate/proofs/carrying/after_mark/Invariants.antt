-- No mark begins before this byte.
use Rattle.std.proofs.Common.{◌≡◌, drop}
use Rattle.cc_translate.specs.Carried.{after_mark}
use Rattle.cc_translate.proofs.carrying.after_mark.Given as goal

abbrev pub invariant-loop-i : goal.invariant-loop-i
invariant-loop-i l = after_mark (drop l.i l.line) ≡ after_mark l.line
