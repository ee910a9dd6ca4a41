-- What the lines so far carry, before what the others do, is what the text carries.
use Rattle.std.proofs.Common.{◌≡◌, length}
use Rattle.cc_translate.specs.Carried.{carried}
use Rattle.cc_translate.proofs.Lines.{prefixed}
use Rattle.cc_translate.proofs.carrying.carried.Given as goal

abbrev pub invariant-loop-wide : goal.invariant-loop-wide
invariant-loop-wide l = prefixed l.found.items (carried l.rest) ≡ carried l.text

abbrev pub decreases-loop-wide : goal.decreases-loop-wide
decreases-loop-wide l = length l.rest
