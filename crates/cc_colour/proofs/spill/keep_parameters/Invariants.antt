-- There is one move for each parameter so far.
use Rattle.std.proofs.Common.{◌-◌, ◌≡◌, ◌≤◌, length}
use Rattle.cc_colour.proofs.spill.keep_parameters.Given as goal

abbrev pub invariant-loop-parameter : goal.invariant-loop-parameter
invariant-loop-parameter l = (length l.moves.items ≡ l.parameter) × (l.parameter ≤ 22)

abbrev pub decreases-loop-parameter : goal.decreases-loop-parameter
decreases-loop-parameter l = l.parameters - l.parameter
