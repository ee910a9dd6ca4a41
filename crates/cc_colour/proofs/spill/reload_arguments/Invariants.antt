-- There is one move for each argument so far.
use Rattle.std.proofs.Common.{◌-◌, ◌≡◌, ◌≤◌, length}
use Rattle.cc_colour.proofs.spill.reload_arguments.Given as goal

abbrev pub invariant-loop-argument : goal.invariant-loop-argument
invariant-loop-argument l = (length l.moves.items ≡ l.argument) × (l.argument ≤ 22)

abbrev pub decreases-loop-argument : goal.decreases-loop-argument
decreases-loop-argument l = length l.arguments - l.argument
