-- The levels get fewer.
use Rattle.std.proofs.Common.{◌+◌, ◌*◌}
use Rattle.cc_wide_check.proofs.choices.+choices.Given as goal

abbrev pub decreases-is_choice : goal.decreases-is_choice
decreases-is_choice l = 2 * l.levels + 1

abbrev pub decreases-is_halved : goal.decreases-is_halved
decreases-is_halved l = 2 * l.levels + 2
