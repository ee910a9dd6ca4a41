use Rattle.std.proofs.Common.{◌-◌, ◌≤◌, length}
use Rattle.cc_guard.proofs.wanted.wanted_words.Given as goal

-- at most eight words are chosen
abbrev pub invariant-loop-wants : goal.invariant-loop-wants
invariant-loop-wants l = length l.chosen.items ≤ 8

abbrev pub decreases-loop-wants : goal.decreases-loop-wants
decreases-loop-wants l = 8 - length l.chosen.items
