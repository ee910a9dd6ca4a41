-- The words so far, followed by those that are left, are the words of the line.
use Rattle.std.proofs.Common.{◌≡◌}
use Rattle.cc_runs.specs.Words.{input_in}
use Rattle.cc_runs.specs.internal.Cutting.{input_left, room_left}
use Rattle.cc_runs.proofs.InputWords.{with_left}
use Rattle.cc_runs.proofs.words.words_in.Given as goal

abbrev pub invariant-loop-rest : goal.invariant-loop-rest
invariant-loop-rest l = input_in l.line ≡ with_left l.words.items (input_left l.rest)

abbrev pub decreases-loop-rest : goal.decreases-loop-rest
decreases-loop-rest l = room_left l.rest
