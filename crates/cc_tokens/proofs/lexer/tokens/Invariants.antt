use Rattle.std.proofs.Common.{length, ◌-◌}
use Rattle.cc_tokens.specs.Reading.{FoundBefore}
use Rattle.cc_tokens.proofs.lexer.tokens.Given as goal

abbrev pub invariant-loop-at : goal.invariant-loop-at
invariant-loop-at l = FoundBefore l.text l.found.items l.at

abbrev pub decreases-loop-at : goal.decreases-loop-at
decreases-loop-at l = length l.text - l.at
