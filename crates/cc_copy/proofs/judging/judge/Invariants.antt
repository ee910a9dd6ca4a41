-- The names so far are judged.
use Rattle.std.proofs.Common.{take}
use Rattle.cc_copy.specs.internal.Judged.{IsJudged}
use Rattle.cc_copy.proofs.judging.judge.Given as goal

abbrev pub invariant-loop-name : goal.invariant-loop-name
invariant-loop-name g l = IsJudged l.units (take l.name-index l.names) l.judged
