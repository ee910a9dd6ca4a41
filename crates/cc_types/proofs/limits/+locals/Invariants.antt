use Rattle.std.proofs.Common.{◌≡◌, drop}
use Rattle.cc_ast.specs.Erase.{statements_of}
use Rattle.cc_types.specs.Counts.{count_after}
use Rattle.cc_types.specs.Limits.{locals}
use Rattle.cc_types.proofs.limits.+locals.Given as goal

abbrev pub invariant-count_locals-loop-statement : goal.invariant-count_locals-loop-statement
invariant-count_locals-loop-statement l = count_after l.count (locals (statements_of (drop l.statement-index l.all))) ≡ count_after l.fn.count (locals (statements_of l.all))
