use Rattle.std.proofs.Common.{◌≡◌, ◌++◌, drop}
use Rattle.cc_cminor_language.specs.Statements.{statements_of}
use Rattle.cc_guard.proofs.HeldWriting.{all_held}
use Rattle.cc_guard.proofs.held.+holding.Given as goal

-- what was made so far, followed by what the rest gives, is what all statements give
abbrev pub invariant-held_all-loop-s : goal.invariant-held_all-loop-s
invariant-held_all-loop-s l = statements_of l.made.items ++ all_held l.words l.first (statements_of (drop l.s-index l.all)) ≡ all_held l.words l.first (statements_of l.all)
