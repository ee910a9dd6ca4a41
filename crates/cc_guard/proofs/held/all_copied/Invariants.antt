use Rattle.std.proofs.Common.{◌≡◌, ◌++◌, drop}
use Rattle.cc_cminor_language.specs.Code.{expressions_of}
use Rattle.cc_guard.proofs.held.all_copied.Given as goal

-- the copies, followed by the rest, are all the expressions
abbrev pub invariant-loop-e : goal.invariant-loop-e
invariant-loop-e l = expressions_of l.copies.items ++ expressions_of (drop l.e-index l.es) ≡ expressions_of l.es
