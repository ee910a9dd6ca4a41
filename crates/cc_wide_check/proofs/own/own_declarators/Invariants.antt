-- The rest passes if and only if all do.
use Rattle.std.proofs.Common.{◌≡◌, drop}
use Rattle.cc_ast.specs.Erase.{declarator_trees}
use Rattle.cc_wide_check.specs.internal.Lowers.{own_declarators}
use Rattle.cc_wide_check.proofs.own.own_declarators.Given as goal

abbrev pub invariant-loop-declarator : goal.invariant-loop-declarator
invariant-loop-declarator l = own_declarators (declarator_trees (drop l.declarator-index l.all)) ≡ own_declarators (declarator_trees l.all)
