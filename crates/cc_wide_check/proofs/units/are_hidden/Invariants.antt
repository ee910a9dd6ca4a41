-- The rest passes if and only if all do.
use Rattle.std.proofs.Common.{◌≡◌, drop}
use Rattle.cc_ast.specs.Erase.{declarator_trees}
use Rattle.cc_wide.specs.Places.{bare_declarators}
use Rattle.cc_wide_check.specs.internal.Units.{are_hidden}
use Rattle.cc_wide_check.proofs.units.are_hidden.Given as goal

abbrev pub invariant-loop-i : goal.invariant-loop-i
invariant-loop-i l = are_hidden (bare_declarators (declarator_trees (drop l.i l.all))) ≡ are_hidden (bare_declarators (declarator_trees l.all))
