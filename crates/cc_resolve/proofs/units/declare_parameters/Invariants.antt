use Rattle.std.proofs.Common.{drop}
use Rattle.cc_ast.specs.Erase.{parameter_trees}
use Rattle.cc_resolve.proofs.Behind.{Declaring}
use Rattle.cc_resolve.proofs.units.declare_parameters.Given as goal

abbrev pub invariant-loop-tree : goal.invariant-loop-tree
invariant-loop-tree l = Declaring l.fn.names (parameter_trees l.trees) l.names (parameter_trees (drop l.tree-index l.trees))
