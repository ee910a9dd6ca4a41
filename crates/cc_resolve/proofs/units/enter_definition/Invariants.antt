use Rattle.std.proofs.Common.{drop}
use Rattle.cc_ast.specs.Erase.{external_trees}
use Rattle.cc_resolve.proofs.Entering.{Entering}
use Rattle.cc_resolve.proofs.units.enter_definition.Given as goal

abbrev pub invariant-loop-tree : goal.invariant-loop-tree
invariant-loop-tree l = Entering (external_trees l.trees) l.fn.function l.names l.left (external_trees (drop l.tree-index l.trees))
