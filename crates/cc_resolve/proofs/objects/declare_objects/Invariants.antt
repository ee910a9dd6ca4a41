use Rattle.std.proofs.Common.{drop}
use Rattle.cc_ast.specs.Erase.{object_trees}
use Rattle.cc_resolve.proofs.Behind.{Naming}
use Rattle.cc_resolve.proofs.objects.declare_objects.Given as goal

abbrev pub invariant-loop-tree : goal.invariant-loop-tree
invariant-loop-tree l = Naming l.scalar l.fn.names (object_trees l.trees) l.names (object_trees (drop l.tree-index l.trees))
