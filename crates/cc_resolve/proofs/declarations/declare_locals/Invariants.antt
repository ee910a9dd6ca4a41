use Rattle.std.proofs.Common.{◌≡◌, drop}
use Rattle.cc_ast.specs.Erase.{declarator_trees}
use Rattle.cc_layout.specs.Environment.{with_locals}
use Rattle.cc_resolve.proofs.declarations.declare_locals.Given as goal

abbrev pub invariant-loop-tree : goal.invariant-loop-tree
invariant-loop-tree l = with_locals l.scalar (declarator_trees (drop l.tree-index l.trees)) l.names ≡ with_locals l.scalar (declarator_trees l.trees) l.fn.names
