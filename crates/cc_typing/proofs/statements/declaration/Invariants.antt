use Rattle.std.proofs.Common.{drop}
use Rattle.cc_ast.specs.Erase.{declarator_trees}
use Rattle.cc_typing.proofs.Walks.{Declaring}
use Rattle.cc_typing.proofs.statements.declaration.Given as goal

abbrev pub invariant-loop-tree : goal.invariant-loop-tree
invariant-loop-tree l = Declaring l.scalar l.fn.scope l.fn.findings (declarator_trees l.trees) l.scope l.findings (declarator_trees (drop l.tree-index l.trees))
