use Rattle.std.proofs.Common.{drop}
use Rattle.cc_ast.specs.Erase.{external_trees}
use Rattle.cc_typing.proofs.FileScopes.{Declaring}
use Rattle.cc_typing.proofs.externals.all_externals.Given as goal

abbrev pub invariant-loop-tree : goal.invariant-loop-tree
invariant-loop-tree l = Declaring l.fn.scope l.fn.findings (external_trees l.trees) l.scope l.findings (external_trees (drop l.tree-index l.trees))
