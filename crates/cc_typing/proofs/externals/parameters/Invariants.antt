use Rattle.std.proofs.Common.{drop}
use Rattle.cc_ast.specs.Erase.{parameter_trees}
use Rattle.cc_typing.proofs.FileScopes.{Parametering}
use Rattle.cc_typing.proofs.externals.parameters.Given as goal

abbrev pub invariant-loop-tree : goal.invariant-loop-tree
invariant-loop-tree l = Parametering l.fn.scope l.fn.findings (parameter_trees l.trees) l.scope l.findings (parameter_trees (drop l.tree-index l.trees))
