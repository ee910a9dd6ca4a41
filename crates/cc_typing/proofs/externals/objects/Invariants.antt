use Rattle.std.proofs.Common.{drop}
use Rattle.cc_ast.specs.Erase.{object_trees}
use Rattle.cc_typing.proofs.FileScopes.{Objecting}
use Rattle.cc_typing.proofs.externals.objects.Given as goal

abbrev pub invariant-loop-tree : goal.invariant-loop-tree
invariant-loop-tree l = Objecting l.scalar l.fn.scope l.fn.findings (object_trees l.trees) l.scope l.findings (object_trees (drop l.tree-index l.trees))
