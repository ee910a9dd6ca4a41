use Rattle.std.proofs.Common.{drop}
use Rattle.cc_ast.specs.Erase.{object_trees}
use Rattle.cc_resolve.proofs.Behind.{Placing}
use Rattle.cc_resolve.proofs.objects.add_objects.Given as goal

abbrev pub invariant-loop-tree : goal.invariant-loop-tree
invariant-loop-tree l = Placing l.fn.layout l.fn.words.items l.offset (object_trees l.trees) l.layout l.words.items l.behind (object_trees (drop l.tree-index l.trees))
