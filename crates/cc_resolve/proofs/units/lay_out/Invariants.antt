use Rattle.std.proofs.Common.{drop}
use Rattle.cc_ast.specs.Erase.{external_trees}
use Rattle.cc_resolve.proofs.Behind.{Finding}
use Rattle.cc_resolve.proofs.units.lay_out.Given as goal

abbrev pub invariant-loop-tree : goal.invariant-loop-tree
invariant-loop-tree l = Finding (external_trees l.trees) l.layout l.words.items l.offset (external_trees (drop l.tree-index l.trees))
