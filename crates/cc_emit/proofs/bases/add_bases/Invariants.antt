use Rattle.std.proofs.Common.{drop}
use Rattle.cc_ast.specs.Erase.{object_trees}
use Rattle.cc_emit.proofs.Addresses.{Listing}
use Rattle.cc_emit.proofs.bases.add_bases.Given as goal

abbrev pub invariant-loop-tree : goal.invariant-loop-tree
invariant-loop-tree l = Listing l.address (object_trees l.trees) l.initial.addresses.items l.addresses.items l.behind (object_trees (drop l.tree-index l.trees))
