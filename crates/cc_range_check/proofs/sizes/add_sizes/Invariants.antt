use Rattle.std.proofs.Common.{◌≡◌, ◌++◌, drop}
use Rattle.cc_ast.specs.Erase.{object_trees}
use Rattle.cc_guard.specs.internal.Written.{declared_sizes}
use Rattle.cc_range_check.specs.Sizes.{sizes_of}
use Rattle.cc_range_check.proofs.sizes.add_sizes.Given as goal

-- the sizes so far, followed by those of the rest, are the sizes of all objects
abbrev pub invariant-loop-tree : goal.invariant-loop-tree
invariant-loop-tree l = sizes_of l.sizes.items ++ declared_sizes (object_trees (drop l.tree-index l.trees)) ≡ sizes_of l.initial.sizes.items ++ declared_sizes (object_trees l.trees)
