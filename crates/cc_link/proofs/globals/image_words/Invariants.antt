use Rattle.std.proofs.Common.{◌≡◌, ◌++◌, drop}
use Rattle.cc_ast.specs.Erase.{external_trees}
use Rattle.cc_types.specs.Limits.{objects}
use Rattle.cc_link.specs.Packed.{image_words}
use Rattle.cc_link.proofs.globals.image_words.Given as goal

-- the words so far, followed by those of the declarations that are left, are all the words
abbrev pub invariant-loop-tree : goal.invariant-loop-tree
invariant-loop-tree l = l.words.items ++ image_words (objects (external_trees (drop l.tree-index l.trees))) ≡ image_words (objects (external_trees l.trees))
