use Rattle.std.proofs.Common.{◌≡◌, ◌++◌, drop}
use Rattle.cc_ast.specs.Erase.{object_trees}
use Rattle.cc_link.specs.Packed.{image_words}
use Rattle.cc_link.proofs.globals.add_objects.Given as goal

-- the words so far, followed by those of the objects that are left, are all the words
abbrev pub invariant-loop-tree : goal.invariant-loop-tree
invariant-loop-tree l = l.words.items ++ image_words (object_trees (drop l.tree-index l.trees)) ≡ l.initial.words.items ++ image_words (object_trees l.trees)
