use Rattle.std.proofs.Common.{◌≡◌, drop}
use Rattle.cc_ast.specs.internal.Arguments.{expressions_of}
use Rattle.cc_cminor.specs.internal.Lowering.{are_plain}
use Rattle.cc_cminor.proofs.expressions.are_plain.Given as goal

-- the arguments so far are plain, so all are plain exactly if the rest are
abbrev pub invariant-loop-tree : goal.invariant-loop-tree
invariant-loop-tree l = are_plain (expressions_of (drop l.tree-index l.trees)) ≡ are_plain (expressions_of l.trees)
