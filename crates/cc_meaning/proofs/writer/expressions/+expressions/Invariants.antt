use Rattle.std.proofs.Common.{max, ◌+◌, ◌*◌, ◌≡◌, ◌≤◌, ◌++◌, length, drop}
use Rattle.cc_ast.proofs.ast.Expression.TheLaws.{the_size}
use Rattle.cc_ast.specs.internal.Arguments.{expressions_of}
use Rattle.cc_meaning.specs.internal.Form.{arguments_code}
use Rattle.cc_meaning.proofs.writer.expressions.+expressions.Given as goal

-- the arguments from number `left` on are written
abbrev pub invariant-arguments-loop-left : goal.invariant-arguments-loop-left
invariant-arguments-loop-left l = record {
  inside : l.left ≤ length l.trees;
  code : l.code ≡ arguments_code l.names (expressions_of (drop l.left l.trees)) ++ l.initial.code;
}

abbrev pub decreases-arguments-loop-left : goal.decreases-arguments-loop-left
decreases-arguments-loop-left l = l.left

-- the size decreases from an expression to its parts; the measure of a list of arguments lies between that of
-- the call and those of the arguments
abbrev pub decreases-expression : goal.decreases-expression
decreases-expression l = 2 * the_size l.tree.now

abbrev pub decreases-arguments : goal.decreases-arguments
decreases-arguments l = 2 * goal.size-arguments l + 1

abbrev pub decreases-binary : goal.decreases-binary
decreases-binary l = 2 * max (the_size l.left.now) (the_size l.right.now) + 1

abbrev pub decreases-conditional : goal.decreases-conditional
decreases-conditional l = 2 * max (the_size l.test.now) (max (the_size l.held.now) (the_size l.other.now)) + 1
