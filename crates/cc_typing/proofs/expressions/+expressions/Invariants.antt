use Rattle.std.proofs.Common.{◌≡◌, drop}
use Rattle.cc_ast.specs.internal.Arguments.{expressions_of}
use Rattle.cc_typing.specs.internal.Findings.{after}
use Rattle.cc_types.specs.Rules.{argument_errors, called_in_all}
use Rattle.cc_types.specs.Scope.{in_scope}
use Rattle.cc_typing.proofs.expressions.+expressions.Given as goal

-- what was found so far, together with what is found in the remaining arguments, is what is found in all
abbrev pub invariant-arguments-loop-tree : goal.invariant-arguments-loop-tree
invariant-arguments-loop-tree l =
    after l.findings (argument_errors (in_scope l.scope) (expressions_of (drop l.tree-index l.trees))) (called_in_all (expressions_of (drop l.tree-index l.trees)))
    ≡ after l.fn.findings (argument_errors (in_scope l.scope) (expressions_of l.trees)) (called_in_all (expressions_of l.trees))
