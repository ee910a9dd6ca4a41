use Rattle.std.proofs.Common.{◌≡◌, drop}
use Rattle.cc_ast.specs.Erase.{constant_trees}
use Rattle.cc_typing.specs.internal.Findings.{after}
use Rattle.cc_types.specs.Rules.{constants_errors, called_in_constants}
use Rattle.cc_types.specs.Scope.{in_scope}
use Rattle.cc_typing.proofs.externals.constants.Given as goal

-- what was found so far, together with what is found in the remaining values, is what is found in all
abbrev pub invariant-loop-tree : goal.invariant-loop-tree
invariant-loop-tree l =
    after l.findings (constants_errors (in_scope l.scope) (constant_trees (drop l.tree-index l.trees))) (called_in_constants (constant_trees (drop l.tree-index l.trees)))
    ≡ after l.fn.findings (constants_errors (in_scope l.scope) (constant_trees l.trees)) (called_in_constants (constant_trees l.trees))
