use Rattle.std.proofs.Common.{drop}
use Rattle.cc_ast.specs.Erase.{statements_of}
use Rattle.cc_typing.specs.internal.Findings.{around_of}
use Rattle.cc_typing.proofs.Walks.{Walking}
use Rattle.cc_typing.proofs.statements.+statements.Given as goal

abbrev pub invariant-all_statements-loop-tree : goal.invariant-all_statements-loop-tree
invariant-all_statements-loop-tree l = Walking (around_of l.around) l.fn.scope l.fn.findings (statements_of l.trees) l.scope l.findings (statements_of (drop l.tree-index l.trees))
