use Rattle.std.proofs.Common.{◌≡◌, length, drop, reverse}
use Rattle.cc_meaning.proofs.WritingStatements.{behind_all, Writing}
use Rattle.cc_meaning.proofs.writer.statements.+resolved_statements.Given as goal

abbrev pub invariant-statements-loop-tree : goal.invariant-statements-loop-tree
invariant-statements-loop-tree l = behind_all (drop l.tree-index l.trees) l.names ≡ behind_all l.trees l.fn.names

abbrev pub invariant-statements-loop-tree-2 : goal.invariant-statements-loop-tree-2
invariant-statements-loop-tree-2 l = Writing l.exits l.fn.names (reverse l.trees) l.fn.code l.names l.code (drop (length l.yielded) (reverse l.trees))
