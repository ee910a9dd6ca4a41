use Rattle.std.proofs.Common.{◌≡◌, length, drop, reverse}
use Rattle.cc_ast.specs.Erase.{declarator_trees}
use Rattle.cc_tokens.specs.declared.scalar.Scalar.{Scalar}
use Rattle.cc_layout.specs.Environment.{Environment, with_locals}
use Rattle.cc_meaning.proofs.WritingStatements.{Undeclaring}
use Rattle.cc_meaning.proofs.writer.declarations.declaration.Given as goal

abbrev pub invariant-loop-tree : goal.invariant-loop-tree
invariant-loop-tree l =
    (t : Scalar) (w : Environment) → l.fn.names ≡ with_locals t (declarator_trees l.trees) w
    → Undeclaring t w (reverse l.trees) l.fn.code l.names l.code (drop (length l.yielded) (reverse l.trees))
