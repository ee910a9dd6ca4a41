use Rattle.std.proofs.Common.{◌≡◌, ◌++◌, drop, true}
use Rattle.cc_ast.specs.internal.Arguments.{expressions_of}
use Rattle.cc_cminor_language.specs.Code as code
use Rattle.cc_cminor_language.specs.Statements as codes
use Rattle.cc_cminor.specs.internal.Lowering.{are_plain, all_plain, put_all}
use Rattle.cc_cminor.proofs.expressions.+values.Given as goal

-- the arguments so far, followed by the remaining ones, which are plain, are all the arguments
pub record AllPlain (here all : Type 0) : Type 0 where
  pub plain : here
  pub code : all

abbrev pub invariant-all_plain-loop-tree : goal.invariant-all_plain-loop-tree
invariant-all_plain-loop-tree l =
    AllPlain (are_plain (expressions_of (drop l.tree-index l.trees)) ≡ true)
    (code.expressions_of l.all.items ++ all_plain l.names.layout l.names (expressions_of (drop l.tree-index l.trees)) ≡ all_plain l.fn.names.layout l.fn.names (expressions_of l.fn.trees))

-- the statements so far, followed by those for the remaining arguments, are all the statements
abbrev pub invariant-put_all-loop-tree : goal.invariant-put_all-loop-tree
invariant-put_all-loop-tree l =
    codes.statements_of l.all.items ++ put_all l.names.layout l.names l.variable (expressions_of (drop l.tree-index l.trees)) ≡ put_all l.fn.names.layout l.fn.names l.fn.k (expressions_of l.fn.trees)
