-- The tree of a list of arguments that is being built or read.
use Rattle.std.specs.Prelude.{List, [], ◌∷◌}
use Rattle.cc_ast.specs.Tree.{Exprs, none, more}
use Rattle.cc_ast.specs.Erase.{expression_tree}
use Rattle.cc_ast.specs.declared.ast.Expression.{Expression}

-- the trees of a list of arguments
abbrev pub expressions_of : List Expression → Exprs
expressions_of [] = none
expressions_of (e ∷ rest) = more (expression_tree e) (expressions_of rest)
