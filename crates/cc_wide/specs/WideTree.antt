-- The syntax tree of wide C: the statements of C's tree, and `switch` (C99 6.8.4.2). Expressions, actions and declarations are those of
-- C's tree.
use Rattle.std.specs.Prelude.{ℕ, List, Option}
use Rattle.cc_ast.specs.scalar.Scalar.{Scalar}
use Rattle.cc_ast.specs.Tree.{Expr, Action, Declarator, Beginning, ConstantExpr, Signature, Object}

-- a label of a switch's body (C99 6.8.1)
pub data Label : Type 0 where
  Case : ConstantExpr → Label
  Default : Label

-- a statement, or a declaration of locals (C99 6.8). The body of a switch is a block of sections; each has its labels, and the
-- statements up to the next label.
mutual
  pub data WideStmt : Type 0 where
    Block : WideStmts → WideStmt
    Local : Scalar → List Declarator → WideStmt
    Perform : Option Action → WideStmt
    Return : ℕ → Option Expr → WideStmt
    Break : ℕ → WideStmt
    Continue : ℕ → WideStmt
    If : Expr → WideStmt → WideStmt
    IfElse : Expr → WideStmt → WideStmt → WideStmt
    While : Expr → WideStmt → WideStmt
    DoWhile : WideStmt → Expr → WideStmt
    For : Beginning → Option Expr → Option Action → WideStmt → WideStmt
    Switch : Expr → Sections → WideStmt

  pub data WideStmts : Type 0 where
    end : WideStmts
    next : WideStmt → WideStmts → WideStmts

  pub data Sections : Type 0 where
    last : Sections
    section : List Label → WideStmts → Sections → Sections

-- a function's declaration, its definition, or a declaration of objects of one type (C99 6.9)
pub data WideExternal : Type 0 where
  Declaration : Signature → WideExternal
  Definition : Signature → WideStmts → WideExternal
  Objects : Scalar → List Object → WideExternal
