-- The syntax tree, without its layout in memory.
use Rattle.std.specs.Prelude.{ℕ, List, Option}
use Rattle.cc_tokens.specs.declared.scalar.Scalar.{Scalar}
use Rattle.cc_ast.specs.declared.ast.UnaryOperator.{UnaryOperator}
use Rattle.cc_ast.specs.declared.ast.BinaryOperator.{BinaryOperator}
use Rattle.cc_ast.specs.declared.ast.AssignmentOperator.{AssignmentOperator}
use Rattle.cc_ast.specs.declared.ast.StepOperator.{StepOperator}

-- an identifier: its bytes, and the offset of its first byte in the text (C99 6.4.2)
pub record Name : Type 0 where
  pub text : List ℕ
  pub at : ℕ

-- an expression (C99 6.5); each pair of parentheses is a node
mutual
  pub data Expr : Type 0 where
    Number : Scalar → ℕ → Expr
    Variable : Name → Expr
    Element : Name → Expr → Expr
    Call : Name → Exprs → Expr
    Parenthesised : Expr → Expr
    Unary : UnaryOperator → Expr → Expr
    Cast : Scalar → Expr → Expr
    Binary : BinaryOperator → Expr → Expr → Expr
    Conditional : Expr → Expr → Expr → Expr

  pub data Exprs : Type 0 where
    none : Exprs
    more : Expr → Exprs → Exprs

-- what an assignment writes to: a variable, or an element of an array with its index
pub data Target : Type 0 where
  AtVariable : Name → Target
  AtElement : Name → Expr → Target

-- what an expression statement does: it assigns, increments or decrements, or evaluates an expression whose value is not used (C99 6.8.3)
pub data Action : Type 0 where
  Assign : AssignmentOperator → Target → Expr → Action
  Step : StepOperator → Target → Action
  Evaluate : Expr → Action

-- one name in a declaration of locals, with its initialiser if it has one (C99 6.7)
pub record Declarator : Type 0 where
  pub name : Name
  pub initial : Option Expr

-- the first part of a `for` header (C99 6.8.5.3)
pub data Beginning : Type 0 where
  Declares : Scalar → List Declarator → Beginning
  Performs : Option Action → Beginning

-- a statement, or a declaration of locals (C99 6.8); a null statement performs no action
mutual
  pub data Stmt : Type 0 where
    Block : Stmts → Stmt
    Local : Scalar → List Declarator → Stmt
    Perform : Option Action → Stmt
    Return : ℕ → Option Expr → Stmt
    Break : ℕ → Stmt
    Continue : ℕ → Stmt
    If : Expr → Stmt → Stmt
    IfElse : Expr → Stmt → Stmt → Stmt
    While : Expr → Stmt → Stmt
    DoWhile : Stmt → Expr → Stmt
    For : Beginning → Option Expr → Option Action → Stmt → Stmt

  pub data Stmts : Type 0 where
    end : Stmts
    next : Stmt → Stmts → Stmts

-- a constant expression (C99 6.6), and the offset of its first token in the text
pub record ConstantExpr : Type 0 where
  pub at : ℕ
  pub expr : Expr

-- a parameter of a function, and its name if it has one (C99 6.7.5.3)
pub record Parameter : Type 0 where
  pub scalar : Scalar
  pub name : Option Name

-- the head of a function's declaration or definition: its result type (None for `void`), its name, and its parameters
pub record Signature : Type 0 where
  pub result : Option Scalar
  pub name : Name
  pub parameters : List Parameter

-- one name in a declaration of objects at file scope: a single object and its initialiser, or an array with its length, if given, and the
-- values of its initialiser list (none without a list) (C99 6.7, 6.9.2); or such an array of `unsigned char`
pub data Object : Type 0 where
  Single : Name → Option ConstantExpr → Object
  Array : Name → Option ConstantExpr → List ConstantExpr → Object
  Bytes : Name → Option ConstantExpr → List ConstantExpr → Object

-- a function's declaration, its definition, or a declaration of objects of one type (C99 6.9); unsigned for arrays of `unsigned char`
pub data External : Type 0 where
  Declaration : Signature → External
  Definition : Signature → Stmts → External
  Objects : Scalar → List Object → External

-- a text with its tree
pub record Source : Type 0 where
  pub text : List ℕ
  pub externals : List External
