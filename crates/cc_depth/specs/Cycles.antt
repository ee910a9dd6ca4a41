-- Which functions a body calls, by name; and units whose calls have no cycle.
use Rattle.std.specs.Prelude.{ℕ, ◌<◌, List, [], ◌∷◌, Option, None, Some, codes}
use Rattle.std.specs.List.{AllByRecursion}
use Rattle.cc_ast.specs.Tree as tree
use Rattle.cc_ast.specs.Tree.{Expr, Exprs, none, more, Number, Variable, Element, Call, Parenthesised, Unary, Cast, Binary, Conditional, Target, AtVariable, AtElement, Action, Assign, Step, Evaluate, Declarator, Beginning, Declares, Performs, Stmt, Stmts, end, next, Block, Perform, Return, Break, Continue, If, IfElse, While, DoWhile, For, External}
use Rattle.cc_c_semantics.specs.Meaning.{Function, functions, most_open}

-- `Is` holds for each function that an expression calls, by the function's name
abbrev mutual
  pub InExpression : (List ℕ → Type 0) → Expr → Type 0
  InExpression Is (Number t n) = Unit {0}
  InExpression Is (Variable x) = Unit {0}
  InExpression Is (Element x e) = InExpression Is e
  InExpression Is (Call f es) = Is f.text × InExpressions Is es
  InExpression Is (Parenthesised e) = InExpression Is e
  InExpression Is (Unary op e) = InExpression Is e
  InExpression Is (Cast t e) = InExpression Is e
  InExpression Is (Binary op a b) = InExpression Is a × InExpression Is b
  InExpression Is (Conditional c a b) = InExpression Is c × InExpression Is a × InExpression Is b

  pub InExpressions : (List ℕ → Type 0) → Exprs → Type 0
  InExpressions Is none = Unit {0}
  InExpressions Is (more e rest) = InExpression Is e × InExpressions Is rest

abbrev pub InOptional : (List ℕ → Type 0) → Option Expr → Type 0
InOptional Is None = Unit {0}
InOptional Is (Some e) = InExpression Is e

abbrev pub InTarget : (List ℕ → Type 0) → Target → Type 0
InTarget Is (AtVariable x) = Unit {0}
InTarget Is (AtElement x e) = InExpression Is e

abbrev pub InAction : (List ℕ → Type 0) → Action → Type 0
InAction Is (Assign op target e) = InTarget Is target × InExpression Is e
InAction Is (Step op target) = InTarget Is target
InAction Is (Evaluate e) = InExpression Is e

abbrev pub InOptionalAction : (List ℕ → Type 0) → Option Action → Type 0
InOptionalAction Is None = Unit {0}
InOptionalAction Is (Some a) = InAction Is a

abbrev pub InDeclarators : (List ℕ → Type 0) → List Declarator → Type 0
InDeclarators Is [] = Unit {0}
InDeclarators Is (d ∷ rest) = InOptional Is d.initial × InDeclarators Is rest

abbrev pub InBeginning : (List ℕ → Type 0) → Beginning → Type 0
InBeginning Is (Declares t ds) = InDeclarators Is ds
InBeginning Is (Performs a) = InOptionalAction Is a

-- `Is` holds for each function that a statement, or a list of statements, calls
abbrev mutual
  pub InStatement : (List ℕ → Type 0) → Stmt → Type 0
  InStatement Is (Block all) = InStatements Is all
  InStatement Is (tree.Local t ds) = InDeclarators Is ds
  InStatement Is (Perform a) = InOptionalAction Is a
  InStatement Is (Return at e) = InOptional Is e
  InStatement Is (Break at) = Unit {0}
  InStatement Is (Continue at) = Unit {0}
  InStatement Is (If c a) = InExpression Is c × InStatement Is a
  InStatement Is (IfElse c a b) = InExpression Is c × InStatement Is a × InStatement Is b
  InStatement Is (While c body) = InExpression Is c × InStatement Is body
  InStatement Is (DoWhile body c) = InStatement Is body × InExpression Is c
  InStatement Is (For first c behind body) = InBeginning Is first × InOptional Is c × InOptionalAction Is behind × InStatement Is body

  pub InStatements : (List ℕ → Type 0) → Stmts → Type 0
  InStatements Is end = Unit {0}
  InStatements Is (next first rest) = InStatement Is first × InStatements Is rest

-- the function calls only functions of lower rank
abbrev pub CallsLower : (rank : List ℕ → ℕ) → Function → Type 0
CallsLower rank f = InStatements (λ g. rank g < rank f.name) f.body

-- The calls of a unit have no cycle: its functions have ranks, by name, and each function calls only functions of lower rank.
-- The rank of main is below 1,024. If there is no cycle, such ranks always exist, since a unit has at most 64 functions.
pub record HasNoCycle (unit : List External) : Type 0 where
  pub rank : List ℕ → ℕ
  pub falls : AllByRecursion (CallsLower rank) (functions unit)
  pub low : rank (codes "main") < most_open
