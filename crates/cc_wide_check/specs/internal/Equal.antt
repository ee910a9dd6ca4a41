-- Tests for equal trees.
use Rattle.std.specs.Prelude.{ℕ, Bool, true, false, ◌&&◌, nat_eq, Option, Some, None}
use Rattle.cc_ast.specs.scalar.Scalar.{Scalar}
use Rattle.cc_ast.specs.scalar.Scalar.TheVariants.{Int, Unsigned}
use Rattle.cc_ast.specs.declared.ast.UnaryOperator.{UnaryOperator}
use Rattle.cc_ast.specs.declared.ast.UnaryOperator.TheVariants as unary
use Rattle.cc_ast.specs.declared.ast.BinaryOperator.{BinaryOperator}
use Rattle.cc_ast.specs.declared.ast.BinaryOperator.TheVariants as binary
use Rattle.cc_ast.specs.declared.ast.AssignmentOperator.{AssignmentOperator}
use Rattle.cc_ast.specs.declared.ast.AssignmentOperator.TheVariants as assignment
use Rattle.cc_ast.specs.declared.ast.StepOperator.{StepOperator}
use Rattle.cc_ast.specs.declared.ast.StepOperator.TheVariants as step
use Rattle.cc_ast.specs.Tree.{Name, Expr, Exprs, none, more, Number, Variable, Element, Call, Parenthesised, Unary, Cast, Binary, Conditional, Target, AtVariable, AtElement, Action, Assign, Step, Evaluate, Declarator, Beginning, Declares, Performs, Stmt, Stmts, end, next, Block, Local, Perform, Return, Break, Continue, If, IfElse, While, DoWhile, For, ConstantExpr, Parameter, Signature, Object, Single, Array, Bytes, External, Declaration, Definition, Objects}
use Rattle.std.specs.Cmp.Lexicographic.{pointwise}
use Rattle.cc_types.specs.Names.{same_name}

-- ---- values that may be absent, and lists

abbrev pub equal_option : {A : Type 0} → (A → A → Bool) → Option A → Option A → Bool
equal_option same None None = true
equal_option same None (Some y) = false
equal_option same (Some x) None = false
equal_option same (Some x) (Some y) = same x y

-- ---- operators and types, by numbers

abbrev pub unary_number : UnaryOperator → ℕ
unary_number unary.Plus = 0
unary_number unary.Minus = 1
unary_number unary.Complement = 2
unary_number unary.Not = 3

abbrev pub binary_number : BinaryOperator → ℕ
binary_number binary.Multiply = 0
binary_number binary.Divide = 1
binary_number binary.Remainder = 2
binary_number binary.Add = 3
binary_number binary.Subtract = 4
binary_number binary.ShiftLeft = 5
binary_number binary.ShiftRight = 6
binary_number binary.Less = 7
binary_number binary.Greater = 8
binary_number binary.LessOrEqual = 9
binary_number binary.GreaterOrEqual = 10
binary_number binary.Equal = 11
binary_number binary.NotEqual = 12
binary_number binary.And = 13
binary_number binary.Xor = 14
binary_number binary.Or = 15
binary_number binary.LogicalAnd = 16
binary_number binary.LogicalOr = 17

abbrev pub assignment_number : AssignmentOperator → ℕ
assignment_number assignment.Plain = 0
assignment_number assignment.Multiply = 1
assignment_number assignment.Divide = 2
assignment_number assignment.Remainder = 3
assignment_number assignment.Add = 4
assignment_number assignment.Subtract = 5
assignment_number assignment.ShiftLeft = 6
assignment_number assignment.ShiftRight = 7
assignment_number assignment.And = 8
assignment_number assignment.Xor = 9
assignment_number assignment.Or = 10

abbrev pub step_number : StepOperator → ℕ
step_number step.Increment = 0
step_number step.Decrement = 1

abbrev pub equal_unary : UnaryOperator → UnaryOperator → Bool
equal_unary a b = nat_eq (unary_number a) (unary_number b)

abbrev pub equal_binary : BinaryOperator → BinaryOperator → Bool
equal_binary a b = nat_eq (binary_number a) (binary_number b)

abbrev pub equal_assignment : AssignmentOperator → AssignmentOperator → Bool
equal_assignment a b = nat_eq (assignment_number a) (assignment_number b)

abbrev pub equal_step : StepOperator → StepOperator → Bool
equal_step a b = nat_eq (step_number a) (step_number b)

abbrev pub equal_scalar : Scalar → Scalar → Bool
equal_scalar Int Int = true
equal_scalar Int Unsigned = false
equal_scalar Unsigned Int = false
equal_scalar Unsigned Unsigned = true

-- ---- expressions

abbrev pub equal_name : Name → Name → Bool
equal_name x y = nat_eq x.at y.at && same_name x.text y.text

abbrev mutual
  pub equal_expression : Expr → Expr → Bool
  equal_expression (Number t n) (Number u m) = equal_scalar t u && nat_eq n m
  equal_expression (Variable x) (Variable y) = equal_name x y
  equal_expression (Element x e) (Element y f) = equal_name x y && equal_expression e f
  equal_expression (Call x es) (Call y fs) = equal_name x y && equal_expressions es fs
  equal_expression (Parenthesised e) (Parenthesised f) = equal_expression e f
  equal_expression (Unary op e) (Unary oq f) = equal_unary op oq && equal_expression e f
  equal_expression (Cast t e) (Cast u f) = equal_scalar t u && equal_expression e f
  equal_expression (Binary op a b) (Binary oq c d) = equal_binary op oq && (equal_expression a c && equal_expression b d)
  equal_expression (Conditional c a b) (Conditional d e f) = equal_expression c d && (equal_expression a e && equal_expression b f)
  equal_expression a b = false

  pub equal_expressions : Exprs → Exprs → Bool
  equal_expressions none none = true
  equal_expressions (more e es) (more f fs) = equal_expression e f && equal_expressions es fs
  equal_expressions es fs = false

-- ---- actions and declarations

abbrev pub equal_target : Target → Target → Bool
equal_target (AtVariable x) (AtVariable y) = equal_name x y
equal_target (AtElement x e) (AtElement y f) = equal_name x y && equal_expression e f
equal_target a b = false

abbrev pub equal_action : Action → Action → Bool
equal_action (Assign op a e) (Assign oq b f) = equal_assignment op oq && (equal_target a b && equal_expression e f)
equal_action (Step op a) (Step oq b) = equal_step op oq && equal_target a b
equal_action (Evaluate e) (Evaluate f) = equal_expression e f
equal_action a b = false

abbrev pub equal_declarator : Declarator → Declarator → Bool
equal_declarator d e = equal_name d.name e.name && equal_option equal_expression d.initial e.initial

abbrev pub equal_beginning : Beginning → Beginning → Bool
equal_beginning (Declares t ds) (Declares u es) = equal_scalar t u && pointwise equal_declarator ds es
equal_beginning (Performs a) (Performs b) = equal_option equal_action a b
equal_beginning a b = false

-- ---- statements

abbrev mutual
  pub equal_statement : Stmt → Stmt → Bool
  equal_statement (Block a) (Block b) = equal_statements a b
  equal_statement (Local t ds) (Local u es) = equal_scalar t u && pointwise equal_declarator ds es
  equal_statement (Perform a) (Perform b) = equal_option equal_action a b
  equal_statement (Return at e) (Return by f) = nat_eq at by && equal_option equal_expression e f
  equal_statement (Break at) (Break by) = nat_eq at by
  equal_statement (Continue at) (Continue by) = nat_eq at by
  equal_statement (If c s) (If d t) = equal_expression c d && equal_statement s t
  equal_statement (IfElse c s a) (IfElse d t b) = equal_expression c d && (equal_statement s t && equal_statement a b)
  equal_statement (While c s) (While d t) = equal_expression c d && equal_statement s t
  equal_statement (DoWhile s c) (DoWhile t d) = equal_statement s t && equal_expression c d
  equal_statement (For f c a s) (For g d b t) =
      equal_beginning f g && (equal_option equal_expression c d && (equal_option equal_action a b && equal_statement s t))
  equal_statement a b = false

  pub equal_statements : Stmts → Stmts → Bool
  equal_statements end end = true
  equal_statements (next s ss) (next t ts) = equal_statement s t && equal_statements ss ts
  equal_statements ss ts = false

-- ---- functions and units

abbrev pub equal_constant : ConstantExpr → ConstantExpr → Bool
equal_constant c d = nat_eq c.at d.at && equal_expression c.expr d.expr

abbrev pub equal_parameter : Parameter → Parameter → Bool
equal_parameter p q = equal_scalar p.scalar q.scalar && equal_option equal_name p.name q.name

abbrev pub equal_signature : Signature → Signature → Bool
equal_signature s t =
    equal_option equal_scalar s.result t.result && (equal_name s.name t.name && pointwise equal_parameter s.parameters t.parameters)

abbrev pub equal_object : Object → Object → Bool
equal_object (Single x e) (Single y f) = equal_name x y && equal_option equal_constant e f
equal_object (Array x n es) (Array y m fs) = equal_name x y && (equal_option equal_constant n m && pointwise equal_constant es fs)
equal_object (Bytes x n es) (Bytes y m fs) = equal_name x y && (equal_option equal_constant n m && pointwise equal_constant es fs)
equal_object a b = false

abbrev pub equal_external : External → External → Bool
equal_external (Declaration s) (Declaration t) = equal_signature s t
equal_external (Definition s a) (Definition t b) = equal_signature s t && equal_statements a b
equal_external (Objects t os) (Objects u ps) = equal_scalar t u && pointwise equal_object os ps
equal_external a b = false

-- ---- parentheses

abbrev pub is_parenthesised : Expr → Bool
is_parenthesised (Parenthesised e) = true
is_parenthesised e = false
