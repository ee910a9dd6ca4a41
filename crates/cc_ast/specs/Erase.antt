-- The syntax tree of the definitions, made from the code's values.
use Rattle.std.specs.Prelude.{List, [], ◌∷◌, Option, map}
use Rattle.std.specs.Global.{Box}
use Rattle.std.specs.Option.{option_map}
use Rattle.cc_ast.specs.Tree as tree
use Rattle.cc_ast.specs.Tree.{Expr, Exprs, none, more, Stmt, Stmts, end, next, ConstantExpr}
use Rattle.cc_ast.specs.declared.ast.Identifier.{Identifier}
use Rattle.cc_ast.specs.declared.ast.Expression.{Expression, Number, Name, Element', Call', Parenthesised', Unary', Cast', Binary', Conditional', Row_of-Expression, end_of-Expression, more_of-Expression}
use Rattle.cc_ast.specs.declared.ast.Target.{Target}
use Rattle.cc_ast.specs.declared.ast.Target.TheVariants as targets
use Rattle.cc_ast.specs.declared.ast.Action.{Action}
use Rattle.cc_ast.specs.declared.ast.Action.TheVariants as actions
use Rattle.cc_ast.specs.declared.ast.Declarator.{Declarator}
use Rattle.cc_ast.specs.declared.ast.Beginning.{Beginning}
use Rattle.cc_ast.specs.declared.ast.Beginning.TheVariants as beginnings
use Rattle.cc_ast.specs.declared.ast.Statement.{Statement, Block', Local, Perform, Return, Break, Continue, If', IfElse', While', DoWhile', For', Row_of-Statement, end_of-Statement, more_of-Statement}
use Rattle.cc_ast.specs.declared.ast.ConstantExpression.{ConstantExpression}
use Rattle.cc_ast.specs.declared.ast.Parameter.{Parameter}
use Rattle.cc_ast.specs.declared.ast.Signature.{Signature}
use Rattle.cc_ast.specs.declared.ast.Object.{Object}
use Rattle.cc_ast.specs.declared.ast.Object.TheVariants as objects
use Rattle.cc_ast.specs.declared.ast.External.{External}
use Rattle.cc_ast.specs.declared.ast.External.TheVariants as externals

-- an identifier: its bytes and its offset
abbrev pub name_tree : Identifier → tree.Name
name_tree i = record { text = i.bytes.items; at = i.at }

-- the tree of an expression, and of a list of arguments
abbrev mutual
  pub expression_tree : Expression → Expr
  expression_tree (Number t n) = tree.Number t n
  expression_tree (Name x) = tree.Variable (name_tree x)
  expression_tree (Element' x p e) = tree.Element (name_tree x) (expression_tree e)
  expression_tree (Call' f shape es) = tree.Call (name_tree f) (expressions_tree es)
  expression_tree (Parenthesised' p e) = tree.Parenthesised (expression_tree e)
  expression_tree (Unary' op p e) = tree.Unary op (expression_tree e)
  expression_tree (Cast' t p e) = tree.Cast t (expression_tree e)
  expression_tree (Binary' op p a q b) = tree.Binary op (expression_tree a) (expression_tree b)
  expression_tree (Conditional' p c q a r b) = tree.Conditional (expression_tree c) (expression_tree a) (expression_tree b)

  pub expressions_tree : {m : _} → Row_of-Expression m → Exprs
  expressions_tree end_of-Expression = none
  expressions_tree (more_of-Expression e rest) = more (expression_tree e) (expressions_tree rest)

-- the tree of a boxed expression that may be absent
abbrev pub optional_tree : Option (Box Expression) → Option Expr
optional_tree e = option_map (λ b. expression_tree b.value) e

-- the tree of an assignment's target
abbrev pub target_tree : Target → tree.Target
target_tree (targets.Variable x) = tree.AtVariable (name_tree x)
target_tree (targets.Element x e) = tree.AtElement (name_tree x) (expression_tree e.value)

-- the tree of an action
abbrev pub action_tree : Action → tree.Action
action_tree (actions.Assign op t e) = tree.Assign op (target_tree t) (expression_tree e.value)
action_tree (actions.Step op t) = tree.Step op (target_tree t)
action_tree (actions.Evaluate e) = tree.Evaluate (expression_tree e.value)

-- the tree of an action that may be absent
abbrev pub optional_action : Option Action → Option tree.Action
optional_action a = option_map action_tree a

-- the tree of one name in a declaration
abbrev pub declarator_tree : Declarator → tree.Declarator
declarator_tree d = record { name = name_tree d.name; initial = optional_tree d.initial }

-- the trees of the names in a declaration
abbrev pub declarator_trees : List Declarator → List tree.Declarator
declarator_trees ds = map declarator_tree ds

-- the tree of the first part of a `for` header
abbrev pub beginning_tree : Beginning → tree.Beginning
beginning_tree (beginnings.Declaration t ds) = tree.Declares t (declarator_trees ds.items)
beginning_tree (beginnings.Action a) = tree.Performs (optional_action a)

-- the tree of a statement, and of a list of statements
abbrev mutual
  pub statement_tree : Statement → Stmt
  statement_tree (Block' shape all) = tree.Block (statements_tree all)
  statement_tree (Local t ds) = tree.Local t (declarator_trees ds.items)
  statement_tree (Perform a) = tree.Perform (optional_action a)
  statement_tree (Return at e) = tree.Return at (optional_tree e)
  statement_tree (Break at) = tree.Break at
  statement_tree (Continue at) = tree.Continue at
  statement_tree (If' c p s) = tree.If (expression_tree c.value) (statement_tree s)
  statement_tree (IfElse' c p s q r) = tree.IfElse (expression_tree c.value) (statement_tree s) (statement_tree r)
  statement_tree (While' c p s) = tree.While (expression_tree c.value) (statement_tree s)
  statement_tree (DoWhile' p s c) = tree.DoWhile (statement_tree s) (expression_tree c.value)
  statement_tree (For' b c a p s) = tree.For (beginning_tree b.value) (optional_tree c) (optional_action a) (statement_tree s)

  pub statements_tree : {m : _} → Row_of-Statement m → Stmts
  statements_tree end_of-Statement = end
  statements_tree (more_of-Statement s rest) = next (statement_tree s) (statements_tree rest)

-- the trees of a list of statements
abbrev pub statements_of : List Statement → Stmts
statements_of [] = end
statements_of (s ∷ rest) = next (statement_tree s) (statements_of rest)

-- the tree of a constant expression
abbrev pub constant_tree : ConstantExpression → ConstantExpr
constant_tree c = record { at = c.at; expr = expression_tree c.expression.value }

-- the tree of a constant expression that may be absent
abbrev pub optional_constant : Option ConstantExpression → Option ConstantExpr
optional_constant c = option_map constant_tree c

-- the trees of the values in an initialiser list
abbrev pub constant_trees : List ConstantExpression → List ConstantExpr
constant_trees cs = map constant_tree cs

-- the tree of a parameter
abbrev pub parameter_tree : Parameter → tree.Parameter
parameter_tree p = record { scalar = p.scalar; name = option_map name_tree p.name }

-- the trees of a function's parameters
abbrev pub parameter_trees : List Parameter → List tree.Parameter
parameter_trees ps = map parameter_tree ps

-- the tree of a function's head
abbrev pub signature_tree : Signature → tree.Signature
signature_tree s = record { result = s.result; name = name_tree s.name; parameters = parameter_trees s.parameters.items }

-- the tree of one name in a declaration of objects
abbrev pub object_tree : Object → tree.Object
object_tree (objects.Single x e) = tree.Single (name_tree x) (optional_constant e)
object_tree (objects.Array x n es) = tree.Array (name_tree x) (optional_constant n) (constant_trees es.items)
object_tree (objects.Bytes x n es) = tree.Bytes (name_tree x) (optional_constant n) (constant_trees es.items)

-- the trees of the names in a declaration of objects
abbrev pub object_trees : List Object → List tree.Object
object_trees os = map object_tree os

-- the tree of an external declaration
abbrev pub external_tree : External → tree.External
external_tree (externals.Declaration s) = tree.Declaration (signature_tree s)
external_tree (externals.Definition s body) = tree.Definition (signature_tree s) (statements_of body.items)
external_tree (externals.Objects t os) = tree.Objects t (object_trees os.items)

-- the trees of a unit
abbrev pub external_trees : List External → List tree.External
external_trees es = map external_tree es
