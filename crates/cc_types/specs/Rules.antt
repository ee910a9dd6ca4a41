-- The rules of scope and type, given by the places where a unit breaks them. For each part of the tree there is a list of the
-- rules that the part breaks in its scope. The order in which a checker looks for errors is left open. After an error, the part
-- is judged as if its type were int. The numbers in parentheses are clauses of ISO/IEC 9899:1999.
use Rattle.std.specs.Prelude.{ℕ, ◌+◌, Bool, true, false, ◌==◌, ◌||◌, ◌&&◌, not, List, [], ◌∷◌, ◌++◌, length, Option, Some, None, if◌then◌else◌, is_some, nat_lt, codes}
use Rattle.cc_ast.specs.scalar.Scalar.{Scalar}
use Rattle.cc_ast.specs.scalar.Scalar.TheVariants.{Int}
use Rattle.cc_ast.specs.Tree as tree
use Rattle.cc_ast.specs.Tree.{Name, Expr, Exprs, none, more, Number, Element, Call, Parenthesised, Unary, Cast, Binary, Conditional, Target, AtVariable, AtElement, Action, Assign, Step, Evaluate, Declarator, Beginning, Declares, Performs, Stmt, Stmts, end, next, Block, Local, Perform, Return, Break, Continue, If, IfElse, While, DoWhile, For, ConstantExpr, Parameter, Signature, Object, Single, Array, Bytes, External, Declaration, Definition, Objects}
use Rattle.cc_types.specs.Names.{same_name}
use Rattle.cc_types.specs.Scope.{Entity, Variable, Elements, Function, Binding, found, is_declared, Visible, in_scope, opened, declared, scope_behind, scope_behind_beginning, parameter_declared, FileScope, has_name, first_file_scope, with_function, with_declared, with_object, file_scope_behind, file_scope_behind_all, function_entity, body_scope, same_entity, same_result}
use Rattle.cc_types.specs.Types.{result_type, constant_word, array_length}
use Rattle.cc_types.specs.declared.rule.RuleError.{RuleError}
use Rattle.cc_types.specs.declared.rule.Rule.{Rule}
use Rattle.cc_types.specs.declared.rule.Rule.TheVariants.{Unknown, Redeclared, WrongKind, WrongCount, VoidValue, BadReturn, BadAssign, BadBreak, Undefined}

-- one rule is broken, at the token with this offset
abbrev pub broken : Rule → ℕ → List RuleError
broken r at = record { rule = r; at = at } ∷ []

-- a rule is broken if the condition holds
abbrev pub broken_if : Bool → Rule → ℕ → List RuleError
broken_if holds r at = if holds then broken r at else []

-- ---- names

-- a name in a place that needs a variable: an array or a function breaks the given rule
abbrev pub variable_errors : Rule → Option Entity → ℕ → List RuleError
variable_errors misuse None at = broken Unknown at
variable_errors misuse (Some (Variable t)) at = []
variable_errors misuse (Some (Elements t)) at = broken misuse at
variable_errors misuse (Some (Function r ts)) at = broken misuse at

-- a name that is indexed must be an array (6.5.2.1)
abbrev pub array_errors : Option Entity → ℕ → List RuleError
array_errors None at = broken Unknown at
array_errors (Some (Variable t)) at = broken WrongKind at
array_errors (Some (Elements t)) at = []
array_errors (Some (Function r ts)) at = broken WrongKind at

-- a name that is called with this many arguments must be a function of as many parameters (6.5.2.2)
abbrev pub function_errors : Option Entity → ℕ → ℕ → List RuleError
function_errors None count at = broken Unknown at
function_errors (Some (Variable t)) count at = broken WrongKind at
function_errors (Some (Elements t)) count at = broken WrongKind at
function_errors (Some (Function r ts)) count at = broken_if (not (count == length ts)) WrongCount at

-- ---- expressions

-- how many arguments a call has
abbrev pub count_of : Exprs → ℕ
count_of none = 0
count_of (more e rest) = 1 + count_of rest

-- a void call whose value is used, also in parentheses (6.3.2.2)
abbrev pub void_errors : List Binding → Expr → List RuleError
void_errors bs (Call f es) = elim (result_type (found bs f.text)) [ None ↦ broken VoidValue f.at | Some t ↦ [] ]
void_errors bs (Parenthesised e) = void_errors bs e
void_errors bs e = []

-- an expression that is evaluated, its value used or not: each part except a pair of parentheses uses its own parts' values (6.5)
abbrev mutual
  pub expression_errors : List Binding → Expr → List RuleError
  expression_errors bs (Number t n) = []
  expression_errors bs (tree.Variable x) = variable_errors WrongKind (found bs x.text) x.at
  expression_errors bs (Element x e) = array_errors (found bs x.text) x.at ++ (expression_errors bs e ++ void_errors bs e)
  expression_errors bs (Call f es) = function_errors (found bs f.text) (count_of es) f.at ++ argument_errors bs es
  expression_errors bs (Parenthesised e) = expression_errors bs e
  expression_errors bs (Unary op e) = expression_errors bs e ++ void_errors bs e
  expression_errors bs (Cast t e) = expression_errors bs e ++ void_errors bs e
  expression_errors bs (Binary op a b) = (expression_errors bs a ++ void_errors bs a) ++ (expression_errors bs b ++ void_errors bs b)
  expression_errors bs (Conditional c a b) =
      (expression_errors bs c ++ void_errors bs c) ++ ((expression_errors bs a ++ void_errors bs a) ++ (expression_errors bs b ++ void_errors bs b))

  pub argument_errors : List Binding → Exprs → List RuleError
  argument_errors bs none = []
  argument_errors bs (more e rest) = (expression_errors bs e ++ void_errors bs e) ++ argument_errors bs rest

-- an expression whose value is used
abbrev pub value_errors : List Binding → Expr → List RuleError
value_errors bs e = expression_errors bs e ++ void_errors bs e

-- an expression that may be absent
abbrev pub optional_errors : List Binding → Option Expr → List RuleError
optional_errors bs None = []
optional_errors bs (Some e) = value_errors bs e

-- the target of an assignment: a variable, or an element of an array (6.5.16)
abbrev pub target_errors : List Binding → Target → List RuleError
target_errors bs (AtVariable x) = variable_errors BadAssign (found bs x.text) x.at
target_errors bs (AtElement x e) = array_errors (found bs x.text) x.at ++ value_errors bs e

-- an expression statement may be a void call; the value of any other expression is used (6.8.3)
abbrev pub action_errors : List Binding → Action → List RuleError
action_errors bs (Assign op t e) = target_errors bs t ++ value_errors bs e
action_errors bs (Step op t) = target_errors bs t
action_errors bs (Evaluate e) = expression_errors bs e

abbrev pub optional_action_errors : List Binding → Option Action → List RuleError
optional_action_errors bs None = []
optional_action_errors bs (Some a) = action_errors bs a

-- ---- statements

-- locals: a scope declares no name twice (6.7); a name is in scope in its own initialiser (6.2.1)
abbrev pub declared_errors : Scalar → List Declarator → Visible → List RuleError
declared_errors t [] v = []
declared_errors t (d ∷ rest) v =
    broken_if (is_declared v.inner d.name.text) Redeclared d.name.at
    ++ (optional_errors (in_scope (declared d.name.text (Variable t) v)) d.initial
    ++ declared_errors t rest (declared d.name.text (Variable t) v))

-- the first part of a `for` header
abbrev pub beginning_errors : Beginning → Visible → List RuleError
beginning_errors (Declares t ds) v = declared_errors t ds v
beginning_errors (Performs a) v = optional_action_errors (in_scope v) a

-- a return statement: with a value in a function of type int or unsigned, without a value in a void function (6.8.6.4)
abbrev pub return_errors : Option Scalar → List Binding → ℕ → Option Expr → List RuleError
return_errors None bs at None = []
return_errors None bs at (Some e) = broken BadReturn at ++ value_errors bs e
return_errors (Some t) bs at None = broken BadReturn at
return_errors (Some t) bs at (Some e) = value_errors bs e

-- what surrounds a statement: its function's result type, None for void, and whether it is in a loop
pub record Around : Type 0 where
  pub result : Option Scalar
  pub in_loop : Bool

-- the surroundings inside the body of a loop
abbrev pub within_loop : Around → Around
within_loop a = record a { in_loop = true }

-- a statement, and a list of statements. A block and each part of a statement are scopes of their own (6.8.2, 6.8.4, 6.8.5), and
-- a `for` header is a scope around the loop's body. break and continue must be in a loop (6.8.6.2, 6.8.6.3).
abbrev mutual
  pub statement_errors : Stmt → Around → Visible → List RuleError
  statement_errors (Block all) a v = statements_errors all a (opened v)
  statement_errors (Local t ds) a v = declared_errors t ds v
  statement_errors (Perform action) a v = optional_action_errors (in_scope v) action
  statement_errors (Return at e) a v = return_errors a.result (in_scope v) at e
  statement_errors (Break at) a v = broken_if (not a.in_loop) BadBreak at
  statement_errors (Continue at) a v = broken_if (not a.in_loop) BadBreak at
  statement_errors (If c s) a v = value_errors (in_scope v) c ++ statement_errors s a (opened v)
  statement_errors (IfElse c s r) a v = value_errors (in_scope v) c ++ (statement_errors s a (opened v) ++ statement_errors r a (opened v))
  statement_errors (While c s) a v = value_errors (in_scope v) c ++ statement_errors s (within_loop a) (opened v)
  statement_errors (DoWhile s c) a v = statement_errors s (within_loop a) (opened v) ++ value_errors (in_scope v) c
  statement_errors (For start c behind s) a v =
      beginning_errors start (opened v)
      ++ (optional_errors (in_scope (scope_behind_beginning start (opened v))) c
      ++ (optional_action_errors (in_scope (scope_behind_beginning start (opened v))) behind
      ++ statement_errors s (within_loop a) (opened (scope_behind_beginning start (opened v)))))

  pub statements_errors : Stmts → Around → Visible → List RuleError
  statements_errors end a v = []
  statements_errors (next first rest) a v = statement_errors first a v ++ statements_errors rest a (scope_behind first v)

-- ---- file scope

-- a constant expression contains no names and no calls, and does not go wrong; an error is reported at its first token (6.6)
abbrev pub constant_errors : List Binding → ConstantExpr → List RuleError
constant_errors bs c = value_errors bs c.expr ++ broken_if (not (is_some (constant_word c))) WrongKind c.at

abbrev pub optional_constant_errors : List Binding → Option ConstantExpr → List RuleError
optional_constant_errors bs None = []
optional_constant_errors bs (Some c) = constant_errors bs c

abbrev pub constants_errors : List Binding → List ConstantExpr → List RuleError
constants_errors bs [] = []
constants_errors bs (c ∷ rest) = constant_errors bs c ++ constants_errors bs rest

-- an array has at least one element, and at least as many as its list has values (6.7.5.2, 6.7.8)
abbrev pub length_errors : Option ℕ → ℕ → ℕ → List RuleError
length_errors None given at = []
length_errors (Some n) given at = broken_if (n == 0 || nat_lt n given) WrongCount at

-- an array: its name must be new at file scope, and is in scope in the array's values, but not in its length (6.2.1)
abbrev pub named_array_errors : Scalar → Name → Option ConstantExpr → List ConstantExpr → FileScope → List RuleError
named_array_errors t x n values f =
    broken_if (is_declared f.bindings x.text) Redeclared x.at
    ++ (optional_constant_errors f.bindings n
    ++ (length_errors (array_length n values) (length values) x.at
    ++ constants_errors (with_declared x.text (Elements t) f).bindings values))

-- one name in a declaration of objects
abbrev pub object_errors : Scalar → Object → FileScope → List RuleError
object_errors t (Single x initial) f =
    broken_if (is_declared f.bindings x.text) Redeclared x.at
    ++ optional_constant_errors (with_object t (Single x initial) f).bindings initial
object_errors t (Array x n values) f = named_array_errors t x n values f
object_errors t (Bytes x n values) f = named_array_errors Int x n values f

abbrev pub objects_errors : Scalar → List Object → FileScope → List RuleError
objects_errors t [] f = []
objects_errors t (o ∷ rest) f = object_errors t o f ++ objects_errors t rest (with_object t o f)

-- the name of a parameter: parameters are a scope, which declares no name twice
abbrev pub parameter_errors : Option Name → Visible → List RuleError
parameter_errors None v = []
parameter_errors (Some x) v = broken_if (is_declared v.inner x.text) Redeclared x.at

abbrev pub parameters_errors : List Parameter → Visible → List RuleError
parameters_errors [] v = []
parameters_errors (p ∷ rest) v = parameter_errors p.name v ++ parameters_errors rest (parameter_declared p.scalar p.name v)

-- a declaration contradicts what its name already denotes
abbrev pub differs : Option Entity → Entity → Bool
differs None e = false
differs (Some old) e = not (same_entity old e)

-- the head of a function: any other declaration of its name must have the same types (6.7)
abbrev pub signature_errors : Signature → FileScope → List RuleError
signature_errors s f =
    broken_if (differs (found f.bindings s.name.text) (function_entity s)) Redeclared s.name.at
    ++ parameters_errors s.parameters (record { inner = []; outer = (with_function s f).bindings })

-- an external declaration; a function is defined only once, and a builtin never (6.9)
abbrev pub external_errors : External → FileScope → List RuleError
external_errors (Declaration s) f = signature_errors s f
external_errors (Definition s body) f =
    signature_errors s f
    ++ (broken_if (has_name f.defined s.name.text) Redeclared s.name.at
    ++ statements_errors body (record { result = s.result; in_loop = false }) (body_scope s f))
external_errors (Objects t os) f = objects_errors t os f

abbrev pub externals_errors : List External → FileScope → List RuleError
externals_errors [] f = []
externals_errors (e ∷ rest) f = external_errors e f ++ externals_errors rest (file_scope_behind e f)

-- every rule that a unit breaks
abbrev pub errors : List External → List RuleError
errors externals = externals_errors externals first_file_scope

-- ---- what a whole unit must have

-- a definition of `int main` without parameters (5.1.2.2.1)
abbrev pub is_main : External → Bool
is_main (Definition s body) = same_name (codes "main") s.name.text && (same_result s.result (Some Int) && length s.parameters == 0)
is_main e = false

abbrev pub defines_main : List External → Bool
defines_main [] = false
defines_main (e ∷ rest) = is_main e || defines_main rest

-- the names of the functions that are called, one for each call
abbrev mutual
  pub called_in : Expr → List Name
  called_in (Number t n) = []
  called_in (tree.Variable x) = []
  called_in (Element x e) = called_in e
  called_in (Call f es) = f ∷ called_in_all es
  called_in (Parenthesised e) = called_in e
  called_in (Unary op e) = called_in e
  called_in (Cast t e) = called_in e
  called_in (Binary op a b) = called_in a ++ called_in b
  called_in (Conditional c a b) = called_in c ++ (called_in a ++ called_in b)

  pub called_in_all : Exprs → List Name
  called_in_all none = []
  called_in_all (more e rest) = called_in e ++ called_in_all rest

abbrev pub called_in_optional : Option Expr → List Name
called_in_optional None = []
called_in_optional (Some e) = called_in e

abbrev pub called_in_target : Target → List Name
called_in_target (AtVariable x) = []
called_in_target (AtElement x e) = called_in e

abbrev pub called_in_action : Action → List Name
called_in_action (Assign op t e) = called_in_target t ++ called_in e
called_in_action (Step op t) = called_in_target t
called_in_action (Evaluate e) = called_in e

abbrev pub called_in_optional_action : Option Action → List Name
called_in_optional_action None = []
called_in_optional_action (Some a) = called_in_action a

abbrev pub called_in_declared : List Declarator → List Name
called_in_declared [] = []
called_in_declared (d ∷ rest) = called_in_optional d.initial ++ called_in_declared rest

abbrev pub called_in_beginning : Beginning → List Name
called_in_beginning (Declares t ds) = called_in_declared ds
called_in_beginning (Performs a) = called_in_optional_action a

abbrev mutual
  pub called_in_statement : Stmt → List Name
  called_in_statement (Block all) = called_in_statements all
  called_in_statement (Local t ds) = called_in_declared ds
  called_in_statement (Perform a) = called_in_optional_action a
  called_in_statement (Return at e) = called_in_optional e
  called_in_statement (Break at) = []
  called_in_statement (Continue at) = []
  called_in_statement (If c s) = called_in c ++ called_in_statement s
  called_in_statement (IfElse c s r) = called_in c ++ (called_in_statement s ++ called_in_statement r)
  called_in_statement (While c s) = called_in c ++ called_in_statement s
  called_in_statement (DoWhile s c) = called_in_statement s ++ called_in c
  called_in_statement (For start c behind s) =
      called_in_beginning start ++ (called_in_optional c ++ (called_in_optional_action behind ++ called_in_statement s))

  pub called_in_statements : Stmts → List Name
  called_in_statements end = []
  called_in_statements (next first rest) = called_in_statement first ++ called_in_statements rest

-- the calls in constant expressions; each such call breaks a rule already
abbrev pub called_in_constant : ConstantExpr → List Name
called_in_constant c = called_in c.expr

abbrev pub called_in_optional_constant : Option ConstantExpr → List Name
called_in_optional_constant None = []
called_in_optional_constant (Some c) = called_in_constant c

abbrev pub called_in_constants : List ConstantExpr → List Name
called_in_constants [] = []
called_in_constants (c ∷ rest) = called_in_constant c ++ called_in_constants rest

abbrev pub called_in_object : Object → List Name
called_in_object (Single x initial) = called_in_optional_constant initial
called_in_object (Array x n values) = called_in_optional_constant n ++ called_in_constants values
called_in_object (Bytes x n values) = called_in_optional_constant n ++ called_in_constants values

abbrev pub called_in_objects : List Object → List Name
called_in_objects [] = []
called_in_objects (o ∷ rest) = called_in_object o ++ called_in_objects rest

abbrev pub called_in_external : External → List Name
called_in_external (Declaration s) = []
called_in_external (Definition s body) = called_in_statements body
called_in_external (Objects t os) = called_in_objects os

-- every call of a unit
abbrev pub called : List External → List Name
called [] = []
called (e ∷ rest) = called_in_external e ++ called rest

-- one error for each of these calls whose function is not defined
abbrev pub undefined_among : List (List ℕ) → List Name → List RuleError
undefined_among defined [] = []
undefined_among defined (f ∷ rest) = broken_if (not (has_name defined f.text)) Undefined f.at ++ undefined_among defined rest

-- every call of a function that the unit never defines, reached or not; a builtin counts as defined (6.9)
abbrev pub undefined_calls : List External → List RuleError
undefined_calls externals = undefined_among (file_scope_behind_all externals first_file_scope).defined (called externals)
