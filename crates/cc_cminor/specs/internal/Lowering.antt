-- How the body of a function becomes Cminor. A local's number is how many locals are older than it
-- (`Rattle.cc_layout.specs.Environment`), and values that have to wait are kept in variables above all locals in scope. A reader
-- need not check this file: what a pair guarantees does not mention it.
use Rattle.std.specs.Prelude.{ℕ, zero, suc, Bool, true, false, not, ◌&&◌, ◌==◌, List, [], ◌∷◌, ◌++◌, length, if◌then◌else◌, Option, Some, None, unwrap_or}
use Rattle.cc_tokens.specs.declared.scalar.Scalar.{Scalar}
use Rattle.cc_tokens.specs.declared.scalar.Scalar.TheVariants.{Int}
use Rattle.cc_words.specs.declared.operators.Unary as unary
use Rattle.cc_words.specs.declared.operators.Unary.TheVariants as one
use Rattle.cc_words.specs.declared.operators.Binary as binary
use Rattle.cc_words.specs.declared.operators.Binary.TheVariants as two
use Rattle.cc_ast.specs.declared.ast.BinaryOperator.{BinaryOperator}
use Rattle.cc_ast.specs.declared.ast.BinaryOperator.TheVariants as source
use Rattle.cc_ast.specs.declared.ast.UnaryOperator.{UnaryOperator}
use Rattle.cc_ast.specs.Tree as tree
use Rattle.cc_ast.specs.Tree.{Expr, Exprs, none, more, Number, Variable, Element, Parenthesised, Cast, Conditional, Target, AtVariable, AtElement, Action, Assign, Step, Evaluate, Declarator, Beginning, Declares, Performs, Stmt, Stmts, end, next, Perform, Break, Continue, IfElse, While, DoWhile, For}
use Rattle.cc_types.specs.Operators.{working_type, applied_operator, step_operator}
use Rattle.cc_types.specs.Types.{value_type, target_type}
use Rattle.cc_layout.specs.Layout.{Layout, object_number, extent_of, callee}
use Rattle.cc_layout.specs.Environment.{Environment, number_in, types_in, inner, with_local, behind, behind_beginning}
use Rattle.cc_resolve.specs.Operations.{operation, unary_operation}
use Rattle.cc_layout.specs.declared.layout.Callee.{Callee}
use Rattle.cc_layout.specs.declared.layout.Callee.TheVariants.{WriteWord, ReadWord, Defined}
use Rattle.cc_resolve.specs.declared.operations.UnaryOperation.{UnaryOperation}
use Rattle.cc_resolve.specs.declared.operations.UnaryOperation.TheVariants as single
use Rattle.cc_resolve.specs.declared.operations.BinaryOperation.{BinaryOperation}
use Rattle.cc_resolve.specs.declared.operations.BinaryOperation.TheVariants as word
use Rattle.cc_words.specs.declared.operators.Width.{Width}
use Rattle.cc_words.specs.declared.operators.Width.TheVariants.{Word}
use Rattle.cc_cminor_language.specs.Cminor.{Expression, Constant, Local, Unary, Binary, Load, Statement, Skip, Set, Store, Call, Read, Write, Sequence, If, Loop, Block, Exit, Return}
use Rattle.cc_cminor_language.specs.Code.{in_sequence}

-- the first variable above all locals in scope
abbrev pub free : Environment → ℕ
free v = length v.locals

-- the number of the object with this name; any number if no object has it
abbrev pub object_of : Layout → List ℕ → ℕ
object_of g x = unwrap_or (object_number g.objects x) 0

-- how wide the elements of the object with this name are
abbrev pub width_of : Layout → List ℕ → Width
width_of g x = (extent_of g.objects x).width

-- ---- variables and operators

abbrev pub read_of : Option ℕ → (object : ℕ) → Expression
read_of None o = Load Word o (Constant 0)
read_of (Some i) o = Local i

abbrev pub write_to : Option ℕ → (object : ℕ) → Expression → Statement
write_to None o e = Store Word o (Constant 0) e
write_to (Some i) o e = Set i e

abbrev pub variable_of : Layout → Environment → List ℕ → Expression
variable_of g v x = read_of (number_in v.locals x) (object_of g x)

abbrev pub variable_set : Layout → Environment → List ℕ → Expression → Statement
variable_set g v x e = write_to (number_in v.locals x) (object_of g x) e

-- an operation on one word
abbrev pub single_of : UnaryOperation → Expression → Expression
single_of single.Negate e = Unary one.Neg e
single_of single.Complement e = Unary one.Complement e
single_of single.IsZero e = Unary one.IsZero e

abbrev pub single_or : Option UnaryOperation → Expression → Expression
single_or None e = e
single_or (Some op) e = single_of op e

abbrev pub unary_of : UnaryOperator → Expression → Expression
unary_of op e = single_or (unary_operation op) e

-- an operation on two words; `>` is `<` with the operands exchanged
abbrev pub operation_of : BinaryOperation → Expression → Expression → Expression
operation_of word.Multiply a b = Binary two.Mul a b
operation_of word.DivideSigned a b = Binary two.DivS a b
operation_of word.DivideUnsigned a b = Binary two.DivU a b
operation_of word.RemainderSigned a b = Binary two.RemS a b
operation_of word.RemainderUnsigned a b = Binary two.RemU a b
operation_of word.Add a b = Binary two.Add a b
operation_of word.Subtract a b = Binary two.Sub a b
operation_of word.ShiftLeft a b = Binary two.Shl a b
operation_of word.ShiftRightSigned a b = Binary two.ShrS a b
operation_of word.ShiftRightUnsigned a b = Binary two.ShrU a b
operation_of word.LessSigned a b = Binary two.LtS a b
operation_of word.LessUnsigned a b = Binary two.LtU a b
operation_of word.GreaterSigned a b = Binary two.LtS b a
operation_of word.GreaterUnsigned a b = Binary two.LtU b a
operation_of word.LessOrEqualSigned a b = Binary two.LeS a b
operation_of word.LessOrEqualUnsigned a b = Binary two.LeU a b
operation_of word.GreaterOrEqualSigned a b = Binary two.LeS b a
operation_of word.GreaterOrEqualUnsigned a b = Binary two.LeU b a
operation_of word.Equal a b = Binary two.Eq a b
operation_of word.NotEqual a b = Binary two.Ne a b
operation_of word.And a b = Binary two.And a b
operation_of word.Xor a b = Binary two.Xor a b
operation_of word.Or a b = Binary two.Or a b

abbrev pub binary_of : BinaryOperator → Scalar → Expression → Expression → Expression
binary_of op t a b = operation_of (operation op t) a b

-- the operators whose value is always 0 or 1
abbrev pub is_comparison : binary.Binary → Bool
is_comparison two.Eq = true
is_comparison two.Ne = true
is_comparison two.LtS = true
is_comparison two.LtU = true
is_comparison two.LeS = true
is_comparison two.LeU = true
is_comparison op = false

abbrev pub is_zero_test : unary.Unary → Bool
is_zero_test one.IsZero = true
is_zero_test op = false

-- an expression whose value is always 0 or 1, judging by its form
abbrev pub is_truth : Expression → Bool
is_truth (Unary op e) = is_zero_test op
is_truth (Binary op a b) = is_comparison op
is_truth e = false

-- 1 if the value is not 0, else 0
abbrev pub truth_of : Expression → Expression
truth_of e = if is_truth e then e else Unary one.IsZero (Unary one.IsZero e)

-- ---- branches

-- a constant 0
abbrev pub is_nothing : Expression → Bool
is_nothing (Constant w) = w == 0
is_nothing e = false

-- a word that is 0 exactly if two words are equal: the first of them if the second is 0
abbrev pub different : Expression → Expression → Expression
different a b = if is_nothing b then a else Binary two.Xor a b

abbrev pub is_constant : Expression → Bool
is_constant (Constant w) = true
is_constant e = false

-- what a branch on a comparison tests: a word that is 0 exactly if the comparison is, or exactly if it is not. `<=` is the
-- opposite of `<` with the operands exchanged; with a constant on the right, `<=` itself is one instruction.
abbrev pub compared : binary.Binary → Expression → Expression → Expression
compared two.LeS a b = if is_constant b then Binary two.LeS a b else Binary two.LtS b a
compared two.LeU a b = if is_constant b then Binary two.LeU a b else Binary two.LtU b a
compared two.Eq a b = different a b
compared two.Ne a b = different a b
compared op a b = Binary op a b

-- whether the tested word is 0 exactly if the comparison is not 0
abbrev pub is_opposite : binary.Binary → (right : Expression) → Bool
is_opposite two.LeS b = not (is_constant b)
is_opposite two.LeU b = not (is_constant b)
is_opposite two.Eq b = true
is_opposite op b = false

-- what a branch on any expression tests
abbrev pub condition : Expression → Expression
condition (Unary op a) = if is_zero_test op then condition a else Unary op a
condition (Binary op a b) = compared op a b
condition e = e

abbrev pub is_reversed : Expression → Bool
is_reversed (Unary op a) = is_zero_test op && not (is_reversed a)
is_reversed (Binary op a b) = is_opposite op b
is_reversed e = false

-- a branch that runs the first statement if the value of an expression is not 0, else the second
abbrev pub branch : Expression → (nonzero otherwise : Statement) → Statement
branch e a b = if is_reversed e then If (condition e) b a else If (condition e) a b

-- `&&`, `||`, and the operators that need both operands
pub data Kind : Type 0 where
  Conjunction : Kind
  Disjunction : Kind
  Strict : Kind

abbrev pub kind : BinaryOperator → Kind
kind source.LogicalAnd = Conjunction
kind source.LogicalOr = Disjunction
kind op = Strict

abbrev pub is_strict : Kind → Bool
is_strict Strict = true
is_strict k = false

-- ---- expressions

-- the expression has no call, no && or ||, and no conditional: it becomes one expression of Cminor
abbrev pub is_plain : Expr → Bool
is_plain (Number t n) = true
is_plain (Variable x) = true
is_plain (Element x e) = is_plain e
is_plain (tree.Call f es) = false
is_plain (Parenthesised e) = is_plain e
is_plain (tree.Unary op e) = is_plain e
is_plain (Cast t e) = is_plain e
is_plain (tree.Binary op a b) = is_strict (kind op) && (is_plain a && is_plain b)
is_plain (Conditional c a b) = false

abbrev pub are_plain : Exprs → Bool
are_plain none = true
are_plain (more e rest) = is_plain e && are_plain rest

-- the expression of Cminor for a plain tree; any expression if the tree is not plain
abbrev pub plain : Layout → Environment → Expr → Expression
plain g v (Number t n) = Constant n
plain g v (Variable x) = variable_of g v x.text
plain g v (Element x e) = Load (width_of g x.text) (object_of g x.text) (plain g v e)
plain g v (tree.Call f es) = Constant 0
plain g v (Parenthesised e) = plain g v e
plain g v (tree.Unary op e) = unary_of op (plain g v e)
plain g v (Cast t e) = plain g v e
plain g v (tree.Binary op a b) = binary_of op (working_type op (value_type (types_in v) a) (value_type (types_in v) b)) (plain g v a) (plain g v b)
plain g v (Conditional c a b) = Constant 0

abbrev pub all_plain : Layout → Environment → Exprs → List Expression
all_plain g v none = []
all_plain g v (more e rest) = plain g v e ∷ all_plain g v rest

-- code that uses the value of an expression: the expression itself if it is plain, else variable k after its code
abbrev pub used : Bool → Expression → Statement → ℕ → (Expression → Statement) → Statement
used true e code k f = f e
used false e code k f = Sequence code (f (Local k))

-- how many arguments a call has
abbrev pub count : Exprs → ℕ
count none = 0
count (more e rest) = suc (count rest)

abbrev pub locals_from : ℕ → ℕ → List Expression
locals_from k zero = []
locals_from k (suc n) = Local k ∷ locals_from (suc k) n

-- the argument of a call with one argument
abbrev pub last_value : List Expression → Expression
last_value [] = Constant 0
last_value (e ∷ []) = e
last_value (e ∷ f ∷ rest) = last_value (f ∷ rest)

-- a call; its result goes into variable k
abbrev pub invoked : Callee → ℕ → List Expression → Statement
invoked WriteWord k es = Sequence (Write (last_value es)) (Set k (Constant 0))
invoked ReadWord k es = Read (Some k)
invoked (Defined f) k es = Call (Some k) f es

-- a call with arguments: the arguments themselves if all are plain, else n variables from k on after their code
abbrev pub called_on : Bool → List Expression → Statement → ℕ → ℕ → (List Expression → Statement) → Statement
called_on true es code k n f = f es
called_on false es code k n f = Sequence code (f (locals_from k n))

abbrev pub connected : Kind → BinaryOperator → Scalar → Bool → Bool → Expression → Expression → Statement → Statement → Statement → ℕ → Statement
connected Conjunction op t p q a b left right here k = used p a left k (λ x. branch x (used q b here k (λ y. Set k (truth_of y))) (Set k (Constant 0)))
connected Disjunction op t p q a b left right here k = used p a left k (λ x. branch x (Set k (Constant 1)) (used q b here k (λ y. Set k (truth_of y))))
connected Strict op t p q a b left right here k =
    if p && q then Set k (binary_of op t a b) else Sequence left (used q b right (suc k) (λ y. Set k (binary_of op t (Local k) y)))

-- the statements that put the value of an expression into variable k; they set only k and variables above it
abbrev mutual
  pub put_expr : Layout → Environment → ℕ → Expr → Statement
  put_expr g v k (Number t n) = Set k (Constant n)
  put_expr g v k (Variable x) = Set k (variable_of g v x.text)
  put_expr g v k (Element x e) = used (is_plain e) (plain g v e) (put_expr g v k e) k (λ i. Set k (Load (width_of g x.text) (object_of g x.text) i))
  put_expr g v k (tree.Call f es) =
      called_on (are_plain es) (all_plain g v es) (in_sequence (put_all g v k es)) k (count es) (λ us. invoked (callee g f.text) k us)
  put_expr g v k (Parenthesised e) = put_expr g v k e
  put_expr g v k (tree.Unary op e) = used (is_plain e) (plain g v e) (put_expr g v k e) k (λ a. Set k (unary_of op a))
  put_expr g v k (Cast t e) = put_expr g v k e
  put_expr g v k (tree.Binary op a b) =
      connected (kind op) op (working_type op (value_type (types_in v) a) (value_type (types_in v) b)) (is_plain a) (is_plain b) (plain g v a) (plain g v b)
      (put_expr g v k a) (put_expr g v (suc k) b) (put_expr g v k b) k
  put_expr g v k (Conditional c a b) = used (is_plain c) (plain g v c) (put_expr g v k c) k (λ x. branch x (put_expr g v k a) (put_expr g v k b))

  -- puts these values into the variables from k on
  pub put_all : Layout → Environment → ℕ → Exprs → List Statement
  put_all g v k none = []
  put_all g v k (more e rest) = put_expr g v k e ∷ put_all g v (suc k) rest

-- code that uses the value of an expression
abbrev pub using : Layout → Environment → ℕ → Expr → (Expression → Statement) → Statement
using g v k e f = used (is_plain e) (plain g v e) (put_expr g v k e) k f

-- code that uses the value of an expression, or the given word if the expression is absent
abbrev pub using_or : Layout → Environment → ℕ → ℕ → Option Expr → (Expression → Statement) → Statement
using_or g v k w None f = f (Constant w)
using_or g v k w (Some e) f = using g v k e f

-- ---- actions

-- the word to write, given the old value and that of the right side
abbrev pub combined : Option BinaryOperator → Scalar → Scalar → Expression → Expression → Expression
combined None t u old e = e
combined (Some op) t u old e = binary_of op (working_type op t u) old e

abbrev pub assigned : Layout → Environment → Target → (Scalar → Expression → Expression → Expression) → (ℕ → (Expression → Statement) → Statement) → Statement
assigned g v (AtVariable x) f go = go (free v) (λ e. variable_set g v x.text (f (target_type (types_in v) (AtVariable x)) (variable_of g v x.text) e))
assigned g v (AtElement x i) f go =
    Sequence (put_expr g v (free v) i)
    (go (suc (free v)) (λ e. Store (width_of g x.text) (object_of g x.text) (Local (free v)) (f (target_type (types_in v) (AtElement x i)) (Load (width_of g x.text) (object_of g x.text) (Local (free v))) e)))

abbrev pub performed : Layout → Environment → Action → Statement
performed g v (Assign op target e) = assigned g v target (λ t old new. combined (applied_operator op) t (value_type (types_in v) e) old new) (λ k f. using g v k e f)
performed g v (Step op target) = assigned g v target (λ t old new. combined (applied_operator (step_operator op)) t Int old new) (λ k f. f (Constant 1))
performed g v (Evaluate e) = put_expr g v (free v) e

abbrev pub performed_optional : Layout → Environment → Option Action → Statement
performed_optional g v None = Skip
performed_optional g v (Some a) = performed g v a

-- ---- declarations

-- the initialiser of the local with number i
abbrev pub initialised : Layout → Environment → ℕ → Option Expr → List Statement
initialised g v i None = []
initialised g v i (Some e) = using g v (suc i) e (λ x. Set i x) ∷ []

-- each local is set to 0, then to its initialiser, in which it is in scope
abbrev pub declarator_code : Layout → Scalar → Declarator → Environment → List Statement
declarator_code g t d v = Set (free v) (Constant 0) ∷ initialised g (with_local t d.name.text v) (free v) d.initial

abbrev pub declared_code : Layout → Scalar → List Declarator → Environment → List Statement
declared_code g t [] v = []
declared_code g t (d ∷ rest) v = declarator_code g t d v ++ declared_code g t rest (with_local t d.name.text v)

abbrev pub started : Layout → Beginning → Environment → Statement
started g (Declares t ds) v = in_sequence (declared_code g t ds v)
started g (Performs a) v = performed_optional g v a

-- ---- statements

-- break and continue in a loop; outside a loop the function ends
abbrev pub leaving : Bool → ℕ → Statement
leaving true i = Exit i
leaving false i = Return (Constant 0)

-- a turn of a loop that tests its condition first: `continue` leaves the inner block, `break` also leaves the one around the loop
abbrev pub looped : (test : (Expression → Statement) → Statement) → Statement → Statement → Statement
looped test body step = test (λ x. branch x (Sequence (Block body) step) (Exit 0))

-- what follows the body of a loop that tests its condition last
abbrev pub tested : ((Expression → Statement) → Statement) → Statement
tested test = test (λ x. branch x Skip (Exit 0))

abbrev mutual
  -- the code of a statement, inside a loop or not
  pub lowered : Layout → Bool → Environment → Stmt → Statement
  lowered g b v (tree.Block all) = in_sequence (all_lowered g b (inner v) all)
  lowered g b v (tree.Local t ds) = in_sequence (declared_code g t ds v)
  lowered g b v (Perform a) = performed_optional g v a
  lowered g b v (tree.Return at e) = using_or g v (free v) 0 e (λ x. Return x)
  lowered g b v (Break at) = leaving b 1
  lowered g b v (Continue at) = leaving b 0
  lowered g b v (tree.If c a) = using g v (free v) c (λ x. branch x (lowered g b (inner v) a) Skip)
  lowered g b v (IfElse c a e) = using g v (free v) c (λ x. branch x (lowered g b (inner v) a) (lowered g b (inner v) e))
  lowered g b v (While c body) = Block (Loop (looped (using g v (free v) c) (lowered g true (inner v) body) Skip))
  lowered g b v (DoWhile body c) = Block (Loop (Sequence (Block (lowered g true (inner v) body)) (tested (using g v (free v) c))))
  lowered g b v (For first c step body) =
      Sequence (started g first (inner v))
      (Block (Loop (looped (using_or g (behind_beginning first (inner v)) (free (behind_beginning first (inner v))) 1 c) (lowered g true (inner (behind_beginning first (inner v))) body)
      (performed_optional g (behind_beginning first (inner v)) step))))

  pub all_lowered : Layout → Bool → Environment → Stmts → List Statement
  all_lowered g b v end = []
  all_lowered g b v (next first rest) = lowered g b v first ∷ all_lowered g b (behind first v) rest

-- the environment after a list of statements
abbrev pub behind_all : Stmts → Environment → Environment
behind_all end v = v
behind_all (next first rest) v = behind_all rest (behind first v)

-- the code of a function's body, from the environment in which it begins
abbrev pub body_code : Layout → Environment → Stmts → Statement
body_code g v body = in_sequence (all_lowered g false v body)
