-- A value that code uses: an expression, and the code before it, if any.
use Rattle.std.specs.Prelude.{ℕ, suc, Bool, true, false, List, Option, None, Some, option_map}
use Rattle.std.specs.Global.{Box}
use Rattle.cc_tokens.specs.declared.scalar.Scalar.{Scalar}
use Rattle.cc_ast.specs.declared.ast.BinaryOperator.{BinaryOperator}
use Rattle.cc_ast.specs.Tree.{Expr, Target, AtVariable, AtElement}
use Rattle.cc_types.specs.Scope.{found}
use Rattle.cc_types.specs.Types.{variable_type, element_type}
use Rattle.cc_layout.specs.Layout.{Layout}
use Rattle.cc_layout.specs.Environment.{Environment, types_in}
use Rattle.cc_words.specs.declared.operators.Binary as two
use Rattle.cc_cminor_language.specs.Cminor.{Expression, Constant, Local, Binary, Load, Statement, Set, Store, Sequence}
use Rattle.cc_cminor_language.specs.Code.{expression_of, statement_of}
use Rattle.cc_cminor_language.specs.declared.code.Expression as value
use Rattle.cc_cminor_language.specs.declared.code.Statement as written
use Rattle.cc_cminor.specs.internal.Lowering.{free, object_of, width_of, variable_of, variable_set, binary_of, truth_of, branch, Kind, Conjunction, Disjunction, Strict, is_plain, plain, put_expr, combined}

pub record Taken : Type 0 where
  pub before : Option Statement
  pub value : Expression

-- an operator with two operands, which may be exchanged
abbrev pub in_order : (exchanged : Bool) → two.Binary → Expression → Expression → Expression
in_order true op a b = Binary op b a
in_order false op a b = Binary op a b

-- ---- the code's values

abbrev pub code_before : Option (Box written.Statement) → Option Statement
code_before c = option_map (λ b. statement_of b.value) c

abbrev pub taken_of : Option (Box written.Statement) → Box value.Expression → Taken
taken_of c e = record { before = code_before c; value = expression_of e.value }

-- ---- the value of an expression

-- an expression without code before it
abbrev pub at_once : Expression → Taken
at_once e = record { before = None; value = e }

-- a value that waits in variable k, after the code that puts it there
abbrev pub waiting : ℕ → Statement → Taken
waiting k code = record { before = Some code; value = Local k }

-- a plain expression as it is, any other in variable k
abbrev pub taken_as : (plain : Bool) → Expression → Statement → ℕ → Taken
taken_as true e code k = at_once e
taken_as false e code k = waiting k code

abbrev pub taken : Layout → Environment → ℕ → Expr → Taken
taken g v k e = taken_as (is_plain e) (plain g v e) (put_expr g v k e) k

-- the value of an expression, or the given word if the expression is absent
abbrev pub taken_or : Layout → Environment → ℕ → ℕ → Option Expr → Taken
taken_or g v k w None = at_once (Constant w)
taken_or g v k w (Some e) = taken g v k e

-- ---- what is built from values

-- a statement, after the code that has to precede the value that it uses
abbrev pub behind_code : Option Statement → Statement → Statement
behind_code None s = s
behind_code (Some c) s = Sequence c s

-- an operation's value: it waits in variable k if there is code before its operand
abbrev pub kept : ℕ → Option Statement → Expression → Taken
kept k None e = at_once e
kept k (Some c) e = waiting k (Sequence c (Set k e))

-- puts the value into variable k; if the value waits, it is in k already
abbrev pub put_in : ℕ → Option Statement → Expression → Statement
put_in k None e = Set k e
put_in k (Some c) e = c

-- an operator that needs both operands: the left one waits in variable k if one of them has code before it
abbrev pub strictly : BinaryOperator → Scalar → ℕ → Option Statement → Expression → Option Statement → Expression → Taken
strictly op t k None a None b = at_once (binary_of op t a b)
strictly op t k None a (Some d) b = waiting k (Sequence (Set k a) (Sequence d (Set k (binary_of op t (Local k) b))))
strictly op t k (Some c) a d b = waiting k (Sequence c (behind_code d (Set k (binary_of op t (Local k) b))))

-- `&&` and `||`: what runs if the left operand is not 0, and what runs if it is
abbrev pub decided : Kind → ℕ → Expression → (second : Statement) → Statement
decided Conjunction k a second = branch a second (Set k (Constant 0))
decided Disjunction k a second = branch a (Set k (Constant 1)) second
decided Strict k a second = second

abbrev pub logically : Kind → ℕ → Option Statement → Expression → Option Statement → Expression → Taken
logically p k c a d b = waiting k (behind_code c (decided p k a (behind_code d (Set k (truth_of b)))))

-- the first variable that the right operand may use
abbrev pub right_from : Kind → ℕ → ℕ
right_from Strict k = suc k
right_from p k = k

abbrev pub joined : Kind → BinaryOperator → Scalar → ℕ → Option Statement → Expression → Option Statement → Expression → Taken
joined Strict op t k c a d b = strictly op t k c a d b
joined p op t k c a d b = logically p k c a d b

-- `?:`, given what runs if the test is not 0 and what runs if it is
abbrev pub conditionally : ℕ → Option Statement → Expression → (nonzero otherwise : Statement) → Taken
conditionally k c e a b = waiting k (behind_code c (branch e a b))

-- ---- assignments

-- the first variable that the right side may use: the index waits below it
abbrev pub above_target : Environment → Target → ℕ
above_target v (AtVariable x) = free v
above_target v (AtElement x i) = suc (free v)

-- sets an element whose index waits in variable k
abbrev pub element_set : Layout → Environment → ℕ → Option BinaryOperator → List ℕ → Scalar → Expression → Statement
element_set g v k op x t e =
    Store (width_of g x) (object_of g x) (Local k) (combined op (element_type (found (types_in v) x)) t (Load (width_of g x) (object_of g x) (Local k)) e)

-- sets a target to a right side of this type, with or without an operator on its old value
abbrev pub assigned_to : Layout → Environment → Option BinaryOperator → Target → Scalar → Option Statement → Expression → Statement
assigned_to g v op (AtVariable x) t c e = behind_code c (variable_set g v x.text (combined op (variable_type (found (types_in v) x.text)) t (variable_of g v x.text) e))
assigned_to g v op (AtElement x i) t c e = Sequence (put_expr g v (free v) i) (behind_code c (element_set g v (free v) op x.text t e))
