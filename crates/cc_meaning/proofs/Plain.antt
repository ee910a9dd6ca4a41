-- Operators and the operations that they become.
use Rattle.std.proofs.Common.{◌≡◌, ℕ, List, [], ◌∷◌, ◌++◌, Option, Some, None, refl}
use Rattle.cc_tokens.specs.declared.scalar.Scalar.{Scalar}
use Rattle.cc_tokens.specs.declared.scalar.Scalar.TheVariants.{Int, Unsigned}
use Rattle.cc_ast.specs.declared.ast.BinaryOperator.{BinaryOperator}
use Rattle.cc_ast.specs.declared.ast.BinaryOperator.TheVariants.{Multiply, Divide, Remainder, Add, Subtract, ShiftLeft, ShiftRight, Less, Greater, LessOrEqual, GreaterOrEqual, Equal, NotEqual, And, Xor, Or, LogicalAnd, LogicalOr}
use Rattle.cc_ast.specs.declared.ast.AssignmentOperator.{AssignmentOperator}
use Rattle.cc_ast.specs.declared.ast.AssignmentOperator.TheVariants as assignment
use Rattle.cc_ast.specs.declared.ast.StepOperator.{StepOperator}
use Rattle.cc_ast.specs.declared.ast.StepOperator.TheVariants.{Increment, Decrement}
use Rattle.cc_types.specs.Operators.{binary_word, decided, applied_operator, step_operator}
use Rattle.cc_resolve.specs.Operations.{operation}
use Rattle.cc_meaning.specs.internal.Form.{joined}
use Rattle.cc_resolve.specs.declared.operations.BinaryOperation.{BinaryOperation}
use Rattle.cc_meaning.specs.declared.form.Instruction.{Instruction}
use Rattle.cc_meaning.specs.declared.form.Instruction.TheVariants.{Binary}
use Rattle.cc_c_semantics.specs.Meaning.{cause_of}
use Rattle.cc_meaning.specs.internal.FormMeaning.{binary_result, cause_of_operation}

-- an operator that needs both its operands, and becomes an operation
pub record IsPlain (op : BinaryOperator) : Type 0 where
  pub undecided : (a : ℕ) → decided op a ≡ None
  pub joins : (o : BinaryOperation) (left right : List Instruction) → joined op o left right ≡ (left ++ right) ++ Binary o ∷ []
  pub works : (t : Scalar) (a b : ℕ) → binary_result (operation op t) a b ≡ binary_word op t a b
  pub fails : (t : Scalar) → cause_of_operation (operation op t) ≡ cause_of op

by_scalar : (t : Scalar) (P : Scalar → Type 0) → P Int → P Unsigned → P t
by_scalar Int P p q = p
by_scalar Unsigned P p q = q

plain_multiply : IsPlain Multiply
plain_multiply = record { undecided = λ a. refl; joins = λ o l r. refl; works = λ t a b. refl; fails = λ t. refl }

plain_divide : IsPlain Divide
plain_divide = record {
  undecided = λ a. refl;
  joins = λ o l r. refl;
  works = λ t a b. by_scalar t (λ u. binary_result (operation Divide u) a b ≡ binary_word Divide u a b) refl refl;
  fails = λ t. by_scalar t (λ u. cause_of_operation (operation Divide u) ≡ cause_of Divide) refl refl;
}

plain_remainder : IsPlain Remainder
plain_remainder = record {
  undecided = λ a. refl;
  joins = λ o l r. refl;
  works = λ t a b. by_scalar t (λ u. binary_result (operation Remainder u) a b ≡ binary_word Remainder u a b) refl refl;
  fails = λ t. by_scalar t (λ u. cause_of_operation (operation Remainder u) ≡ cause_of Remainder) refl refl;
}

plain_add : IsPlain Add
plain_add = record { undecided = λ a. refl; joins = λ o l r. refl; works = λ t a b. refl; fails = λ t. refl }

plain_subtract : IsPlain Subtract
plain_subtract = record { undecided = λ a. refl; joins = λ o l r. refl; works = λ t a b. refl; fails = λ t. refl }

plain_shift_left : IsPlain ShiftLeft
plain_shift_left = record { undecided = λ a. refl; joins = λ o l r. refl; works = λ t a b. refl; fails = λ t. refl }

plain_shift_right : IsPlain ShiftRight
plain_shift_right = record {
  undecided = λ a. refl;
  joins = λ o l r. refl;
  works = λ t a b. by_scalar t (λ u. binary_result (operation ShiftRight u) a b ≡ binary_word ShiftRight u a b) refl refl;
  fails = λ t. by_scalar t (λ u. cause_of_operation (operation ShiftRight u) ≡ cause_of ShiftRight) refl refl;
}

plain_less : IsPlain Less
plain_less = record {
  undecided = λ a. refl;
  joins = λ o l r. refl;
  works = λ t a b. by_scalar t (λ u. binary_result (operation Less u) a b ≡ binary_word Less u a b) refl refl;
  fails = λ t. by_scalar t (λ u. cause_of_operation (operation Less u) ≡ cause_of Less) refl refl;
}

plain_greater : IsPlain Greater
plain_greater = record {
  undecided = λ a. refl;
  joins = λ o l r. refl;
  works = λ t a b. by_scalar t (λ u. binary_result (operation Greater u) a b ≡ binary_word Greater u a b) refl refl;
  fails = λ t. by_scalar t (λ u. cause_of_operation (operation Greater u) ≡ cause_of Greater) refl refl;
}

plain_less_or_equal : IsPlain LessOrEqual
plain_less_or_equal = record {
  undecided = λ a. refl;
  joins = λ o l r. refl;
  works = λ t a b. by_scalar t (λ u. binary_result (operation LessOrEqual u) a b ≡ binary_word LessOrEqual u a b) refl refl;
  fails = λ t. by_scalar t (λ u. cause_of_operation (operation LessOrEqual u) ≡ cause_of LessOrEqual) refl refl;
}

plain_greater_or_equal : IsPlain GreaterOrEqual
plain_greater_or_equal = record {
  undecided = λ a. refl;
  joins = λ o l r. refl;
  works = λ t a b. by_scalar t (λ u. binary_result (operation GreaterOrEqual u) a b ≡ binary_word GreaterOrEqual u a b) refl refl;
  fails = λ t. by_scalar t (λ u. cause_of_operation (operation GreaterOrEqual u) ≡ cause_of GreaterOrEqual) refl refl;
}

plain_equal : IsPlain Equal
plain_equal = record { undecided = λ a. refl; joins = λ o l r. refl; works = λ t a b. refl; fails = λ t. refl }

plain_not_equal : IsPlain NotEqual
plain_not_equal = record { undecided = λ a. refl; joins = λ o l r. refl; works = λ t a b. refl; fails = λ t. refl }

plain_and : IsPlain And
plain_and = record { undecided = λ a. refl; joins = λ o l r. refl; works = λ t a b. refl; fails = λ t. refl }

plain_xor : IsPlain Xor
plain_xor = record { undecided = λ a. refl; joins = λ o l r. refl; works = λ t a b. refl; fails = λ t. refl }

plain_or : IsPlain Or
plain_or = record { undecided = λ a. refl; joins = λ o l r. refl; works = λ t a b. refl; fails = λ t. refl }

-- an operator is `&&`, `||` or a plain one
pub data Kind (op : BinaryOperator) : Type 0 where
  IsAnd : op ≡ LogicalAnd → Kind op
  IsOr : op ≡ LogicalOr → Kind op
  IsOther : IsPlain op → Kind op

pub kind_of : (op : BinaryOperator) → Kind op
kind_of Multiply = IsOther plain_multiply
kind_of Divide = IsOther plain_divide
kind_of Remainder = IsOther plain_remainder
kind_of Add = IsOther plain_add
kind_of Subtract = IsOther plain_subtract
kind_of ShiftLeft = IsOther plain_shift_left
kind_of ShiftRight = IsOther plain_shift_right
kind_of Less = IsOther plain_less
kind_of Greater = IsOther plain_greater
kind_of LessOrEqual = IsOther plain_less_or_equal
kind_of GreaterOrEqual = IsOther plain_greater_or_equal
kind_of Equal = IsOther plain_equal
kind_of NotEqual = IsOther plain_not_equal
kind_of And = IsOther plain_and
kind_of Xor = IsOther plain_xor
kind_of Or = IsOther plain_or
kind_of LogicalAnd = IsAnd refl
kind_of LogicalOr = IsOr refl

-- the operator that an assignment applies, if any, is plain
abbrev pub IsPlainIfAny : Option BinaryOperator → Type 0
IsPlainIfAny None = Unit {0}
IsPlainIfAny (Some op) = IsPlain op

pub applied_is_plain : (op : AssignmentOperator) → IsPlainIfAny (applied_operator op)
applied_is_plain assignment.Plain = tt
applied_is_plain assignment.Multiply = plain_multiply
applied_is_plain assignment.Divide = plain_divide
applied_is_plain assignment.Remainder = plain_remainder
applied_is_plain assignment.Add = plain_add
applied_is_plain assignment.Subtract = plain_subtract
applied_is_plain assignment.ShiftLeft = plain_shift_left
applied_is_plain assignment.ShiftRight = plain_shift_right
applied_is_plain assignment.And = plain_and
applied_is_plain assignment.Xor = plain_xor
applied_is_plain assignment.Or = plain_or

pub step_is_plain : (op : StepOperator) → IsPlainIfAny (applied_operator (step_operator op))
step_is_plain Increment = plain_add
step_is_plain Decrement = plain_subtract
