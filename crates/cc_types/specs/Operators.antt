-- The types in which operators work, and the operators' values on words. The numbers in parentheses are clauses of ISO/IEC
-- 9899:1999. Typing needs the words for constant expressions; the values of all other expressions use the same functions.
use Rattle.std.specs.Prelude.{ℕ, ◌==◌, ◌&&◌, ◌||◌, Bool, not, if◌then◌else◌, Option, Some, None}
use Rattle.cc_words.specs.Words.{truth_value, add, sub, mul, neg, complement, is_zero, eq, ne, lt_s, le_s, lt_u, le_u, div_s, rem_s, div_u, rem_u, shl, shr_s, shr_u, and, or, xor}
use Rattle.cc_ast.specs.scalar.Scalar.{Scalar}
use Rattle.cc_ast.specs.scalar.Scalar.TheVariants.{Int, Unsigned}
use Rattle.cc_ast.specs.declared.ast.UnaryOperator.{UnaryOperator}
use Rattle.cc_ast.specs.declared.ast.UnaryOperator.TheVariants.{Plus, Minus, Complement, Not}
use Rattle.cc_ast.specs.declared.ast.BinaryOperator.{BinaryOperator}
use Rattle.cc_ast.specs.declared.ast.BinaryOperator.TheVariants.{Multiply, Divide, Remainder, Add, Subtract, ShiftLeft, ShiftRight, Less, Greater, LessOrEqual, GreaterOrEqual, Equal, NotEqual, And, Xor, Or, LogicalAnd, LogicalOr}
use Rattle.cc_ast.specs.declared.ast.AssignmentOperator.{AssignmentOperator}
use Rattle.cc_ast.specs.declared.ast.AssignmentOperator.TheVariants as assignment
use Rattle.cc_ast.specs.declared.ast.StepOperator.{StepOperator}
use Rattle.cc_ast.specs.declared.ast.StepOperator.TheVariants.{Increment, Decrement}

-- ---- types

-- the common type of two operands is unsigned if one of them is (6.3.1.8)
abbrev pub common_type : Scalar → Scalar → Scalar
common_type Int t = t
common_type Unsigned t = Unsigned

-- the type in which an operator works: the left operand's for a shift (6.5.7), otherwise the common type
abbrev pub working_type : BinaryOperator → Scalar → Scalar → Scalar
working_type ShiftLeft t u = t
working_type ShiftRight t u = t
working_type op t u = common_type t u

-- the type of a binary operator's value: relations, equality, && and || yield int (6.5.8, 6.5.9, 6.5.13, 6.5.14)
abbrev pub binary_type : BinaryOperator → Scalar → Scalar → Scalar
binary_type Less t u = Int
binary_type Greater t u = Int
binary_type LessOrEqual t u = Int
binary_type GreaterOrEqual t u = Int
binary_type Equal t u = Int
binary_type NotEqual t u = Int
binary_type LogicalAnd t u = Int
binary_type LogicalOr t u = Int
binary_type op t u = working_type op t u

-- the type of a unary operator's value: int for !, the operand's for the others (6.5.3.3)
abbrev pub unary_type : UnaryOperator → Scalar → Scalar
unary_type Not t = Int
unary_type op t = t

-- ---- words

-- the value of a unary operator (6.5.3.3)
abbrev pub unary_word : UnaryOperator → ℕ → ℕ
unary_word Plus a = a
unary_word Minus a = neg a
unary_word Complement a = complement a
unary_word Not a = is_zero a

-- a word that is not 0 counts as true (6.5.13)
abbrev pub is_true : ℕ → Bool
is_true w = not (w == 0)

-- the value of a binary operator for its working type, or None if it is undefined: a quotient by 0 or of -2147483648 by -1, a
-- shift by a count below 0 or above 31. A count below 0 is a word above 31.
abbrev pub binary_word : BinaryOperator → Scalar → ℕ → ℕ → Option ℕ
binary_word Multiply t a b = Some (mul a b)
binary_word Divide Int a b = div_s a b
binary_word Divide Unsigned a b = div_u a b
binary_word Remainder Int a b = rem_s a b
binary_word Remainder Unsigned a b = rem_u a b
binary_word Add t a b = Some (add a b)
binary_word Subtract t a b = Some (sub a b)
binary_word ShiftLeft t a b = shl a b
binary_word ShiftRight Int a b = shr_s a b
binary_word ShiftRight Unsigned a b = shr_u a b
binary_word Less Int a b = Some (lt_s a b)
binary_word Less Unsigned a b = Some (lt_u a b)
binary_word Greater Int a b = Some (lt_s b a)
binary_word Greater Unsigned a b = Some (lt_u b a)
binary_word LessOrEqual Int a b = Some (le_s a b)
binary_word LessOrEqual Unsigned a b = Some (le_u a b)
binary_word GreaterOrEqual Int a b = Some (le_s b a)
binary_word GreaterOrEqual Unsigned a b = Some (le_u b a)
binary_word Equal t a b = Some (eq a b)
binary_word NotEqual t a b = Some (ne a b)
binary_word And t a b = Some (and a b)
binary_word Xor t a b = Some (xor a b)
binary_word Or t a b = Some (or a b)
binary_word LogicalAnd t a b = Some (truth_value (is_true a && is_true b))
binary_word LogicalOr t a b = Some (truth_value (is_true a || is_true b))

-- the value, if the left operand alone decides it; then the right operand is not evaluated (6.5.13, 6.5.14)
abbrev pub decided : BinaryOperator → ℕ → Option ℕ
decided LogicalAnd a = if is_true a then None else Some 0
decided LogicalOr a = if is_true a then Some 1 else None
decided op a = None

-- the operator that an assignment applies to the old value; None for `=` (6.5.16.2)
abbrev pub applied_operator : AssignmentOperator → Option BinaryOperator
applied_operator assignment.Plain = None
applied_operator assignment.Multiply = Some Multiply
applied_operator assignment.Divide = Some Divide
applied_operator assignment.Remainder = Some Remainder
applied_operator assignment.Add = Some Add
applied_operator assignment.Subtract = Some Subtract
applied_operator assignment.ShiftLeft = Some ShiftLeft
applied_operator assignment.ShiftRight = Some ShiftRight
applied_operator assignment.And = Some And
applied_operator assignment.Xor = Some Xor
applied_operator assignment.Or = Some Or

-- ++ is += 1, and -- is -= 1 (6.5.2.4, 6.5.3.1)
abbrev pub step_operator : StepOperator → AssignmentOperator
step_operator Increment = assignment.Add
step_operator Decrement = assignment.Subtract
