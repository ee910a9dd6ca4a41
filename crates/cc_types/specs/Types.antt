-- The type of an expression (C99 6.5), and the value of a constant expression (C99 6.6).
use Rattle.std.specs.Prelude.{ℕ, Bool, true, false, ◌&&◌, ◌-◌, ◌%◌, ◌^◌, List, [], ◌∷◌, ◌++◌, length, map, replicate, Option, Some, None, if◌then◌else◌, option_map, unwrap_or}
use Rattle.cc_words.specs.Words.{lt_s}
use Rattle.cc_words.specs.Widths.{words_of}
use Rattle.cc_words.specs.declared.operators.Width.{Width}
use Rattle.cc_words.specs.declared.operators.Width.TheVariants.{Byte, Word}
use Rattle.cc_ast.specs.scalar.Scalar.{Scalar}
use Rattle.cc_ast.specs.scalar.Scalar.TheVariants.{Int, Unsigned}
use Rattle.cc_ast.specs.Tree as tree
use Rattle.cc_ast.specs.Tree.{Name, Expr, Exprs, none, more, Number, Element, Call, Parenthesised, Unary, Cast, Binary, Conditional, Target, AtVariable, AtElement, ConstantExpr, Object, Single, Array, Bytes}
use Rattle.cc_types.specs.Operators.{common_type, working_type, binary_type, unary_type, unary_word, binary_word, decided, is_true}
use Rattle.cc_types.specs.Scope.{Entity, Variable, Elements, Function, Binding, found}

-- the type of a variable's value; a name that is not a variable is judged as if it were one of type int
abbrev pub variable_type : Option Entity → Scalar
variable_type (Some (Variable t)) = t
variable_type e = Int

-- the type of an array's elements
abbrev pub element_type : Option Entity → Scalar
element_type (Some (Elements t)) = t
element_type e = Int

-- the type of a function's result; None for void
abbrev pub result_type : Option Entity → Option Scalar
result_type (Some (Function r ts)) = r
result_type e = Some Int

-- a result's type, with int in place of void
abbrev pub or_int : Option Scalar → Scalar
or_int None = Int
or_int (Some t) = t

-- the type of an expression's value, given the names in scope (6.5)
abbrev pub value_type : List Binding → Expr → Scalar
value_type bs (Number t n) = t
value_type bs (tree.Variable x) = variable_type (found bs x.text)
value_type bs (Element x e) = element_type (found bs x.text)
value_type bs (Call f es) = or_int (result_type (found bs f.text))
value_type bs (Parenthesised e) = value_type bs e
value_type bs (Unary op e) = unary_type op (value_type bs e)
value_type bs (Cast t e) = t
value_type bs (Binary op a b) = binary_type op (value_type bs a) (value_type bs b)
value_type bs (Conditional c a b) = common_type (value_type bs a) (value_type bs b)

-- the type of an assignment's target
abbrev pub target_type : List Binding → Target → Scalar
target_type bs (AtVariable x) = variable_type (found bs x.text)
target_type bs (AtElement x e) = element_type (found bs x.text)

-- ---- constant expressions

-- an expression contains no name and no call, not even in a part that is not evaluated
abbrev pub is_constant : Expr → Bool
is_constant (Number t n) = true
is_constant (tree.Variable x) = false
is_constant (Element x e) = false
is_constant (Call f es) = false
is_constant (Parenthesised e) = is_constant e
is_constant (Unary op e) = is_constant e
is_constant (Cast t e) = is_constant e
is_constant (Binary op a b) = is_constant a && is_constant b
is_constant (Conditional c a b) = is_constant c && (is_constant a && is_constant b)

-- the word if it is decided, otherwise the value of the rest
abbrev pub decided_or : Option ℕ → Option ℕ → Option ℕ
decided_or None rest = rest
decided_or (Some w) rest = Some w

-- continues with a word if there is one
abbrev pub with_word : Option ℕ → (ℕ → Option ℕ) → Option ℕ
with_word None go = None
with_word (Some w) go = go w

-- the word of an expression without names and calls, or None if it goes wrong; a conversion keeps the word (6.3.1.3)
abbrev pub constant_value : Expr → Option ℕ
constant_value (Number t n) = Some n
constant_value (tree.Variable x) = None
constant_value (Element x e) = None
constant_value (Call f es) = None
constant_value (Parenthesised e) = constant_value e
constant_value (Unary op e) = option_map (unary_word op) (constant_value e)
constant_value (Cast t e) = constant_value e
constant_value (Binary op a b) =
    with_word (constant_value a) (λ x. decided_or (decided op x)
    (with_word (constant_value b) (λ y. binary_word op (working_type op (value_type [] a) (value_type [] b)) x y)))
constant_value (Conditional c a b) = with_word (constant_value c) (λ w. if is_true w then constant_value a else constant_value b)

-- the word of a constant expression, or None if it is not constant or goes wrong
abbrev pub constant_word : ConstantExpr → Option ℕ
constant_word c = if is_constant c.expr then constant_value c.expr else None

-- how many elements an array of this length has: 0 if the length is of type int and below 0 (6.7.5.2)
abbrev pub elements_of_word : Scalar → ℕ → ℕ
elements_of_word Int w = if is_true (lt_s w 0) then 0 else w
elements_of_word Unsigned w = w

-- how many elements an array has, if known: as many as its length says, or, if it has no length, as many as its list has
abbrev pub array_length : Option ConstantExpr → List ConstantExpr → Option ℕ
array_length None values = Some (length values)
array_length (Some c) values = option_map (elements_of_word (value_type [] c.expr)) (constant_word c)

-- how many elements an array has, or 0 if the number is not known
abbrev pub array_elements : Option ConstantExpr → List ConstantExpr → ℕ
array_elements n values = unwrap_or (array_length n values) 0

-- how many elements an object has; a single object has one
abbrev pub object_elements : Object → ℕ
object_elements (Single x initial) = 1
object_elements (Array x n values) = array_elements n values
object_elements (Bytes x n values) = array_elements n values

-- how wide an object's elements are
abbrev pub object_width : Object → Width
object_width (Single x initial) = Word
object_width (Array x n values) = Word
object_width (Bytes x n values) = Byte

-- how many words an object occupies: four bytes are one word, and a partly filled last word counts
abbrev pub object_words : Object → ℕ
object_words o = words_of (object_width o) (object_elements o)

-- ---- objects before the run

-- the word of an initialiser, or 0 if there is no initialiser (6.7.8)
abbrev pub initial_word : Option ConstantExpr → ℕ
initial_word None = 0
initial_word (Some c) = unwrap_or (constant_word c) 0

-- a 0 for each element that an array's list does not reach (6.7.8)
abbrev pub zeros_behind : Option ConstantExpr → List ConstantExpr → List ℕ
zeros_behind n values = replicate (array_elements n values - length values) 0

-- the words of an object's elements; a byte keeps the low eight bits (6.3.1.3)
abbrev pub initial_words : Object → List ℕ
initial_words (Single x e) = initial_word e ∷ []
initial_words (Array x n values) = map (λ (c : ConstantExpr). initial_word (Some c)) values ++ zeros_behind n values
initial_words (Bytes x n values) = map (λ (c : ConstantExpr). initial_word (Some c) % 2 ^ 8) values ++ zeros_behind n values
