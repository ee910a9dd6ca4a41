-- How many variables code uses.
use Rattle.std.specs.Prelude.{ℕ, suc, List, [], ◌∷◌, Option, Some, None, if◌then◌else◌, nat_le}
use Rattle.cc_cminor_language.specs.Cminor.{Expression, Constant, Local, Unary, Binary, Load, Statement, Skip, Set, Store, Call, Read, Write, Sequence, If, Loop, Block, Exit, Return}

-- the smallest number that is above a variable and at least this count
abbrev pub above : (count variable : ℕ) → ℕ
above count x = if nat_le count x then suc x else count

abbrev pub above_result : (count : ℕ) → Option ℕ → ℕ
above_result count None = count
above_result count (Some x) = above count x

-- the smallest number at least this count and above each variable of an expression, of a list, of a statement
abbrev pub above_expression : (count : ℕ) → Expression → ℕ
above_expression count (Constant w) = count
above_expression count (Local x) = above count x
above_expression count (Unary op a) = above_expression count a
above_expression count (Binary op a b) = above_expression (above_expression count a) b
above_expression count (Load width o a) = above_expression count a

abbrev pub above_expressions : (count : ℕ) → List Expression → ℕ
above_expressions count [] = count
above_expressions count (e ∷ es) = above_expressions (above_expression count e) es

abbrev pub above_statement : (count : ℕ) → Statement → ℕ
above_statement count Skip = count
above_statement count (Set x e) = above_expression (above count x) e
above_statement count (Store width o i e) = above_expression (above_expression count i) e
above_statement count (Call to f es) = above_expressions (above_result count to) es
above_statement count (Read to) = above_result count to
above_statement count (Write e) = above_expression count e
above_statement count (Sequence a b) = above_statement (above_statement count a) b
above_statement count (If e a b) = above_statement (above_statement (above_expression count e) a) b
above_statement count (Loop a) = above_statement count a
above_statement count (Block a) = above_statement count a
above_statement count (Exit k) = count
above_statement count (Return e) = above_expression count e
